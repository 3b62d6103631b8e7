mod Lines
mod Examples
