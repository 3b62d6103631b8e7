mod SpreadCall
mod SpreadRules
mod SpreadEdits
mod SpreadItems
mod SpreadStands
