mod Origins
mod Parts
mod Pieces
mod PlacesMore
