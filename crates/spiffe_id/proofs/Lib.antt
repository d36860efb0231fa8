mod Pieces
mod Sound
mod Complete
