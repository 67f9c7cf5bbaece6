mod Moves
mod Rising
mod Taking
