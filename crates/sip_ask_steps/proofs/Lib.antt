mod AllTurns
mod Following
mod Going
mod NextTurn
mod Opening
mod Settling
mod Standing
mod Stopping
