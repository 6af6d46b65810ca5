pub mod Feeding
pub mod Moves
pub mod Invariant
pub mod Ended
pub mod Exits
pub mod Gathers
