pub mod Names
pub mod Carrying
pub mod Flat
pub mod Bounds
pub mod Judging
pub mod AreTyped
