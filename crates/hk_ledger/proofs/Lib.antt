pub mod Defining
pub mod Whole
pub mod Applied
pub mod Entered
pub mod Settled
pub mod Opening
pub mod Conserving
pub mod Units
