pub mod Paying
pub mod Covering
pub mod Ending
