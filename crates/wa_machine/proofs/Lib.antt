pub mod Typed
pub mod Budget
pub mod Sane
pub mod Steps
pub mod Plain
pub mod Runs
pub mod Endings
pub mod Kept
