pub mod Answers
pub mod Causes
pub mod Gathered
pub mod Turned
pub mod Going
pub mod Through
