pub mod Draft
pub mod Fitting
pub mod Instructions
pub mod Lines
pub mod Meaning
pub mod Numbers
pub mod Worked
