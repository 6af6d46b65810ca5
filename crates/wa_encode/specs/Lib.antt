pub mod Fitting
pub mod Instructions
pub mod Modules
pub mod Numbers
pub mod Vectors
