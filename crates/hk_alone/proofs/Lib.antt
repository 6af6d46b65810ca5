pub mod Blob
pub mod OneHost
pub mod Beginning
pub mod Fitting
