pub mod Codes
pub mod Blobs
pub mod DemoLines
pub mod Summary
