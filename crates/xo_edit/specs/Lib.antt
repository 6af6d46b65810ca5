pub mod Part
pub mod Edit
