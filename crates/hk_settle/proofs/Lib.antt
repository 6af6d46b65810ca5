pub mod Lined
pub mod Walking
pub mod Finding
pub mod Ready
pub mod Coming
pub mod Called
