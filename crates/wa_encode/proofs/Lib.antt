pub mod Items
pub mod ModuleSpelled
pub mod Shortest
pub mod Writing
