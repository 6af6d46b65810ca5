pub mod Name
pub mod Key
pub mod Bytes
pub mod Showing
pub mod Shows
pub mod Placed
pub mod Laws
pub mod Worked
