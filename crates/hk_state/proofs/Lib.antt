mod Bounds
pub mod Kept
pub mod Ordered
pub mod Listing
pub mod Making
pub mod Told
pub mod Leasts
pub mod Walks
pub mod Owned
pub mod Installing
pub mod Fits
pub mod Listed
pub mod Paid
