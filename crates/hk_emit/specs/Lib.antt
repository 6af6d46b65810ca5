pub mod Numbers
pub mod Details
pub mod Accept
pub mod Accepted
