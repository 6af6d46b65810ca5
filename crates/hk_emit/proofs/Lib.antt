pub mod Taking
pub mod Saying
pub mod Judging
pub mod Joining
