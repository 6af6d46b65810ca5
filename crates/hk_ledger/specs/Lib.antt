pub mod World
pub mod Reports
pub mod Machine
pub mod Replays
