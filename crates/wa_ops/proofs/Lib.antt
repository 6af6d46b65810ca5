pub mod Marking
pub mod Parsing
pub mod Tables
pub mod FinerBound
pub mod RulesByName
pub mod RowLemmas
pub mod Places
pub mod Types
