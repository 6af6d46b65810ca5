pub mod RuleLemmas
pub mod Lengths
pub mod Walks
