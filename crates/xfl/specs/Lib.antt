-- Decimals of sixteen digits: their values, the cut, and what each operation answers.
pub mod Cut
pub mod Operations
pub mod Steps
pub mod Value
