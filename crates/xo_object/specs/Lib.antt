pub mod Names
pub mod Transaction
