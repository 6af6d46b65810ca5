pub mod Accounts
pub mod Bounded
pub mod History
pub mod Laws
