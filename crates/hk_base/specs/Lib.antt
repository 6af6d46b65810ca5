pub mod Hashes
pub mod Hexadecimal
pub mod Outside
pub mod Memory
pub mod Standard
pub mod Rows
