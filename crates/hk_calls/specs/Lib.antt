pub mod Codes
pub mod Arguments
pub mod Rules
pub mod Outputs
pub mod Answers
pub mod Laws
