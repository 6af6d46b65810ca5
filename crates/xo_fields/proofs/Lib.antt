pub mod Cases
pub mod HeaderBytes
pub mod LengthBytes
pub mod LeastDecimal
pub mod Digits
pub mod AmountBytes
pub mod OneAnswer
