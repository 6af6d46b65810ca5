pub mod Readings
pub mod Edits
pub mod FloatLemmas
pub mod Lengths
