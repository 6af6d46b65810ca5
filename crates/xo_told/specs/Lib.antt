pub mod Reading
pub mod Faults
pub mod Guesses
pub mod Told
pub mod Laws
pub mod Worked
