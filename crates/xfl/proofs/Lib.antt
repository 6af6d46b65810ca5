pub mod Bits
pub mod Cuts
pub mod Functions
pub mod OneCut
pub mod Ranks
pub mod Results
pub mod Sums
pub mod Wholes
