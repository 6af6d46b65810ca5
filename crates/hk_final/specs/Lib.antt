pub mod Final
pub mod Entered
pub mod Totals
pub mod Plain
pub mod Reserved
pub mod Counted
