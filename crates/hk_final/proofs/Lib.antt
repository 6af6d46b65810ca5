pub mod There
pub mod Entered
pub mod Totals
pub mod Numbers
pub mod Reserved
pub mod Plain
pub mod Counted
