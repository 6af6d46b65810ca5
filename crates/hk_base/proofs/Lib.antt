pub mod HexText
pub mod Options
pub mod RowLemmas
