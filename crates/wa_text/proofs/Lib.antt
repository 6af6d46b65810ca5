pub mod Cutting
pub mod Fitting
pub mod FittingDrafts
pub mod FittingItems
pub mod FittingLines
pub mod Folding
pub mod Labels
pub mod Sizes
