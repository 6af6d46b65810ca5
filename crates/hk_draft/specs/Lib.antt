pub mod Lists
pub mod Draft
pub mod Drafted
pub mod Reads
pub mod Extends
pub mod Writers
pub mod Ends
pub mod Laws
