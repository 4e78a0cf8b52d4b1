pub mod Examples
pub mod Searches
