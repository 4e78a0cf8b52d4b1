pub mod Exchanging
pub mod Listing
pub mod Making
pub mod Ordering
pub mod Stretches
