pub mod Filling
pub mod Judging
pub mod Lists
pub mod Ordering
pub mod Passed
pub mod Trips
