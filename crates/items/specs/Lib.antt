pub mod Collecting
pub mod Runs
pub mod Steps
pub mod Views
