pub mod Faults
pub mod FixedLists
