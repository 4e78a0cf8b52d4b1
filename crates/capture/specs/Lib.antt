pub mod Faults
pub mod Cutting
pub mod Recordings
pub mod Rows
pub mod Meaning
pub mod Captures
