pub mod Buffers
pub mod Checks
pub mod Faults
pub mod Frames
pub mod Laws
