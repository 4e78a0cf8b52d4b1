pub mod Scanning
pub mod Counting
pub mod Reading
pub mod Addressing
pub mod Naming
pub mod Picking
pub mod Stating
pub mod Adding
