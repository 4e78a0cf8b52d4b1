pub mod Addresses
pub mod Digits
pub mod Faults
pub mod Patterns
pub mod Replies
pub mod Requests
