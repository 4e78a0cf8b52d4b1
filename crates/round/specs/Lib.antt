pub mod Modes
pub mod Places
pub mod Steps
pub mod Laws
pub mod Promise
