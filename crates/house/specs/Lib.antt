pub mod Words
pub mod Numbers
pub mod Fields
pub mod Lines
pub mod Houses
pub mod Taking
pub mod Memory
