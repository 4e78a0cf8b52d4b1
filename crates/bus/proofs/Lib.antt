pub mod Choosing
pub mod Keeping
pub mod Answering
pub mod Sharing
