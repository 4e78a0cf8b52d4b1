pub mod Adding
pub mod Answering
pub mod Bodies
pub mod Running
pub mod Stepping
