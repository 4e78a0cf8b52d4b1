pub mod Placing
pub mod Stepping
pub mod Tracing
pub mod Obeying
pub mod Promising
