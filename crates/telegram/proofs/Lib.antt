pub mod Asking
pub mod Fitting
pub mod Replying
pub mod Telling
pub mod Writing
