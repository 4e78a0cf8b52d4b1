pub mod Hearing
pub mod Carrying
pub mod Exchanging
pub mod Replying
pub mod Sent
pub mod Trying
pub mod Retrying
