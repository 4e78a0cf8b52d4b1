pub mod Tables
pub mod Choices
pub mod Memories
pub mod Replies
