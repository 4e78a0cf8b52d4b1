pub mod Judging
pub mod Pairs
pub mod Spelling
