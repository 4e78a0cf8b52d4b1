pub mod Decimals
pub mod Leading
pub mod Positions
pub mod Refusals
pub mod Sizes
pub mod Standing
