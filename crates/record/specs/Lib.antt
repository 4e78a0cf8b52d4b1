pub mod Chains
pub mod Codings
pub mod Faults
pub mod Numbers
pub mod Records
pub mod Values
