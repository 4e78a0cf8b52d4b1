pub mod Laws
pub mod Quantities
pub mod Table
pub mod Units
