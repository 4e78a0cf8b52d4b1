pub mod Requests
pub mod Faults
pub mod Lists
pub mod Probes
pub mod Searches
pub mod Picks
pub mod Laws
