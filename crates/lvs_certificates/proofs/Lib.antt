pub mod Places
pub mod Searches
pub mod Keys
