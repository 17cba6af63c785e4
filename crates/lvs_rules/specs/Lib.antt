pub mod Lowest
pub mod Broken
pub mod Faults
