pub mod Bound
pub mod Written
