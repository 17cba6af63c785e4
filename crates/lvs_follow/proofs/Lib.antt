pub mod Steps
pub mod Pairs
