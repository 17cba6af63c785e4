pub mod Names
pub mod Read
pub mod Alone
pub mod Comparing
