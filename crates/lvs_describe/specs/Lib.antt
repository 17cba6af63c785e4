pub mod Parts
pub mod Lent
pub mod Sorts
pub mod Answers
