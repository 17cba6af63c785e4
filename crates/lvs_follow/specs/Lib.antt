pub mod Answers
pub mod Following
