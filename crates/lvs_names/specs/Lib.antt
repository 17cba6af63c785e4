pub mod Rows
pub mod Alone
pub mod Answers
pub mod Contents
pub mod Comparing
