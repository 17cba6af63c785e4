pub mod Apart
pub mod States
pub mod PlainBytes
pub mod Turns
pub mod Answers
