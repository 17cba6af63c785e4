pub mod Types
pub mod States
pub mod Faults
pub mod Answers
