pub mod Bytes
pub mod Spelled
pub mod Number
pub mod Element
pub mod Answers
pub mod Lists
pub mod Fields
