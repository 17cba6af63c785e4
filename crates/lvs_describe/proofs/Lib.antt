pub mod Puts
pub mod Appended
pub mod Items
pub mod Containers
pub mod Loops
pub mod Walked
pub mod Whole
