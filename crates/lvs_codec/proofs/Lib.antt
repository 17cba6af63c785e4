pub mod Codec
pub mod Same
pub mod Describes
pub mod Writes
