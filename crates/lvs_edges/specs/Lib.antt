pub mod Edges
pub mod Left
pub mod Nodes
pub mod Plain
pub mod Crossing
pub mod Sides
