pub mod Methods
pub mod Count
