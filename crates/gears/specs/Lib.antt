pub mod Powers
pub mod Second
pub mod Choosing
pub mod Limits
