pub mod Ready
pub mod Second
pub mod Trip
