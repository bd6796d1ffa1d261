-- What belongs to no one function.
pub mod Along
pub mod Trip
pub mod Determined
pub mod Seconds
pub mod Passes
pub mod Closing
pub mod Clutch
pub mod Bytes
