-- What belongs to no one function.
pub mod Copied
pub mod Stretches
pub mod Sound
pub mod Table
pub mod Drives
pub mod Theorems
pub mod Determined
pub mod Demands
pub mod Cases
