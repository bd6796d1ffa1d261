-- What belongs to no one function: laws of the definitions as the code meets them.
pub mod Patches
pub mod Reworking
pub mod Working
pub mod Demands
pub mod Determined
