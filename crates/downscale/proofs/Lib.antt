-- What belongs to no one function.
pub mod Fractions
pub mod Rounding
pub mod Changes
pub mod Stepping
pub mod ScaledRoom
pub mod Theorems
pub mod Determined
pub mod Demands
pub mod Cases
