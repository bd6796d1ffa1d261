-- What belongs to no one function: the theorems and the starred chains, laws of the definitions as the code meets them, and that the contract allows one
-- outcome.
pub mod Nothing
pub mod Gears
pub mod Stages
pub mod Places
pub mod Saying
pub mod Passed
pub mod Shown
pub mod Chosen
pub mod Listed
pub mod Wanted
pub mod Theorems
pub mod Cases
pub mod Contracts
pub mod Determined
