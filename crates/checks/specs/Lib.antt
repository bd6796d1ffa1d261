-- What the checks promise and ask, in the words of their contracts.
pub mod Asked
pub mod Checks
pub mod Calm
pub mod Want
