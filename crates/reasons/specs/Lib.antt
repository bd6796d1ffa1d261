-- What the functions that explain a second ask of their arguments, and the words of the theorems on what they say.
pub mod Asks
pub mod Says
