-- What the reader promises, and what the functions inside it answer.
pub mod Reader
pub mod Progress
pub mod Lent
