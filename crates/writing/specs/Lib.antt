-- What the writer promises, and what the functions inside it do.
pub mod Writing
