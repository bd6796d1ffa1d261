-- The laws of the counting code, that each contract allows one outcome, and request Nine over the contract of `summary_of`.
pub mod Counting
pub mod Settling
pub mod Totals
pub mod Determined
pub mod Demands
