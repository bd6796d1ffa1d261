-- What belongs to no one function.
pub mod TextInTurn
pub mod Jobs
pub mod Determined
pub mod Demands
