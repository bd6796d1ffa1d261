-- What belongs to no one function.
pub mod Steps
pub mod GroupAnswers
pub mod StageAnswers
pub mod Loops
pub mod WholeJob
pub mod Rooms
pub mod PutInTurn
pub mod Demands
pub mod Contracts
pub mod Determined
