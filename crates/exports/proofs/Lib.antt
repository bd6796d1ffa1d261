-- What belongs to no one function.
pub mod Values
pub mod Sizes
pub mod RecordAnswers
pub mod Once
pub mod WholeExport
pub mod Determined
pub mod Told
pub mod Accepted
pub mod Demands
pub mod Theorems
pub mod Cases
