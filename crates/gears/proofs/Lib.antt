-- What belongs to no one function: laws of the definitions as the code meets them, and that each contract allows one outcome.
pub mod Speeds
pub mod Determined
pub mod Near
pub mod Powers
pub mod Tests
pub mod Derating
pub mod Reach
pub mod Choices
