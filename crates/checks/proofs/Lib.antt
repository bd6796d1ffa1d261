-- What belongs to no one function: laws of the definitions as the code meets them.
pub mod Through
pub mod Rows
pub mod OnePass
pub mod Scans
pub mod Tests
pub mod Calmness
pub mod Pieces
pub mod Wanting
pub mod Way
pub mod Dry
pub mod Determined
