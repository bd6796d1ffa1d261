-- What belongs to no one function.
pub mod BytesLeft
pub mod HeldSizes
pub mod Bytes
pub mod Ends
pub mod Checked
pub mod BothWays
pub mod Demands
pub mod Contracts
pub mod Determined
