-- The Class 3 cycle, its parts, and what filling a room with it refuses and leaves.
pub mod Cycle
pub mod Parts
