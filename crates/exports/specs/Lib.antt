-- Request Five of document 02: the exact value of a float in a vehicle's units, and the export.
pub mod Floats
pub mod Fields
pub mod Export
pub mod Bits
pub mod Answers
