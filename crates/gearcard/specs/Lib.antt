-- What the card program prints.
pub mod Printing
