pub mod Rework
