-- The scaled cycle, step by step as Annex 1 has it, and in closed form.
pub mod Steps
pub mod Closed
