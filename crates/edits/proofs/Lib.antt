-- Where an edit lies, each way out of it, what carrying it out leaves, that each contract allows one outcome, and what the contracts say.
pub mod Places
pub mod Answers
pub mod Carried
pub mod Determined
pub mod Demands
