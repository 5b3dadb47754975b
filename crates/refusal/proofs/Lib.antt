-- The laws of answers and of tables of refusals, for the proofs of the crates above.
pub mod Answers
pub mod Tables
