-- The laws of the line reader, for the proofs of this crate.
pub mod Reading
pub mod Answering
