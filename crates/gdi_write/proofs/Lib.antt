-- The laws of what a writer writes or refuses, for the proofs of this crate and of those above it.
pub mod Writers
