-- The laws of texts, for the proofs of this crate. The files bear the names of those in specs/ whose definitions they are about.
pub mod Numbers
pub mod Lines
