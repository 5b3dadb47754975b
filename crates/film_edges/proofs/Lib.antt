-- The laws of an edge's place, for the proofs of this crate and of the crates above it.
pub mod Edges
pub mod Stretch
