-- The laws of a cursor's steps, for the proofs of this crate and of the crates above it: Cursors.
pub mod Cursors
