-- The laws of bytes that are put into a buffer, for the proofs of this crate and of those above it.
pub mod Buffers
