-- The laws of the check (Checking), for the proofs of this crate and of the crates above it.
pub mod Checking
