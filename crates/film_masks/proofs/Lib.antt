-- The laws of a band inked, for the proofs of this crate and of the crates above it: Bands (a mask on a band buffer), and Lines and Runs (where the loops
-- over lines and over runs stand).
pub mod Bands
pub mod Lines
pub mod Runs
