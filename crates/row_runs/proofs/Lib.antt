-- The laws of runs and of spare dots, for the proofs of this crate and of the crates above it. The files bear the names of those in specs/ whose
-- definitions they are about.
pub mod Runs
pub mod Spare
