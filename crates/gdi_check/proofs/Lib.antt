-- The laws of the job check, for the proofs of this crate: Head (its bytes), Steps (a step by what stands there, and its bounds), Walk (where the walk
-- stands) and Ends (a job over the limit).
pub mod Head
pub mod Steps
pub mod Walk
pub mod Ends
