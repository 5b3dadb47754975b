-- The laws of the table of refusals (Refusals) and of the herald's sizes (Herald), for the proofs of this crate and of the crates above it.
pub mod Refusals
pub mod Herald
