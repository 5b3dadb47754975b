-- The laws of the row writer, for the proofs of this crate: Places (bytes put at places of an output), Rows (the runs of a row put into blocks) and
-- Refusals (what the row writer asks for).
pub mod Places
pub mod Rows
pub mod Refusals
