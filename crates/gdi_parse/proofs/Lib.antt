-- The laws of forms, for the proofs of this crate.
pub mod Forms
