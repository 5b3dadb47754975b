-- What the last byte of a header leaves: Heads.
pub mod Heads
