-- The receiver's record and answers as numbers, for callers in C and Rust: Numbers. That a call on numbers keeps the promise that the statement about
-- streams speaks of (crates/strip/specs, Streams): Keeps.
pub mod Numbers
pub mod Keeps
