-- That a call on numbers keeps the promise that the statement about streams speaks of: Keeps.
pub mod Keeps
