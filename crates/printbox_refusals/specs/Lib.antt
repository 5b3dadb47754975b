-- The refusals that an entry of the library can give, under one statement, which proofs/ proves of what the entries answer (crates/printbox/src/lib.rt
-- names the definitions). How to read it is said in crates/row/specs/Lib.antt.
pub mod Refusals
