-- Refusals. The files, in reading order: Answers (an answer that may be a refusal), Tables (a table of refusals, read from the top), Faults (the
-- number of each fault) and Code (what the code's answers stand for). How to read them is said in crates/row/specs/Lib.antt; `data Answer (A : Type 0)` is the answers of which what is asked
-- for is an A, `{A : Type 0}` need not be written, and `Unit` has one thing, `tt`, in it.
pub mod Answers
pub mod Tables
pub mod Faults
pub mod Code
