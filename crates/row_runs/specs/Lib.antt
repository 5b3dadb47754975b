-- What the contracts of `row_runs` mean. The files, in reading order: Runs (where a run of like dots ends) and Spare (the dots past a width). Each ends with
-- worked cases that the check computes. How to read them is said in crates/row/specs/Lib.antt.
pub mod Runs
pub mod Spare
