-- The check of a film sheet. The files, in reading order: Check (what the check answers), which ends with worked cases that the check computes, and
-- Promise (what it promises). The layout of a sheet is in crates/film_layout/specs, the refusals before the walk are in crates/film_herald/specs.
-- How to read them is said in crates/row/specs/Lib.antt, crates/refusal/specs/Lib.antt and crates/film_words/specs/Lib.antt.
pub mod Check
pub mod Promise
