-- The herald and what is refused before the walk. The files, in reading order: Herald (its numbers, the bands of a page, and a page's window) and
-- Refusals (the table of the refusals before the walk). Each ends with worked cases that the check computes. How to read them is said in
-- crates/row/specs/Lib.antt, crates/refusal/specs/Lib.antt and crates/film_words/specs/Lib.antt.
pub mod Herald
pub mod Refusals
