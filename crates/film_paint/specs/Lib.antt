-- What the functions promise that paint a line: Loops (what the loop over a row's dots asks of its mask) and Rows (a row's dots after a mask was painted). Rows ends with worked cases that the check
-- computes. Masks and colours themselves are in crates/film_imaging/specs. How to read it is said in crates/row/specs/Lib.antt and
-- crates/film_words/specs/Lib.antt.
pub mod Loops
pub mod Rows
