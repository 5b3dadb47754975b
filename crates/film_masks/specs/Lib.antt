-- What the functions that ink a mask into a band promise: Bands (the dots of a band buffer after a mask was painted), which ends with worked cases that
-- the check computes, and Lines (the loop over lines). Masks and colours themselves are in crates/film_imaging/specs. How to read it is said in crates/row/specs/Lib.antt and
-- crates/film_words/specs/Lib.antt.
pub mod Bands
pub mod Lines
