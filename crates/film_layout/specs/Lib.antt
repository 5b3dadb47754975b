-- Pages and bands as they stand in a sheet. The files, in reading order: Layout (pages and bands, and the way to one of them), which ends with worked
-- cases that the check computes, and Walks (what the walk's answers stand for). How to read them is said in crates/row/specs/Lib.antt,
-- crates/refusal/specs/Lib.antt and crates/film_words/specs/Lib.antt.
pub mod Layout
pub mod Walks
