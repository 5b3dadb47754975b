-- What the contracts of `gdi_write` say beside the definitions of crates/gdi_jobs/specs: Paper (the formats, and what `linefill` answers), which ends with
-- worked cases that the check computes, and Answers (what the code's answers say, and what is told of a page head). How to read them is said in
-- crates/row/specs/Lib.antt and crates/gdi_jobs/specs/Lib.antt.
pub mod Paper
pub mod Answers
