-- What the code's answer says: Answers. What the line reader answers, and the row that it leaves, is defined in crates/gdi_jobs/specs, in Lines. What a
-- pass over a line does: Functions.
pub mod Answers
pub mod Functions
