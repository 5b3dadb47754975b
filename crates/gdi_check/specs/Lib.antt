-- What the code's answers say: Answers; and what its private functions go by: Functions. What the check answers is defined in crates/gdi_jobs/specs, in
-- Jobs.
pub mod Answers
pub mod Functions
