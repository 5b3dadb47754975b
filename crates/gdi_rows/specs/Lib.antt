-- Bytes put at a place of an output, as the private functions do: Places, which ends with worked cases that the check computes. What the row writer
-- writes is defined in crates/gdi_jobs/specs, in Rows and Writers.
pub mod Places
