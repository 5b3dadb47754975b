-- What the code's answers say: Answers; and its forms of groups: Forms. Groups, and what comes next in a page, are defined in crates/gdi_jobs/specs, in
-- Groups and Pages.
pub mod Answers
pub mod Forms
