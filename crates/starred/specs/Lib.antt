-- The starred cases of the requirements, gathered under one statement, which proofs/ proves of the meanings of films (crates/film_commands/specs,
-- crates/film_imaging/specs) and of GDI jobs (crates/gdi_jobs/specs). How to read it is said in crates/row/specs/Lib.antt.
pub mod Starred
