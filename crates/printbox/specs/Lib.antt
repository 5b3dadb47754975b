-- That demand 3 speaks of the library's check and draw: Draws. The numbers of each answer are in crates/printbox_answers/specs. What the entry points answer is defined in
-- the crates below: the check of a sheet in crates/film_check/specs, in Check; a draw in crates/film_drawing/specs, in Draw; jobs, lines and writers in
-- crates/gdi_jobs/specs, in Jobs, Lines and Writers; and a linefill in crates/gdi_write/specs, in Paper.
pub mod Draws
