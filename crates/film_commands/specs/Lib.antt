-- The commands of a band. The files, in reading order: Refusals (the table of what is refused in one command), Commands (what a command is, and how one
-- is read from its words), Band (the commands of a band one after another, and the strokes that they are) and Code (what the command reader's answers
-- stand for). Each but the first, whose cases are in Commands, ends with worked cases that the check computes. How to read them is said in
-- crates/row/specs/Lib.antt, crates/refusal/specs/Lib.antt and crates/film_words/specs/Lib.antt; `code.X` is the type X as the code declares it.
pub mod Refusals
pub mod Commands
pub mod Band
pub mod Code
