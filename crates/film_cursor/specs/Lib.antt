-- What a cursor over a band's commands, and a step of it, stand for: Cursors. The commands themselves are in crates/film_commands/specs. How to read it
-- is said in crates/row/specs/Lib.antt, crates/refusal/specs/Lib.antt and crates/film_words/specs/Lib.antt; `code.X` is the type X as the code declares it.
pub mod Cursors
