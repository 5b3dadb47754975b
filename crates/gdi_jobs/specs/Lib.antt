-- The meaning of Sagem GDI jobs. The files, in reading order: Commands (one command of a line), Groups (the head, page heads, blocks and ends),
-- Pages (what comes next in a page), Jobs (what the job check answers), Lines (what the line reader answers, and the row), Rows (the bytes that a
-- row is written as), Writers (what each writer writes or refuses), ReadingBack (what is written reads back: two statements), ReadingThrough (what the
-- check passes is read without a refusal), RunLengths (no run of a row is too long for a command) and Room (how long an output is always enough for a
-- row). Each but ReadingBack ends with worked cases: the check computes both sides of every line and refuses one that differs. What the code's answers
-- say is in the crates of the code.
--
-- How to read them is said in crates/row/specs/Lib.antt, and of statements in crates/film_drawing/specs/Lib.antt. A job is a list of its bytes, and a
-- meaning reads the list of the bytes from some place on; the place itself is carried beside it for answers alone. `a ++ b` is the list a, then the
-- list b; `take n l` is the first n of l, and `drop n l` what comes after them; `set l i b` is l with b at place i; `||` is 'or', and `map g l` the list
-- of g of each of l. A text stands between quotes; `char_at text i` is its character i, counted from 0, and `code c` the code of a character.
pub mod Commands
pub mod Groups
pub mod Pages
pub mod Jobs
pub mod Lines
pub mod Rows
pub mod Writers
pub mod ReadingBack
pub mod ReadingThrough
pub mod RunLengths
pub mod Room
