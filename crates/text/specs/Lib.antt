-- What the contracts of `text` mean: the lines that a listing has, as lists of ASCII codes. The files, in reading order: Numbers (digits) and Lines
-- (the four lines). Each ends with worked cases: the check computes both sides of every line and refuses one that differs. What a buffer holds when
-- a line is put into it is said in crates/buffers/specs/Buffers.antt.
--
-- How to read them is said in crates/row/specs/Lib.antt; here there is more. `a ++ b` is the list a, then the list b, and `drop n l` is what comes
-- after the first n of the list l.
pub mod Numbers
pub mod Lines
