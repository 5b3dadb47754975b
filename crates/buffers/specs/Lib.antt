-- What the contract of `buffers` means: Buffers has what a buffer holds when bytes are put into it, and how many were put. It ends with worked
-- cases: the check computes both sides of every line and refuses one that differs.
--
-- How to read it is said in crates/row/specs/Lib.antt; here there is more. `a ++ b` is the list a, then the list b, and `drop n l` is what comes
-- after the first n of the list l.
pub mod Buffers
