-- The place of a trapezoid's edge on a line, rounded up: Edges, which ends with worked cases that the check computes. How to read it is said in
-- crates/row/specs/Lib.antt; ℤ is the whole numbers of either sign: `pos n` is n there, `negsuc n` is −(n + 1), and `neg_ℤ` changes the sign.
pub mod Edges
