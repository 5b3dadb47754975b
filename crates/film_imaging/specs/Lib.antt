-- The imaging rules, dot by dot. The files, in reading order: Masks (what a mask covers), Colours (tiles, and how a mask is painted in a colour) and Pictures
-- (what strokes do to a whole film, and the bytes of its rows). Each ends with worked cases that the check computes. How to read them is
-- said in crates/row/specs/Lib.antt and crates/film_words/specs/Lib.antt; ℤ is the whole numbers of either sign, `pos n` is n there, +ℤ, -ℤ and *ℤ are the
-- sum, the difference and the product, and `le_z` and `lt_z` test ≤ and <. A division by 0 gives 0 and leaves the dividend; where one could
-- come, the test beside it settles the dot.
pub mod Masks
pub mod Colours
pub mod Pictures
