-- The laws of draw's functions: Inking (strokes carried out on a band buffer), Counting and Chunks (its dots, by row and by what is left) and Drawing (the
-- draw's answer and buffer).
pub mod Inking
pub mod Counting
pub mod Chunks
pub mod Drawing
