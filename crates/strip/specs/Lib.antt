-- What the strip printer's receiver means. In reading order: Packets (the format and what a header may say), Commands (the command that a byte is),
-- Phases (the phases as numbers), Coding (a run-coded body), Dots (tiles, palette, the printed rows), Actions (what a whole packet asks for), Reading
-- (the plain reading of a stream), Step (one byte, of any record) and Streams (the statement about streams).
pub mod Packets
pub mod Commands
pub mod Phases
pub mod Coding
pub mod Dots
pub mod Actions
pub mod Reading
pub mod Step
pub mod Streams
pub mod Witness
