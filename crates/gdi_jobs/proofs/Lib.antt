-- The laws of Sagem GDI jobs, for the proofs of this crate and of the crates above it. Commands, Groups, Pages, Jobs, Lines, Rows and Writers bear the names
-- of the files in specs/ whose definitions they are about; Passing says that the check passes a line as the line reader reads it; ReadingBack,
-- ReadingThrough, RunLengths and Room prove the statements of the files of these names in specs/.
pub mod Commands
pub mod Groups
pub mod Pages
pub mod Jobs
pub mod Lines
pub mod Passing
pub mod Rows
pub mod Writers
pub mod ReadingBack
pub mod ReadingThrough
pub mod RunLengths
pub mod Room
