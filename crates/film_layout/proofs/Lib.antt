-- The laws of pages and bands (Pages), of one step of the walk (Walks) and of the ways to one page and to one of its bands (Reaching), for the
-- proofs of this crate and of the crates above it.
pub mod Pages
pub mod Walks
pub mod Reaching
