-- What draw's private functions need and answer. What draw itself promises is in crates/film_drawing/specs.
pub mod Functions
