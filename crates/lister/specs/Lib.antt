-- What a listing goes by. How to read it is said in crates/row/specs/Lib.antt and crates/film_words/specs/Lib.antt.
pub mod Listing
