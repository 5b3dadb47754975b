-- What a draw answers and promises, and demand 3. The files, in reading order: Examples (sheets for the worked cases), Picture (a page's whole
-- picture), Draw (what a draw answers and what its buffer holds then), Promise (what a draw promises), Demand3 (the demand, one statement) and
-- Witnesses (its premises are met). How to read them is said in crates/row/specs/Lib.antt and crates/film_words/specs/Lib.antt.
--
-- How to read a statement. A `Type 0` is a statement or a kind of thing. `(x : A) → B` says B of every x of A, `{x : A} → B` says the same where x
-- need not be written, and `A → B` between statements says that B holds where A does. `m ≤ n` and `m < n` are statements about numbers, `¬ A`
-- and `A → ⊥` say that A does not hold, and `A × B` is both. A `record` that is a statement is all of its parts, and what stands in front of its
-- colon is what it speaks of; a `data` that is a statement, like `Made`, holds where one of its lines gives it. `Memᴰ c l` says that c is
-- one of the list l, and `map g l` is the list of g of each of l.
pub mod Examples
pub mod Picture
pub mod Draw
pub mod Promise
pub mod Demand3
pub mod Witnesses
