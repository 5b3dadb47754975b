-- Laws of the load file. Assumes nothing.
use mathlib.Core.Path.{◌≡◌, sym, ap, ◌∙◌}
use mathlib.Core.List.{List}
use Prim.Native.Nat.{ℕ, ◌+◌}
use lib.ListN.{drop}
use lib.Seq.{drop-drop}
use Rattle.film_words.specs.Words.{words}
use Rattle.film_words.specs.Load.{load_words}

-- the load's words from address a on, by their place
pub load_from : (load : List ℕ) (v a : ℕ) → v ≡ a → drop (2 + v) (words load) ≡ drop a (load_words load)
unfolding load_words
load_from load v a h = sym (drop-drop v 2 (words load)) ∙ ap (λ (x : ℕ). drop x (drop 2 (words load))) h
