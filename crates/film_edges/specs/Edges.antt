-- The place of an edge on a line, rounded up.
use Rattle.std.specs.Prelude.{◌≡◌, ℕ, suc, ◌/◌, ℤ, pos, negsuc, neg_ℤ}
use Rattle.film_words.specs.Words.{ceil_div}
use Rattle.film_imaging.specs.Masks.{edge}

-- x / n, rounded up: of a negative x the quotient without its fraction is already the greater one
unfoldable pub ceil_z : ℤ → ℕ → ℤ
ceil_z (pos x) n = pos (ceil_div x n)
ceil_z (negsuc x) n = neg_ℤ (pos (suc x / n))

-- the place of an edge, rounded up, d lines after its first line: it is at a there, and at z n lines after it
unfoldable pub edge_at : (a z n d : ℕ) → ℤ
edge_at a z n d = let place = edge a z n d in ceil_z place.numerator place.denominator

-- ---- worked cases

pub record EdgeCases : Type 0 where
  pub whole : ceil_z (pos 6) 3 ≡ pos 2
  pub up : ceil_z (pos 7) 3 ≡ pos 3
  pub negative_whole : ceil_z (neg_ℤ (pos 6)) 3 ≡ neg_ℤ (pos 2)
  pub negative_up : ceil_z (neg_ℤ (pos 7)) 3 ≡ neg_ℤ (pos 2)
  pub negative_fraction : ceil_z (neg_ℤ (pos 2)) 3 ≡ pos 0
  pub nothing : ceil_z (pos 0) 3 ≡ pos 0
  -- from 0 to 3 over two lines: 3/2 on the line between, so 2
  pub rising : edge_at 0 3 2 1 ≡ pos 2
  -- from 3 to 0: 3, then 3/2, so 2, then 0
  pub falling_first : edge_at 3 0 2 0 ≡ pos 3
  pub falling : edge_at 3 0 2 1 ≡ pos 2
  pub falling_last : edge_at 3 0 2 2 ≡ pos 0
  -- a slope of a third of a dot a line: no error grows
  pub third_lines : edge_at 0 4 12 9 ≡ pos 3
  pub before_line : edge_at 0 4 12 8 ≡ pos 3
  pub largest : edge_at 131070 0 65534 65534 ≡ pos 0
  -- it may go below zero after its last line
  pub after_last : edge_at 1 0 2 5 ≡ neg_ℤ (pos 1)
  pub no_lines : edge_at 3 7 0 5 ≡ pos 3

pub edge_cases : EdgeCases
unfolding ceil_z edge_at edge
edge_cases = search
