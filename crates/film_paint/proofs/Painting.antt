-- Laws of one dot painted. Assumes nothing.
use mathlib.Core.Path.{◌≡◌, refl, sym, ap, ◌∙◌}
use mathlib.Core.Bool.{Bool, true, false, cond, ◌||◌, and-true, and-false, or-true, or-false, or_self, or_assoc}
use mathlib.Core.List.{List}
use Prim.Native.Nat.{ℕ}
use native.Mathlib.Decide.{ℕ_discrete}
use borrow.Author.Tests.{eq-eqb, ne_eqb}
use lib.Dec.{eqb}
use lib.ListN.{length}
use Rattle.row.specs.Dots.{dot_at, row_of}
use Rattle.row.specs.Stretches.{with_dot}
use Rattle.row.proofs.Dots.{Bytes, row_is}
use Rattle.film_words.specs.Words.{words}
use Rattle.film_words.specs.Arrays.{tile_in}
use Rattle.film_commands.specs.Band.{Colour, solid, tiled}
use Rattle.film_commands.specs.Code.{colour_of}
use Rattle.film_commands.specs.declared.Tile as code-tile
use Rattle.film_commands.specs.declared.Colour as code
use Rattle.film_commands.specs.declared.Colour.TheVariants.{Solid, Tile}
use Rattle.film_imaging.specs.Colours.{tile_dot, painted}

-- off the mask a dot stays
pub painted_off : (C : Colour) (s f : ℕ) (I : Bool) → painted C s f false I ≡ I
unfolding painted
painted_off (solid v) s f I = simp (and-true, and-false, or-false)
painted_off (tiled false a ws) s f I = simp (and-true, and-false, or-false)
painted_off (tiled true a ws) s f I = simp (and-false, or-false)

-- one mask after another in the same colour is the two together
pub painted_twice : (C : Colour) (s f : ℕ) (M N I : Bool) → painted C s f N (painted C s f M I) ≡ painted C s f (M || N) I
unfolding painted
painted_twice C s f false N I = ap (painted C s f N) (painted_off C s f I)
painted_twice C s f true false I = painted_off C s f (painted C s f true I)
painted_twice (solid v) s f true true I = simp (and-false, and-true)
painted_twice (tiled false a ws) s f true true I = simp (and-false, and-true)
painted_twice (tiled true a ws) s f true true I = simp (and-true, or_assoc, or_self)

-- a solid colour
pub solid-painted : (C : code.Colour) (s f : ℕ) (v M I : Bool) → C ≡ Solid v → cond M v I ≡ painted (colour_of C) s f M I
unfolding painted colour_of
solid-painted C s f v true I e = rw e (simp (and-false, and-true))
solid-painted C s f v false I e = sym (painted_off (colour_of C) s f I)

-- the address of a tile is not looked at
pub any_address : (t : Bool) (a b : ℕ) (ws : List ℕ) (s f : ℕ) (M I : Bool) → painted (tiled t a ws) s f M I ≡ painted (tiled t b ws) s f M I
unfolding painted
any_address false a b ws s f M I = refl
any_address true a b ws s f M I = refl

-- a tile
pub tile-painted : (C : code.Colour) (s f : ℕ) (t : code-tile.Tile) (M I : Bool) → C ≡ Tile t
    → painted (tiled t.transparent 0 (words t.words.now)) s f M I ≡ painted (colour_of C) s f M I
unfolding colour_of
tile-painted C s f t M I e = rw e (any_address t.transparent 0 t.address (words t.words.now) s f M I)

-- ---- what the code writes on the mask

pub solid_dot : (C : code.Colour) (s f : ℕ) (I v : Bool) → C ≡ Solid v → v ≡ painted (colour_of C) s f true I
solid_dot C s f I v e = solid-painted C s f v true I e

-- where a tile is 1
one_dot : (t : Bool) (a : ℕ) (ws : List ℕ) (s f : ℕ) (I : Bool) → tile_dot (tile_in ws) s f ≡ true → true ≡ painted (tiled t a ws) s f true I
unfolding painted
one_dot false a ws s f I e = rw e (simp or-true)
one_dot true a ws s f I e = rw e (simp or-true)

-- in a tile; c is its dot
module _ (C : code.Colour) (s f : ℕ) (I c : Bool) (t : code-tile.Tile) (is : C ≡ Tile t) (d : c ≡ tile_dot (tile_in (words t.words.now)) s f) where
  pub ink_dot : c ≡ true → c ≡ painted (colour_of C) s f true I
  unfolding colour_of
  ink_dot o = rw is (o ∙ one_dot t.transparent t.address (words t.words.now) s f I (sym d ∙ o))

  pub opaque_dot : t.transparent ≡ false → c ≡ painted (colour_of C) s f true I
  unfolding painted colour_of
  opaque_dot e = rw (is, e, ← d) (simp (and-false, and-true))

  -- where a transparent tile is 0 the dot stays
  pub keep_dot : t.transparent ≡ true → c ≡ false → I ≡ painted (colour_of C) s f true I
  unfolding painted colour_of
  keep_dot e o = rw (is, e, ← d, o) (simp or-false)

-- ---- the row, when its dot j was written, and when it stays

pub dot_written : (row row' : List ℕ) (j : ℕ) (v x : Bool) → row' ≡ row_of (length row) (with_dot j v (dot_at row)) → v ≡ x
    → row' ≡ row_of (length row) (with_dot j x (dot_at row))
dot_written row row' j v x e h = e ∙ ap (λ (y : Bool). row_of (length row) (with_dot j y (dot_at row))) h

pub dot_kept : (row : List ℕ) (j : ℕ) (x : Bool) → Bytes row → dot_at row j ≡ x → row ≡ row_of (length row) (with_dot j x (dot_at row))
unfolding with_dot
dot_kept row j x bytes h = row_is (length row) (with_dot j x (dot_at row)) row bytes refl (λ g l. go g (ℕ_discrete g j))
  where
    go : (g : ℕ) → Dec (g ≡ j) → dot_at row g ≡ cond (eqb g j) x (dot_at row g)
    go g (yes e) = rw (eq-eqb g j e, e) h
    go g (no n) = rw (ne_eqb g j n)
