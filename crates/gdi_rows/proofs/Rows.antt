-- Laws of the walk over the runs of a row, which puts their commands into blocks. Assumes nothing.
use mathlib.Core.Path.{◌≡◌, refl, sym, ap, ◌∙◌}
use mathlib.Core.Bool.{Bool, cond}
use mathlib.Core.Logic.{◌⊎◌, inl, inr, ⊎_elim}
use mathlib.Core.List.{List, [], ◌∷◌, ◌++◌, append_assoc, append-nil, map}
use Prim.Native.Nat.{ℕ, ◌+◌, ◌-◌, ◌*◌, ◌/◌, ◌%◌, ◌<◌, ◌≤◌}
use native.Mathlib.Omega.{arith}
use native.Mathlib.Decide.{dec_le}
use borrow.Author.Tests.{lt-ltb, le-ltb, le-leb, lt-leb}
use lib.Dec.{leb}
use lib.ListN.{length, drop, length-append}
use Rattle.row.specs.Dots.{dot_at, bit}
use Rattle.row_runs.specs.Runs.{run_end}
use Rattle.row.specs.Counts.{joined}
use Rattle.row_runs.proofs.Runs.{run_end_le, run_end-past}
use Rattle.gdi_jobs.specs.Commands.{Command, run}
use Rattle.gdi_jobs.specs.Rows.{runs_from, runs, command_bytes, blocks, block_bytes, row_bytes}
use Rattle.gdi_jobs.proofs.Rows.{runs-first, runs_none}
use Rattle.gdi_rows.specs.Places.{put_at}
use Rattle.gdi_rows.proofs.Places.{Held, held_none, held_as, held_more, held_over, held_self, held_before}

-- ---- commands

-- a command of one byte, and one of two
pub command_short : (black : Bool) (dots : ℕ) {colour : ℕ} → colour ≡ 64 * bit black → dots < 64 → (colour + dots) ∷ [] ≡ command_bytes (run black dots)
unfolding command_bytes
command_short black dots e h = rw (lt-ltb _ _ h, e) refl

pub command_long : (black : Bool) (dots : ℕ) {colour : ℕ} → colour ≡ 64 * bit black → 64 ≤ dots
    → (128 + colour + dots % 64) ∷ dots / 64 ∷ [] ≡ command_bytes (run black dots)
unfolding command_bytes
command_long black dots e h = rw (le-ltb _ _ h, e) refl

pub command_le : (black : Bool) (dots : ℕ) → length (command_bytes (run black dots)) ≤ 2
command_le black dots = go (dec_le 64 dots)
  where
    go : Dec (64 ≤ dots) → length (command_bytes (run black dots)) ≤ 2
    go (yes h) = omega (arith, ap length (command_long black dots refl h))
    go (no h) = let l : dots < 64 = omega arith in omega (arith, ap length (command_short black dots refl l))

-- ---- blocks

-- the head of a block of at most 255 bytes
abbrev pub block_head : (size : ℕ) → List ℕ
block_head size = 0x12 ∷ 0x00 ∷ size ∷ 0x00 ∷ 0x00 ∷ 0x00 ∷ []

block_bytes_lem : (block : List ℕ) {size : ℕ} → size ≡ length block → size ≤ 255 → block_bytes block ≡ block_head size ++ block
unfolding block_bytes
block_bytes_lem block {size} e h =
    let q : length block / 256 ≡ 0 = omega arith in
    let m : length block % 256 ≡ size = omega arith in
    rw (q, m) refl

-- a command that its block has room for, and one that it has not
blocks_here : (block : List ℕ) (c : Command) (cs : List Command) → length block + length (command_bytes c) ≤ 255
    → blocks block (c ∷ cs) ≡ blocks (block ++ command_bytes c) cs
unfolding blocks
blocks_here block c cs h = rw (le-leb _ _ h) refl

blocks-next : (block : List ℕ) (c : Command) (cs : List Command) → 255 < length block + length (command_bytes c)
    → blocks block (c ∷ cs) ≡ block ∷ blocks (command_bytes c) cs
unfolding blocks
blocks-next block c cs h = rw (lt-leb _ _ h) refl

-- the block that takes n bytes more: it is the same, or the next
pub block_place : (head size n : ℕ) {head' size' : ℕ} → head' ≡ cond (leb (size + n) 255) head (head + 6 + size) → size' ≡ cond (leb (size + n) 255) (size + n) n
    → ((size + n ≤ 255) × (head' ≡ head) × (size' ≡ size + n)) ⊎ ((255 < size + n) × (head' ≡ head + 6 + size) × (size' ≡ n))
block_place head size n {head'} {size'} i s = go (dec_le (size + n) 255)
  where
    go : Dec (size + n ≤ 255) → ((size + n ≤ 255) × (head' ≡ head) × (size' ≡ size + n)) ⊎ ((255 < size + n) × (head' ≡ head + 6 + size) × (size' ≡ n))
    go (yes l) = inl (l, i ∙ rw (le-leb _ _ l) refl, s ∙ rw (le-leb _ _ l) refl)
    go (no l) = let t : 255 < size + n = omega arith in inr (t, i ∙ rw (lt-leb _ _ t) refl, s ∙ rw (lt-leb _ _ t) refl)

-- its place and its size
pub record Takes (head size n head' size' : ℕ) : Type 0 where
  pub most : size' ≤ 255
  pub some : n ≤ size'
  pub near : head' + size' ≤ head + size + 8

pub block_takes : {head size n head' size' : ℕ} → n ≤ 2 → head' ≡ cond (leb (size + n) 255) head (head + 6 + size)
    → size' ≡ cond (leb (size + n) 255) (size + n) n → Takes head size n head' size'
block_takes {head} {size} {n} h i s =
    ⊎_elim (λ p. record { most = omega arith; some = omega arith; near = omega arith }) (λ p. record { most = omega arith; some = omega arith; near = omega arith })
    (block_place head size n i s)

-- ---- the walk

-- a run is not empty, and ends within the width
pub run_within : (row : List ℕ) {from width end : ℕ} → from < width → end ≡ run_end (dot_at row) from width → (from < end) × (end ≤ width)
run_within row {from} {width} h e = (rw e (run_end-past (dot_at row) from width h), rw e (run_end_le (dot_at row) from width))

-- The walk stands at dot `from`. The commands before it are put into blocks: `finished` are the bytes of all but the last of these, whose head comes
-- after them, and `block` are those of its commands.
pub record Walked (width : ℕ) (row out₀ : List ℕ) (from head size : ℕ) (out : List ℕ) : Type 0 where
  pub finished : List ℕ
  pub block : List ℕ
  pub place : head ≡ length finished
  pub filled : size ≡ length block
  pub most : size ≤ 255
  pub within : from ≤ width
  pub few : head + size ≤ 8 * from
  pub bytes : row_bytes width row ≡ finished ++ joined (map block_bytes (blocks block (runs_from (dot_at row) from (width - from))))
  pub held : Held out₀ (finished ++ (block_head size ++ block)) out

-- a block without commands is put before the walk
pub head_held : {out₀ out : List ℕ} → out ≡ put_at (block_head 0) 0 out₀ → Held out₀ (block_head 0) out
head_held {out₀} e = held_more out₀ [] (block_head 0) (held_none out₀) refl e

pub walked-first : (width : ℕ) (row : List ℕ) {out₀ out : List ℕ} → Held out₀ (block_head 0) out → Walked width row out 0 0 0 out
unfolding row_bytes runs
walked-first width row h =
    let z : width ≡ width - 0 = omega arith in
    record {
      finished = [];
      block = [];
      place = refl;
      filled = refl;
      most = omega arith;
      within = omega arith;
      few = omega arith;
      bytes = ap (λ (n : ℕ). joined (map block_bytes (blocks [] (runs_from (dot_at row) 0 n)))) z;
      held = held_self h;
    }

-- the next run: the block that takes its command gets its head anew, with the new size
pub walked_next : {width : ℕ} {row out₀ out out₁ out₂ : List ℕ} {from head size end n head' size' at : ℕ} {black : Bool}
    → Walked width row out₀ from head size out → from < width → end ≡ run_end (dot_at row) from width → black ≡ dot_at row from
    → n ≡ length (command_bytes (run black (end - from)))
    → head' ≡ cond (leb (size + n) 255) head (head + 6 + size) → size' ≡ cond (leb (size + n) 255) (size + n) n
    → at ≡ head' + 6 + size' - n → out₁ ≡ put_at (block_head size') head' out → out₂ ≡ put_at (command_bytes (run black (end - from))) at out₁
    → Walked width row out₀ end head' size' out₂
unfolding joined
walked_next {width} {row} {out₀} {out} {out₁} {out₂} {from} {head} {size} {end} {n} {head'} {size'} {at} {black} w h e b k i s p o₁ o₂ =
    ⊎_elim here next (block_place head size n i s)
  where
    d : ℕ → Bool
    d = dot_at row

    c : Command
    c = run black (end - from)

    m : List ℕ
    m = command_bytes c

    rest : List Command
    rest = runs_from d end (width - end)

    first : runs_from d from (width - from) ≡ c ∷ rest
    first = rw (b, e) (runs-first d from width h)

    past : (from < end) × (end ≤ width)
    past = run_within row h e

    two : n ≤ 2
    two = rw k (command_le black (end - from))

    here : (size + n ≤ 255) × (head' ≡ head) × (size' ≡ size + n) → Walked width row out₀ end head' size' out₂
    here t =
        let f = w.finished in
        let blk = w.block in
        let la = length-append blk m in
        let r : length blk + length m ≤ 255 = omega (arith, w.filled) in
        let q : at ≡ length (f ++ (block_head size' ++ blk)) = simp length-append (omega (arith, w.place, w.filled)) in
        record {
          finished = f;
          block = blk ++ m;
          place = t.1 ∙ w.place;
          filled = omega (arith, w.filled);
          most = omega arith;
          within = past.1;
          few = omega (arith, w.few, past, two);
          bytes =
              w.bytes ∙ ap (λ (cs : List Command). f ++ joined (map block_bytes (blocks blk cs))) first
              ∙ ap (λ (bs : List (List ℕ)). f ++ joined (map block_bytes bs)) (blocks_here blk c rest r);
          held = held_as (held_more out₀ _ m (held_over out₀ f (block_head size) blk (block_head size') w.held (t.1 ∙ w.place) refl o₁) q o₂) (simp append_assoc);
        }

    next : (255 < size + n) × (head' ≡ head + 6 + size) × (size' ≡ n) → Walked width row out₀ end head' size' out₂
    next t =
        let f = w.finished ++ (block_head size ++ w.block) in
        let z : length f ≡ head + 6 + size = simp length-append (omega (arith, w.place, w.filled)) in
        let r : 255 < length w.block + length m = omega (arith, w.filled) in
        let q : at ≡ length (f ++ block_head size') = omega (arith, length-append f (block_head size')) in
        record {
          finished = f;
          block = m;
          place = t.1 ∙ sym z;
          filled = t.2 ∙ k;
          most = omega (arith, two);
          within = past.1;
          few = omega (arith, w.few, past, two);
          bytes =
              w.bytes ∙ ap (λ (cs : List Command). w.finished ++ joined (map block_bytes (blocks w.block cs))) first
              ∙ ap (λ (bs : List (List ℕ)). w.finished ++ joined (map block_bytes bs)) (blocks-next w.block c rest r)
              ∙ ap (λ (x : List ℕ). w.finished ++ (x ++ joined (map block_bytes (blocks m rest)))) (block_bytes_lem w.block w.filled w.most)
              ∙ sym (append_assoc w.finished (block_head size ++ w.block) (joined (map block_bytes (blocks m rest))));
          held = held_as (held_more out₀ _ m (held_more out₀ f (block_head size') w.held (t.1 ∙ sym z) o₁) q o₂) (append_assoc f (block_head size') m);
        }

-- what the walk leaves: the number of the line's bytes, and the output
pub record Done (width : ℕ) (row out₀ : List ℕ) (bytes : ℕ) (out : List ℕ) : Type 0 where
  pub size : bytes ≡ length (row_bytes width row)
  pub made : length (row_bytes width row) ≤ length out₀ → out ≡ row_bytes width row ++ drop (length (row_bytes width row)) out₀

-- no run is left
pub walked-done : {width : ℕ} {row out₀ out₁ out : List ℕ} {from head size : ℕ} → Held out₀ (block_head 0) out₁
    → Walked width row out₁ from head size out → width ≤ from → Done width row out₀ (head + 6 + size) out
unfolding blocks joined
walked-done {width} {row} {out₀} {out₁} {out} {from} {head} {size} first w h =
    let d = dot_at row in
    let none = runs_none d from width h in
    let all : row_bytes width row ≡ w.finished ++ (block_head size ++ w.block) =
    w.bytes ∙ ap (λ (cs : List Command). w.finished ++ joined (map block_bytes (blocks w.block cs))) none
    ∙ ap (λ (x : List ℕ). w.finished ++ x) (append-nil (block_bytes w.block) ∙ block_bytes_lem w.block w.filled w.most) in
    let n : head + 6 + size ≡ length (row_bytes width row) = sym (ap length all ∙ simp length-append (omega (arith, w.place, w.filled))) in
    record {
      size = n;
      made = (held_before first (omega arith) (held_as w.held (sym all))).made;
    }
