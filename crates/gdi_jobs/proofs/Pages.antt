-- Laws of what comes next in a page. Assumes nothing.
use mathlib.Core.Path.{◌≡◌, refl, subst}
use mathlib.Core.Bool.{Bool, true, false, cond}
use mathlib.Core.List.{List, [], ◌∷◌}
use Prim.Native.Nat.{ℕ, zero, suc, ◌%◌, ◌<◌, ◌≤◌}
use native.Mathlib.Omega.{arith}
use borrow.Author.Tests.{lt-leb}
use lib.Dec.{leb}
use lib.ListN.{length, get_or}
use Rattle.row.proofs.Dots.{Bytes}
use Rattle.gdi_jobs.specs.Commands.{Command, run, dots_of, taken, broken, black_bit, with_second, command}
use Rattle.gdi_jobs.specs.Groups.{Group, cut, page_head, wrong_page_head, block, page_end, document_end, unknown, group}
use Rattle.gdi_jobs.specs.Pages.{Next, to_block, to_end, to_command, fault, in_gap, of_command, next}
use Rattle.gdi_jobs.proofs.Groups.{never, group_long}

-- ---- what comes next

-- what is known of it: a block's head and the page's end stand where no byte of a block is left, and the bytes that it takes are there
abbrev pub Sound : (left : ℕ) → List ℕ → Next → Type 0
Sound left bs (to_block size) = (left ≡ 0) × (6 ≤ length bs)
Sound left bs to_end = (left ≡ 0) × (6 ≤ length bs)
Sound left bs (to_command c n) = (1 ≤ n) × ((n ≤ 2) × ((n ≤ left) × (n ≤ length bs)))
Sound left bs (fault number i) = i ≤ length bs

gap_sound : (m : Bool) (bs : List ℕ) (g : Group) → group bs ≡ g → Sound 0 bs (in_gap m (length bs) g)
gap_sound m bs cut e = omega arith
gap_sound m bs (page_head w v) e = omega arith
gap_sound m bs wrong_page_head e = omega arith
gap_sound m bs (block size) e = (refl, group_long bs (λ c. never (cc)))
gap_sound true bs page_end e = (refl, group_long bs (λ c. never (cc)))
gap_sound false bs page_end e = omega arith
gap_sound m bs document_end e = omega arith
gap_sound m bs unknown e = omega arith

command-sound : (left c : ℕ) (rest : List ℕ) → Sound (suc left) (c ∷ rest) (of_command (command (suc left) c rest))
unfolding command
command-sound left c rest = go (leb 128 c) left rest
  where
    go : (two : Bool) (left : ℕ) (rest : List ℕ)
        → Sound (suc left) (c ∷ rest) (of_command (cond two (cond (leb (suc left) 1) (broken 24 0) (with_second c rest)) (taken (run (black_bit c) (c % 64)) 1)))
    go false left rest = omega arith
    go true zero rest = omega arith
    go true (suc left) [] = rw (lt-leb (suc (suc left)) 1 (omega arith)) (omega arith)
    go true (suc left) (b ∷ rest) = rw (lt-leb (suc (suc left)) 1 (omega arith)) (omega arith)

pub next-sound : (full m : Bool) (left : ℕ) (bs : List ℕ) → Sound left bs (next full m left bs)
unfolding next
next-sound full m zero bs = gap_sound m bs (group bs) refl
next-sound full m (suc left) [] = omega arith
next-sound true m (suc left) (c ∷ rest) = omega arith
next-sound false m (suc left) (c ∷ rest) = command-sound left c rest

-- the dots of a command that comes next
abbrev dots_next : Next → ℕ
dots_next (to_block size) = 0
dots_next to_end = 0
dots_next (to_command c n) = dots_of c
dots_next (fault number i) = 0

gap_dots : (m : Bool) (n : ℕ) (g : Group) → dots_next (in_gap m n g) ≡ 0
gap_dots m n cut = refl
gap_dots m n (page_head w v) = refl
gap_dots m n wrong_page_head = refl
gap_dots m n (block size) = refl
gap_dots true n page_end = refl
gap_dots false n page_end = refl
gap_dots m n document_end = refl
gap_dots m n unknown = refl

command_dots : (left c : ℕ) (rest : List ℕ) → Bytes (c ∷ rest) → dots_next (of_command (command left c rest)) ≤ 16383
unfolding command
command_dots left c rest bytes = go (leb 128 c) (leb left 1) rest (bytes 1)
  where
    go : (two past : Bool) (rest : List ℕ) → get_or rest 0 0 < 256
        → dots_next (of_command (cond two (cond past (broken 24 0) (with_second c rest)) (taken (run (black_bit c) (c % 64)) 1))) ≤ 16383
    go false past rest h = omega arith
    go true true rest h = omega arith
    go true false [] h = omega arith
    go true false (b ∷ rest) h = omega arith

next_dots : (full m : Bool) (left : ℕ) (bs : List ℕ) → Bytes bs → dots_next (next full m left bs) ≤ 16383
unfolding next
next_dots full m zero bs bytes = omega (arith, gap_dots m (length bs) (group bs))
next_dots full m (suc left) [] bytes = omega arith
next_dots true m (suc left) (c ∷ rest) bytes = omega arith
next_dots false m (suc left) (c ∷ rest) bytes = command_dots (suc left) c rest bytes

-- a block is a block whether or not the page may end
gap_block : (m m' : Bool) (n size : ℕ) (g : Group) → in_gap m n g ≡ to_block size → in_gap m' n g ≡ to_block size
gap_block m m' n size cut e = never (cc)
gap_block m m' n size (page_head w v) e = never (cc)
gap_block m m' n size wrong_page_head e = never (cc)
gap_block m m' n size (block s) e = e
gap_block true m' n size page_end e = never (cc)
gap_block false m' n size page_end e = never (cc)
gap_block m m' n size document_end e = never (cc)
gap_block m m' n size unknown e = never (cc)

module _ (full m : Bool) (left : ℕ) (bs : List ℕ) where
  known : (x : Next) → next full m left bs ≡ x → Sound left bs x
  known x e = subst (Sound left bs) e (next-sound full m left bs)

  -- a block's head takes six bytes, where no byte of a block is left
  pub next_block : (size : ℕ) → next full m left bs ≡ to_block size → (left ≡ 0) × (6 ≤ length bs)
  next_block size e = known (to_block size) e

  -- so does the page's end
  pub next_end : next full m left bs ≡ to_end → (left ≡ 0) × (6 ≤ length bs)
  next_end e = known to_end e

  -- a command takes one or two bytes of its block
  pub next-command : (c : Command) (n : ℕ) → next full m left bs ≡ to_command c n → (1 ≤ n) × ((n ≤ 2) × ((n ≤ left) × (n ≤ length bs)))
  next-command c n e = known (to_command c n) e

  -- and has at most 16,383 dots
  pub next-command_dots : (c : Command) (n : ℕ) → Bytes bs → next full m left bs ≡ to_command c n → dots_of c ≤ 16383
  next-command_dots c n bytes e = subst (λ (x : Next). dots_next x ≤ 16383) e (next_dots full m left bs bytes)

  -- a refusal's place is in the job, or at its end
  pub next_fault : (number i : ℕ) → next full m left bs ≡ fault number i → i ≤ length bs
  next_fault number i e = known (fault number i) e

-- where the job ends
pub next_nil : (full m : Bool) (left : ℕ) → next full m left [] ≡ fault 24 0
unfolding next group
next_nil full m zero = refl
next_nil full m (suc left) = refl

-- the page ends only where it may
gap_end : (m : Bool) (n : ℕ) (g : Group) → in_gap m n g ≡ to_end → m ≡ true
gap_end m n cut e = never (cc)
gap_end m n (page_head w v) e = never (cc)
gap_end m n wrong_page_head e = never (cc)
gap_end m n (block size) e = never (cc)
gap_end true n page_end e = refl
gap_end false n page_end e = never (cc)
gap_end m n document_end e = never (cc)
gap_end m n unknown e = never (cc)

pub next_end_may : (full m : Bool) (left : ℕ) (bs : List ℕ) → next full m left bs ≡ to_end → m ≡ true
unfolding next
next_end_may full m zero bs e = gap_end m (length bs) (group bs) e
next_end_may full m (suc left) bs e = let k = next_end full m (suc left) bs e in absurd (omega arith)

-- in a full page no command comes
pub next_full : (full m : Bool) (left : ℕ) (bs : List ℕ) (c : Command) (n : ℕ) → full ≡ true → next full m left bs ≡ to_command c n → ⊥
unfolding next
next_full full m zero bs c n t e = let k = next-command full m zero bs c n e in omega arith
next_full full m (suc left) [] c n t e = never (cc)
next_full true m (suc left) (b ∷ bs) c n t e = never (cc)
next_full false m (suc left) (b ∷ bs) c n t e = never (cc)

-- so a block or a command comes next either way
pub next_block_any : (full m m' : Bool) (left : ℕ) (bs : List ℕ) (size : ℕ) → next full m left bs ≡ to_block size → next full m' left bs ≡ to_block size
unfolding next
next_block_any full m m' zero bs size e = gap_block m m' (length bs) size (group bs) e
next_block_any full m m' (suc left) bs size e = e

pub next-command-any : (full m m' : Bool) (left : ℕ) (bs : List ℕ) (c : Command) (n : ℕ) → next full m left bs ≡ to_command c n
    → next full m' left bs ≡ to_command c n
unfolding next
next-command-any full m m' zero bs c n e = let k = next-command full m zero bs c n e in absurd (omega arith)
next-command-any full m m' (suc left) bs c n e = e
