-- Laws of the runs of a row, of their bytes and of the blocks that these are put into. Assumes nothing.
use mathlib.Core.Path.{◌≡◌, refl, sym, ap, ap₂, ◌∙◌}
use mathlib.Core.Bool.{Bool, true, false, cond, beq}
use mathlib.Core.List.{List, [], ◌∷◌, ◌++◌, append_assoc, append-nil}
use Prim.Native.Nat.{ℕ, zero, suc, ◌+◌, ◌-◌, ◌*◌, ◌/◌, ◌%◌, ◌<◌, ◌≤◌}
use native.Mathlib.Omega.{arith}
use native.Mathlib.Decide.{dec_lt, dec_le}
use borrow.Author.Tests.{eq-eqb, ne_eqb, lt-ltb, le-ltb, le-leb, lt-leb}
use lib.Dec.{leb, ltb}
use lib.ListN.{length, drop, length-append}
use Rattle.row.specs.Dots.{bit}
use Rattle.row_runs.specs.Runs.{run_end}
use Rattle.truth.proofs.Tests.{ltb_is, is_same}
use Rattle.row.proofs.Dots.{bit_lt}
use Rattle.row_runs.proofs.Runs.{run_end_le, run_end-past, run_like, run_differs}
use Rattle.gdi_jobs.specs.Commands.{Command, run, dots_of, black_bit, command}
use Rattle.gdi_jobs.specs.Groups.{block, fits, group}
use Rattle.gdi_jobs.specs.Pages.{to_command, next}
use Rattle.gdi_jobs.specs.Lines.{line_dot}
use Rattle.gdi_jobs.specs.Rows.{add_dot, runs_from, command_bytes, blocks, block_bytes}
use Rattle.gdi_jobs.specs.ReadingBack.{All, none, more}

-- ---- a dot in front of runs

-- it belongs to a run of its colour
add_dot-same : (v : Bool) (n : ℕ) (rs : List Command) → add_dot v (run v n ∷ rs) ≡ run v (suc n) ∷ rs
add_dot-same true n rs = refl
add_dot-same false n rs = refl

-- before a dot of the other colour it is a run of its own
add_dot_other : (v u : Bool) (rs : List Command) → (u ≡ v → ⊥) → add_dot v (add_dot u rs) ≡ run v 1 ∷ add_dot u rs
add_dot_other true true rs n = absurd (n refl)
add_dot_other false false rs n = absurd (n refl)
add_dot_other true false [] n = refl
add_dot_other false true [] n = refl
add_dot_other true false (run true k ∷ rs) n = refl
add_dot_other true false (run false k ∷ rs) n = refl
add_dot_other false true (run true k ∷ rs) n = refl
add_dot_other false true (run false k ∷ rs) n = refl

-- its dots are that dot, and then those of the runs
dot_first : (v : Bool) (rs : List Command) → line_dot (add_dot v rs) 0 ≡ v
unfolding line_dot
dot_first v [] = refl
dot_first true (run true n ∷ rs) = rw (lt-ltb 0 (suc n) (omega arith)) refl
dot_first false (run false n ∷ rs) = rw (lt-ltb 0 (suc n) (omega arith)) refl
dot_first true (run false n ∷ rs) = refl
dot_first false (run true n ∷ rs) = refl

dot_next : (v : Bool) (rs : List Command) (g : ℕ) → line_dot (add_dot v rs) (suc g) ≡ line_dot rs g
unfolding line_dot
dot_next v [] g = rw (le-ltb (suc g) 1 (omega arith)) refl
dot_next v (run black n ∷ rs) g = go (beq v black)
  where
    go : (t : Bool) → line_dot (cond t (run black (suc n) ∷ rs) (run v 1 ∷ run black n ∷ rs)) (suc g) ≡ cond (ltb g n) black (line_dot rs (g - n))
    go true =
        let z : suc g - suc n ≡ g - n = omega arith in
        ap₂ (λ (t : Bool) (i : ℕ). cond t black (line_dot rs i)) (is_same (ltb (suc g) (suc n)) (ltb g n) (ltb_is (suc g) (suc n)) (ltb_is g n) (λ h. omega arith) (λ h. omega arith)) z
    go false =
        let z : suc g - 1 ≡ g = omega arith in
        rw (le-ltb (suc g) 1 (omega arith), z) refl

-- the runs of dots have those dots
pub runs_dot : (d : ℕ → Bool) (f n g : ℕ) → g < n → line_dot (runs_from d f n) g ≡ d (f + g)
unfolding runs_from
runs_dot d f zero g h = absurd (omega arith)
runs_dot d f (suc n) zero h = dot_first (d f) (runs_from d (suc f) n) ∙ ap d (omega arith)
runs_dot d f (suc n) (suc g) h = dot_next (d f) (runs_from d (suc f) n) g ∙ runs_dot d (suc f) n g (omega arith) ∙ ap d (omega arith)

-- each of them has a dot
abbrev pub Some : Command → Type 0
Some c = 1 ≤ dots_of c

some-add_dot : (v : Bool) (rs : List Command) → All Some rs → All Some (add_dot v rs)
some-add_dot v [] none = more {x = run v 1} (omega arith) none
some-add_dot v (run black n ∷ rs) (more h hs) = go (beq v black)
  where
    go : (t : Bool) → All Some (cond t (run black (suc n) ∷ rs) (run v 1 ∷ run black n ∷ rs))
    go true = more {x = run black (suc n)} (omega arith) hs
    go false = more {x = run v 1} (omega arith) (more h hs)

pub runs-some : (d : ℕ → Bool) (f n : ℕ) → All Some (runs_from d f n)
unfolding runs_from
runs-some d f zero = none
runs-some d f (suc n) = some-add_dot (d f) (runs_from d (suc f) n) (runs-some d (suc f) n)

-- ---- the first run

-- a run's last dot
run_last : (d : ℕ → Bool) (v : Bool) (e m : ℕ) → (0 < m → d e ≡ v → ⊥) → add_dot v (runs_from d e m) ≡ run v 1 ∷ runs_from d e m
unfolding runs_from
run_last d v e zero n = refl
run_last d v e (suc m) n = add_dot_other v (d e) (runs_from d (suc e) m) (n (omega arith))

-- k + 1 dots from f on have one colour, and the dot after them, at e, has the other or is not there
run_of : (d : ℕ → Bool) (v : Bool) (k m n f e : ℕ) → n ≡ suc k + m → e ≡ f + suc k → ((g : ℕ) → f ≤ g → g < e → d g ≡ v) → (0 < m → d e ≡ v → ⊥)
    → runs_from d f n ≡ run v (suc k) ∷ runs_from d e m
unfolding runs_from
run_of d v k m zero f e a b like differs = absurd (omega arith)
run_of d v zero m (suc n) f e a b like differs =
    let x : suc f ≡ e = omega arith in
    let y : n ≡ m = omega arith in
    ap₂ add_dot (like f (omega arith) (omega arith)) (ap₂ (runs_from d) x y) ∙ run_last d v e m differs
run_of d v (suc k) m (suc n) f e a b like differs =
    ap₂ add_dot (like f (omega arith) (omega arith))
    (run_of d v k m n (suc f) e (omega arith) (omega arith) (λ g h l. like g (omega arith) l) differs)
    ∙ add_dot-same v (suc k) (runs_from d e m)

-- the first run ends where the row's run of dot f ends
pub runs-first : (d : ℕ → Bool) (f width : ℕ) → f < width
    → runs_from d f (width - f) ≡ run (d f) (run_end d f width - f) ∷ runs_from d (run_end d f width) (width - run_end d f width)
runs-first d f width h =
    let e = run_end d f width in
    let past = run_end-past d f width h in
    let le = run_end_le d f width in
    let k : suc (e - f - 1) ≡ e - f = omega arith in
    run_of d (d f) (e - f - 1) (width - e) (width - f) f e (omega arith) (omega arith) (run_like d f width) (λ z. run_differs d f width (omega arith))
    ∙ ap (λ (x : ℕ). run (d f) x ∷ runs_from d e (width - e)) k

-- no dot is left
pub runs_none : (d : ℕ → Bool) (f width : ℕ) → width ≤ f → runs_from d f (width - f) ≡ []
unfolding runs_from
runs_none d f width h = let z : width - f ≡ 0 = omega arith in rw z refl

-- ---- the dots of runs added up

unfoldable pub dot_sum : List Command → ℕ
dot_sum [] = 0
dot_sum (c ∷ cs) = dots_of c + dot_sum cs

sum-add_dot : (v : Bool) (rs : List Command) → dot_sum (add_dot v rs) ≡ suc (dot_sum rs)
unfolding dot_sum
sum-add_dot v [] = refl
sum-add_dot v (run black n ∷ rs) = go (beq v black)
  where
    go : (t : Bool) → dot_sum (cond t (run black (suc n) ∷ rs) (run v 1 ∷ run black n ∷ rs)) ≡ suc (n + dot_sum rs)
    go true = omega arith
    go false = omega arith

-- they are all the dots
pub runs-sum : (d : ℕ → Bool) (f n : ℕ) → dot_sum (runs_from d f n) ≡ n
unfolding runs_from dot_sum
runs-sum d f zero = refl
runs-sum d f (suc n) = sum-add_dot (d f) (runs_from d (suc f) n) ∙ ap suc (runs-sum d (suc f) n)

-- and none of them has more dots than all together
pub runs_most : (cs : List Command) (n : ℕ) → dot_sum cs ≤ n → All (λ (c : Command). dots_of c ≤ n) cs
unfolding dot_sum
runs_most [] n h = none
runs_most (c ∷ cs) n h = more {x = c} (omega arith) (runs_most cs n (omega arith))

-- ---- the bytes of a command

-- there are one or two
pub command-length : (c : Command) → (1 ≤ length (command_bytes c)) × (length (command_bytes c) ≤ 2)
unfolding command_bytes
command-length (run black n) = go (ltb n 64)
  where
    two : Bool → List ℕ
    two t = cond t ((64 * bit black + n) ∷ []) ((128 + 64 * bit black + n % 64) ∷ n / 64 ∷ [])

    go : (t : Bool) → (1 ≤ length (two t)) × (length (two t) ≤ 2)
    go true = omega arith
    go false = omega arith

black_one : (black : Bool) (n : ℕ) → n < 64 → black_bit (64 * bit black + n) ≡ black
black_one true n h = eq-eqb ((64 * 1 + n) / 64 % 2) 1 (omega arith)
black_one false n h = ne_eqb ((64 * 0 + n) / 64 % 2) 1 (λ e. omega arith)

black_two : (black : Bool) (n : ℕ) → black_bit (128 + 64 * bit black + n % 64) ≡ black
black_two true n = eq-eqb ((128 + 64 * 1 + n % 64) / 64 % 2) 1 (omega arith)
black_two false n = ne_eqb ((128 + 64 * 0 + n % 64) / 64 % 2) 1 (λ e. omega arith)

-- in a block that holds them they read back as the command
pub command-next : (m : Bool) (left : ℕ) (c : Command) (rest : List ℕ) → length (command_bytes c) ≤ left
    → next false m left (command_bytes c ++ rest) ≡ to_command c (length (command_bytes c))
unfolding next command command_bytes
command-next m zero (run black n) rest h = absurd (omega (arith, (command-length (run black n)).0))
command-next m (suc left) (run black n) rest h = go (dec_lt n 64)
  where
    go : Dec (n < 64) → next false m (suc left) (command_bytes (run black n) ++ rest) ≡ to_command (run black n) (length (command_bytes (run black n)))
    go (yes l) =
        let small : 64 * bit black + n < 128 = omega (arith, bit_lt black) in
        let low : (64 * bit black + n) % 64 ≡ n = omega (arith, bit_lt black) in
        rw (lt-ltb n 64 l, lt-leb 128 (64 * bit black + n) small, low, black_one black n l) refl
    go (no l) =
        let two = le-ltb n 64 (omega arith) in
        let large : 128 ≤ 128 + 64 * bit black + n % 64 = omega arith in
        let all : (128 + 64 * bit black + n % 64) % 64 + 64 * (n / 64) ≡ n = omega (arith, bit_lt black) in
        let inside : 1 < suc left = rw two at h in
        rw (two, le-leb 128 (128 + 64 * bit black + n % 64) large, lt-leb (suc left) 1 inside, all, black_two black n) refl

-- ---- the bytes of a block

-- its head reads back
pub block_group : (b rest : List ℕ) → group (block_bytes b ++ rest) ≡ block (length b)
unfolding group fits block_bytes
block_group b rest =
    let size : length b % 256 + 256 * (length b / 256) ≡ length b = omega arith in
    rw (le-ltb (suc (suc (suc (suc (suc (suc (length (b ++ rest)))))))) 6 (omega arith), size) refl

pub block_length : (b : List ℕ) → length (block_bytes b) ≡ 6 + length b
unfolding block_bytes
block_length b = omega arith

-- and its bytes come after six of head
pub block_drop : (b rest : List ℕ) → drop 6 (block_bytes b ++ rest) ≡ b ++ rest
unfolding block_bytes
block_drop b rest = refl

-- ---- commands put into blocks

-- the bytes that a block takes of commands where it holds n bytes already, and the blocks after it
unfoldable pub filling : (n : ℕ) → List Command → List ℕ
filling n [] = []
filling n (c ∷ cs) =
    let here = command_bytes c ++ filling (n + length (command_bytes c)) cs in
    cond (leb (n + length (command_bytes c)) 255) here []

unfoldable pub later : (n : ℕ) → List Command → List (List ℕ)
later n [] = []
later n (c ∷ cs) =
    let here = later (n + length (command_bytes c)) cs in
    let next = blocks (command_bytes c) cs in
    cond (leb (n + length (command_bytes c)) 255) here next

-- the first of the blocks, and the others
pub blocks_are : (cur : List ℕ) (cs : List Command) → blocks cur cs ≡ (cur ++ filling (length cur) cs) ∷ later (length cur) cs
unfolding blocks filling later
blocks_are cur [] = ap (λ (l : List ℕ). l ∷ []) (sym (append-nil cur))
blocks_are cur (c ∷ cs) = go (leb (length cur + length (command_bytes c)) 255) (blocks_are (cur ++ command_bytes c) cs)
  where
    n : ℕ
    n = length cur + length (command_bytes c)

    go : (t : Bool) → blocks (cur ++ command_bytes c) cs
        ≡ ((cur ++ command_bytes c) ++ filling (length (cur ++ command_bytes c)) cs) ∷ later (length (cur ++ command_bytes c)) cs
        → cond t (blocks (cur ++ command_bytes c) cs) (cur ∷ blocks (command_bytes c) cs)
        ≡ (cur ++ cond t (command_bytes c ++ filling n cs) []) ∷ cond t (later n cs) (blocks (command_bytes c) cs)
    go true e = e ∙ rw (length-append cur (command_bytes c), append_assoc cur (command_bytes c) (filling n cs)) refl
    go false e = ap (λ (l : List ℕ). l ∷ blocks (command_bytes c) cs) (sym (append-nil cur))

-- every block has at most 255 bytes
pub blocks_most : (cur : List ℕ) (cs : List Command) → length cur ≤ 255 → All (λ (b : List ℕ). length b ≤ 255) (blocks cur cs)
unfolding blocks
blocks_most cur [] h = more h none
blocks_most cur (c ∷ cs) h =
    go (dec_le (length cur + length (command_bytes c)) 255) (blocks_most (cur ++ command_bytes c) cs)
    (blocks_most (command_bytes c) cs (omega (arith, (command-length c).1)))
  where
    Small : List (List ℕ) → Type 0
    Small = All (λ (b : List ℕ). length b ≤ 255)

    go : Dec (length cur + length (command_bytes c) ≤ 255) → (length (cur ++ command_bytes c) ≤ 255 → Small (blocks (cur ++ command_bytes c) cs))
        → Small (blocks (command_bytes c) cs)
        → Small (cond (leb (length cur + length (command_bytes c)) 255) (blocks (cur ++ command_bytes c) cs) (cur ∷ blocks (command_bytes c) cs))
    go (yes l) here next = rw (le-leb (length cur + length (command_bytes c)) 255 l) (here (rw (length-append cur (command_bytes c)) l))
    go (no l) here next = rw (lt-leb (length cur + length (command_bytes c)) 255 (omega arith)) (more h next)
