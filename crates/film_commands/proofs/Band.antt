-- Laws of a band's commands: the reader one command at a time, and what is read from another place. Assumes nothing.
use mathlib.Core.Path.{◌≡◌, refl, ap, ap₂, ◌∙◌}
use mathlib.Core.List.{List, [], ◌∷◌, ◌++◌}
use Prim.Native.Nat.{ℕ, zero, suc, ◌+◌}
use native.Mathlib.Omega.{arith}
use lib.ListN.{drop}
use Rattle.refusal.specs.Answers.{given, refused, counted_from}
use Rattle.film_commands.specs.Commands.{Command, Source, Taken, taken, command}
use Rattle.film_commands.specs.Band.{Item, Reading, priority_after, with_command, then_read, read_from, Colour, Stroke, colour_after, stroke_of, strokes_from}

-- the words that belong to the command before are passed over
pub skipped : (load : List ℕ) (least k p : ℕ) (ws : List ℕ) → read_from load least k p ws ≡ read_from load least 0 (p + k) (drop k ws)
unfolding read_from
skipped load least zero p ws = ap (λ (n : ℕ). read_from load least 0 n ws) (omega arith)
skipped load least (suc k) p [] = refl
skipped load least (suc k) p (w ∷ ws) = skipped load least k (suc p) ws ∙ ap (λ (n : ℕ). read_from load least 0 n (drop k ws)) (omega arith)

-- a command that is taken, and then the rest
pub onward : (load : List ℕ) (least p w n : ℕ) (c : Command) (src : Source) (ws : List ℕ) → command load least w ws ≡ taken c src n
    → read_from load least 0 p (w ∷ ws) ≡ with_command p c (read_from load (priority_after least c) 0 (suc p + n) (drop n ws))
unfolding read_from
onward load least p w n c src ws t = rw t (ap (with_command p c) (skipped load (priority_after least c) n (suc p) ws))

-- a refusal goes straight out
pub refusal : (load : List ℕ) (least p w k i : ℕ) (ws : List ℕ) → command load least w ws ≡ refused k i
    → read_from load least 0 p (w ∷ ws) ≡ record { items = []; ends = refused k (p + i) }
unfolding read_from
refusal load least p w k i ws t = rw t refl

-- ---- places counted from elsewhere

-- commands whose offsets are counted from b words before
unfoldable pub items_from : ℕ → List Item → List Item
items_from b [] = []
items_from b (i ∷ is) = record { offset = b + i.offset; command = i.command } ∷ items_from b is

-- what is read, with its places counted from b words before
abbrev pub reading_from : ℕ → Reading → Reading
reading_from b r = record { items = items_from b r.items; ends = counted_from b r.ends }

-- what is read from place b + p is what is read from place p, with its places counted from b words before
pub read_moved : (b : ℕ) (load : List ℕ) (least k p : ℕ) (ws : List ℕ) → read_from load least k (b + p) ws ≡ reading_from b (read_from load least k p ws)
unfolding read_from items_from
read_moved b load least k p [] = refl
read_moved b load least (suc k) p (w ∷ ws) = ap (λ (n : ℕ). read_from load least k n ws) (omega arith) ∙ read_moved b load least k (suc p) ws
read_moved b load least zero p (w ∷ ws) =
    go (command load least w ws) (λ later n. ap (λ (q : ℕ). read_from load later n q ws) (omega arith) ∙ read_moved b load later n (suc p) ws)
  where
    go : (t : Taken) → ((later n : ℕ) → read_from load later n (suc (b + p)) ws ≡ reading_from b (read_from load later n (suc p) ws))
        → then_read least (b + p) t (λ later n. read_from load later n (suc (b + p)) ws)
        ≡ reading_from b (then_read least p t (λ later n. read_from load later n (suc p) ws))
    go (given x) rest = ap (with_command (b + p) x.command) (rest (priority_after least x.command) x.more)
    go (refused n i) rest = ap (λ (q : ℕ). record { items = []; ends = refused n q }) (omega arith)

-- the strokes of commands whose offsets are counted from b words before are those from place b
pub strokes-moved : (b q : ℕ) (C : Colour) (is : List Item) → strokes_from 0 q C (items_from b is) ≡ strokes_from b q C is
unfolding strokes_from items_from
strokes-moved b q C [] = refl
strokes-moved b q C (i ∷ is) =
    ap₂ (λ (n : ℕ) (l : List Stroke). stroke_of n q C i.command ++ l) (omega arith)
    (strokes-moved b (priority_after q i.command) (colour_after C i.command) is)
