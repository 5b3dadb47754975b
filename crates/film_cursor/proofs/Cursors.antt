-- Laws of a cursor: what its steps are, what is ahead of it at a band's first command, and the band's test as its walk. Assumes nothing.
use mathlib.Core.Path.{◌≡◌, refl, sym, ap, ap₂, subst, ◌∙◌}
use Rattle.std.proofs.Common.{Option, Some, None, Result, Ok, Err, true, false}
use mathlib.Core.List.{List, [], ◌++◌}
use Prim.Native.Nat.{ℕ, suc, ◌+◌, ◌-◌, ◌<◌, ◌≤◌}
use native.Mathlib.Omega.{arith}
use lib.ListN.{length, take, drop}
use Rattle.refusal.specs.Answers.{given, refused, fine, counted_from}
use Rattle.refusal.specs.Code.{refused_as}
use Rattle.refusal.specs.Faults.{number_of}
use Rattle.refusal.specs.declared.Refusal.{Refusal}
use Rattle.film_words.specs.Words.{words, at}
use Rattle.film_words.specs.Parts.{part_of}
use Rattle.film_words.specs.Load.{load_words}
use Rattle.film_words.proofs.Parts.{part_words, part_first, drop_part}
use Rattle.film_commands.specs.Commands.{Command, Taken, command, command_in}
use Rattle.film_commands.specs.Band.{Reading, priority_after, with_command, read_from, read_band, Colour, solid, Stroke, colour_after, stroke_of, strokes_from, strokes}
use Rattle.film_commands.specs.Code.{mask_of, command_of, Placed, placed, read_as, colour_of}
use Rattle.film_cursor.specs.Cursors.{reading, Ahead, ahead_of, moved_to, step_as, Onward, Stepped}
use Rattle.film_commands.specs.declared.Mask as code-mask
use Rattle.film_commands.specs.declared.Command as code-command
use Rattle.film_commands.specs.declared.Command.TheVariants.{Priority, Ink, Clear, Tile, Paint}
use Rattle.film_commands.specs.declared.Tile as code-tile
use Rattle.film_commands.specs.declared.Colour.TheVariants as colour
use Rattle.film_cursor.specs.declared.Cursor.{Cursor}
use Rattle.film_cursor.specs.declared.Step.{Step}
use Rattle.film_cursor.specs.declared.Step.TheVariants as step
use Rattle.film_commands.proofs.Answers.{given_same}
use Rattle.film_commands.proofs.Band.{onward, refusal, read_moved, strokes-moved}

-- what a step answers
abbrev pub Stride : Type 0
Stride = Result (Option Step) Refusal

-- what is ahead, where the priority is q and the colour C, of what is read
abbrev ahead : ℕ → Colour → Reading → Ahead
ahead q C r = record { strokes = strokes_from 0 q C r.items; ends = r.ends }

-- ---- a step

-- the words of a part from its k-th on
part_on : (file : List ℕ) (b e k q : ℕ) → e ≤ length (words file) → b + k ≡ q → drop k (words (part_of file b e)) ≡ words (part_of file q e)
part_on file b e k q l s =
    let n : e - b - k ≡ e - q = omega arith in
    drop_part file b e k q l s ∙ ap (λ (x : ℕ). take x (drop q (words file))) n ∙ sym (part_words file q e l)

-- no command is left
pub step_end : (sheet load : List ℕ) (e : ℕ) (c : Cursor) → part_of sheet c.at e ≡ [] → Stepped sheet load e c (Ok None)
unfolding ahead_of read_from strokes_from words
step_end sheet load e c h =
    record {
      is =
          sym
          (ap
          (λ (r : List ℕ). ahead c.least (colour_of c.colour) (read_from (load_words load) c.least 0 c.at (words r)))
          h);
      on = tt;
    }

-- the reader gives r
module _ (sheet load : List ℕ) (e : ℕ) (c : Cursor) (h : c.at < e) (l : e ≤ length (words sheet)) (r : Result (code-command.Command × ℕ) Refusal)
    (x : read_as r ≡ placed sheet load c.at (command_in (load_words load) c.least (words (part_of sheet c.at e)))) where
  -- the load's words, the cursor's code word, the words after it, and its colour
  abbrev L : List ℕ
  L = load_words load

  abbrev w₀ : ℕ
  w₀ = at (words sheet) c.at

  abbrev args : List ℕ
  args = words (part_of sheet (c.at + 1) e)

  abbrev C : Colour
  C = colour_of c.colour

  -- the command at the cursor, and what is read from a place on where the priority is q
  abbrev here : Taken
  here = command_in L c.least (words (part_of sheet c.at e))

  abbrev from : (q place : ℕ) → Reading
  from q place = read_from L q 0 place (words (part_of sheet place e))

  -- what is ahead where the cursor's command is d and the next has place next
  abbrev after : Command → ℕ → Ahead
  after d next =
      let q = priority_after c.least d in
      let R = from q next in
      record { strokes = stroke_of c.at c.least C d ++ strokes_from 0 q (colour_after C d) R.items; ends = R.ends }

  -- the command at the cursor, by its code word
  by_code : (t : Taken) → here ≡ t → command L c.least w₀ args ≡ t
  unfolding command_in
  by_code t q = ap (command_in L c.least) (sym (part_first sheet c.at e h l)) ∙ q

  -- it is whole
  whole : (d : code-command.Command) (next : ℕ) → r ≡ Ok (d, next) → (c.at < next) × (ahead_of sheet load e c ≡ after (command_of d) next)
  unfolding ahead_of strokes_from
  whole d next y = go here refl (sym (ap (read_as) y) ∙ x)
    where
      go : (t : Taken) → here ≡ t → read_as (Ok (d, next)) ≡ placed sheet load c.at t
          → (c.at < next) × (ahead c.least C (from c.least c.at) ≡ after (command_of d) next)
      go (given w) q z =
          let same : w.command ≡ command_of d = sym (ap (λ (k : Placed). k.command) (given_same z)) in
          let place : next ≡ c.at + suc w.more = ap (λ (k : Placed). k.next) (given_same z) in
          let on : suc c.at + w.more ≡ next = omega arith in
          let none : 0 + c.at ≡ c.at = omega arith in
          let later = priority_after c.least w.command in (
            omega arith,
            ap (ahead c.least C)
                (ap (read_from L c.least 0 c.at) (part_first sheet c.at e h l)
                ∙ onward L c.least c.at w₀ w.more w.command w.source args (by_code _ q)
                ∙ ap₂ (λ (i : ℕ) (ws : List ℕ). with_command c.at w.command (read_from L later 0 i ws)) on
                (part_on sheet (c.at + 1) e w.more next l (omega arith)))
                ∙ rw (none, same) refl,
          )
      go (refused n i) q z = let o : ◌≡◌ {A = ℕ} 0 1 = cc in absurd (omega arith)

  -- it is refused
  pub refusing : (v : Refusal) → r ≡ Err v → Stepped sheet load e c (Err v)
  unfolding ahead_of strokes_from
  refusing v y = record { is = go here refl (sym (ap (read_as) y) ∙ x); on = tt }
    where
      go : (t : Taken) → here ≡ t → refused_as v ≡ placed sheet load c.at t
          → record { strokes = []; ends = refused_as v } ≡ ahead c.least C (from c.least c.at)
      go (given w) q z = let o : ◌≡◌ {A = ℕ} 0 1 = cc in absurd (omega arith)
      go (refused n i) q z =
          let number : n ≡ number_of v.fault = cc in
          let place : c.at + i ≡ v.place = cc in
          sym
          (ap (ahead c.least C)
          (ap (read_from L c.least 0 c.at) (part_first sheet c.at e h l) ∙ refusal L c.least c.at w₀ n i args (by_code _ q))
          ∙ ap₂ (λ (m p : ℕ). record { strokes = []; ends = refused m p }) number place)

  -- the commands, one by one
  module _ (d : code-command.Command) (next : ℕ) (y : r ≡ Ok (d, next)) where
    -- it is the command k
    found : (k : code-command.Command) → d ≡ k → (c.at < next) × (ahead_of sheet load e c ≡ after (command_of k) next)
    found k z = whole k next (y ∙ ap (λ (j : code-command.Command). Ok (j, next)) z)

    -- it is a mask
    pub step_paint : (m : code-mask.Mask) → d ≡ Paint m
        → Stepped sheet load e c (Ok (Some (step.Paint m next)))
    unfolding command_of mask_of ahead_of
    step_paint m z = let w = found (Paint m) z in record { is = sym w.1; on = (h, w.0) }

    -- it is a priority
    pub step_priority : (v : ℕ) → d ≡ Priority v → Stepped sheet load e c (Ok (Some (step.Other (record { at = next; least = v; colour = c.colour }))))
    unfolding command_of ahead_of
    step_priority v z = let w = found (Priority v) z in record { is = sym w.1; on = (h, w.0) }

    -- it is ink
    pub step_ink : d ≡ Ink → Stepped sheet load e c (Ok (Some (step.Other (record { at = next; least = c.least; colour = colour.Solid true }))))
    unfolding command_of ahead_of colour_of
    step_ink z = let w = found Ink z in record { is = sym w.1; on = (h, w.0) }

    -- it is clear
    pub step_clear : d ≡ Clear → Stepped sheet load e c (Ok (Some (step.Other (record { at = next; least = c.least; colour = colour.Solid false }))))
    unfolding command_of ahead_of colour_of
    step_clear z = let w = found Clear z in record { is = sym w.1; on = (h, w.0) }

    -- it is a tile
    pub step-tile : (t : code-tile.Tile) → d ≡ Tile t
        → Stepped sheet load e c (Ok (Some (step.Other (record { at = next; least = c.least; colour = colour.Tile t }))))
    unfolding command_of ahead_of colour_of
    step-tile t z = let w = found (Tile t) z in record { is = sym w.1; on = (h, w.0) }

-- ---- a walk

-- what is ahead of a cursor whose step is s
pub met : {sheet load : List ℕ} {e : ℕ} {c : Cursor} {r : Stride} (s : Stride) → Stepped sheet load e c r → r ≡ s
    → (ahead_of sheet load e c ≡ step_as sheet load e c s) × Onward e c s
met {sheet} {load} {e} {c} s x q = (sym x.is ∙ ap (step_as sheet load e c) q, subst (Onward e c) q x.on)

-- what is ahead at a band's first command: the band's strokes and how it ends, with places of the sheet
pub ahead-at-start : (sheet load : List ℕ) (b e : ℕ) (c : Cursor) → (c.at ≡ b) × (c.least ≡ 0) × (c.colour ≡ colour.Solid true)
    → ahead_of sheet load e c
    ≡ record { strokes = strokes b (reading sheet load b e).items; ends = counted_from b (reading sheet load b e).ends }
unfolding ahead_of read_band strokes colour_of
ahead-at-start sheet load b e c (p, q, k) =
    let ws = words (part_of sheet b e) in
    let R = read_from (load_words load) 0 0 0 ws in
    let place : b ≡ b + 0 = omega arith in
    rw (p, q, k)
    (ap (ahead 0 (solid true)) (ap (λ (n : ℕ). read_from (load_words load) 0 0 n ws) place ∙ read_moved b (load_words load) 0 0 0 ws)
    ∙ ap (λ (ss : List Stroke). record { strokes = ss; ends = counted_from b R.ends }) (strokes-moved b 0 (solid true) R.items))

-- ---- the band's test, a loop over the steps

-- how the band ends is how what is ahead of the cursor ends
pub record TestedTo (sheet load : List ℕ) (b e : ℕ) (c : Cursor) : Type 0 where
  pub is : counted_from b (reading sheet load b e).ends ≡ (ahead_of sheet load e c).ends

-- at a band's first command
pub test_start : (sheet load : List ℕ) (b e : ℕ) (c : Cursor) → (c.at ≡ b) × (c.least ≡ 0) × (c.colour ≡ colour.Solid true)
    → TestedTo sheet load b e c
test_start sheet load b e c s = record { is = sym (ap (λ (a : Ahead). a.ends) (ahead-at-start sheet load b e c s)) }

module _ {sheet load : List ℕ} {b e : ℕ} {c : Cursor} (i : TestedTo sheet load b e c) {r : Stride} (x : Stepped sheet load e c r) where
  -- how the band ends, by the cursor's step
  onto : (s : Stride) → r ≡ s → counted_from b (reading sheet load b e).ends ≡ (step_as sheet load e c s).ends
  onto s q = i.is ∙ ap (λ (a : Ahead). a.ends) (met s x q).0

  -- after a mask
  pub test_paint : (m : code-mask.Mask) (p : ℕ) → r ≡ Ok (Some (step.Paint m p)) → TestedTo sheet load b e (moved_to p c)
  test_paint m p q = record { is = onto (Ok (Some (step.Paint m p))) q }

  -- after another command
  pub test_other : (d : Cursor) → r ≡ Ok (Some (step.Other d)) → TestedTo sheet load b e d
  test_other d q = record { is = onto (Ok (Some (step.Other d))) q }

  -- at the band's end
  pub test_fine : r ≡ Ok None → fine ≡ counted_from b (reading sheet load b e).ends
  test_fine q = sym (onto (Ok None) q)

  -- at a refusal
  pub test_refused : (v : Refusal) → r ≡ Err v → refused_as v ≡ counted_from b (reading sheet load b e).ends
  test_refused v q = sym (onto (Err v) q)
