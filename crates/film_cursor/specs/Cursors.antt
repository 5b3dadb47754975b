-- What a cursor over a band's commands, and a step of it, stand for.
use Rattle.std.specs.Prelude.{◌≡◌, Option, Some, None, Result, Ok, Err, List, [], ◌∷◌, ℕ, ◌<◌}
use Rattle.refusal.specs.Answers.{Verdict, fine}
use Rattle.refusal.specs.Code.{refused_as}
use Rattle.refusal.specs.declared.Refusal.{Refusal}
use Rattle.film_words.specs.Words.{words}
use Rattle.film_words.specs.Parts.{part_of}
use Rattle.film_words.specs.Load.{load_words}
use Rattle.film_commands.specs.Band.{Reading, read_from, read_band, Stroke, stroke, strokes_from}
use Rattle.film_commands.specs.Code.{mask_of, colour_of}
use Rattle.film_cursor.specs.declared.Cursor.{Cursor}
use Rattle.film_cursor.specs.declared.Step as code
use Rattle.film_cursor.specs.declared.Step.TheVariants.{Paint, Other}

-- what is read of the commands from place p of the sheet up to, not including, place e
abbrev pub reading : (sheet load : List ℕ) (p e : ℕ) → Reading
reading sheet load p e = read_band (load_words load) (words (part_of sheet p e))

-- the strokes that are to come in a band, and how it ends: where a command is refused, the strokes are those before it
pub record Ahead : Type 0 where
  pub strokes : List Stroke
  pub ends : Verdict

-- what is ahead of a cursor in a band that ends before place e
unfoldable pub ahead_of : (sheet load : List ℕ) → ℕ → Cursor → Ahead
ahead_of sheet load e c =
    let r = read_from (load_words load) c.least 0 c.at (words (part_of sheet c.at e)) in
    record { strokes = strokes_from 0 c.least (colour_of c.colour) r.items; ends = r.ends }

-- a stroke, and what is ahead after it
abbrev pub with_stroke : Stroke → Ahead → Ahead
with_stroke k a = record { strokes = k ∷ a.strokes; ends = a.ends }

-- the cursor at another place
abbrev pub moved_to : ℕ → Cursor → Cursor
moved_to p c = record { at = p; least = c.least; colour = c.colour }

-- a step of cursor c, the band's end or a refusal, and what is ahead after it
abbrev pub step_as : (sheet load : List ℕ) (e : ℕ) → Cursor → Result (Option code.Step) Refusal → Ahead
step_as sheet load e c (Ok (Some (Paint m p))) = with_stroke (stroke c.at c.least (colour_of c.colour) (mask_of m)) (ahead_of sheet load e (moved_to p c))
step_as sheet load e c (Ok (Some (Other d))) = ahead_of sheet load e d
step_as sheet load e c (Ok None) = record { strokes = []; ends = fine }
step_as sheet load e c (Err r) = record { strokes = []; ends = refused_as r }

-- a cursor goes on in the band
abbrev pub Onward : ℕ → Cursor → Result (Option code.Step) Refusal → Type 0
Onward e c (Ok (Some (Paint m p))) = (c.at < e) × (c.at < p)
Onward e c (Ok (Some (Other d))) = (c.at < e) × (c.at < d.at)
Onward e c (Ok None) = Unit
Onward e c (Err r) = Unit

-- what the answer for cursor c is
pub record Stepped (sheet load : List ℕ) (e : ℕ) (c : Cursor) (r : Result (Option code.Step) Refusal) : Type 0 where
  pub is : step_as sheet load e c r ≡ ahead_of sheet load e c
  pub on : Onward e c r
