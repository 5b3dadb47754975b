-- The commands of a band, read from its words, and the strokes that they are.
use Rattle.std.specs.Prelude.{◌≡◌, Bool, true, false, List, [], ◌∷◌, ◌++◌, ℕ, zero, suc, ◌+◌}
use Rattle.refusal.specs.Answers.{given, refused, counted_from, Verdict, fine}
use Rattle.refusal.specs.Tables.{first}
use Rattle.film_words.specs.Arrays.{array_extent}
use Rattle.film_words.specs.Groups.{lines_extent, group_extent}
use Rattle.film_commands.specs.Refusals.{command_table}
use Rattle.film_commands.specs.Commands.{Mask, rectangle, Command, priority, ink, clear, set_tile, paint, Taken, command, decoded}

-- a command and its place, counted from the band's first command
pub record Item : Type 0 where
  pub offset : ℕ
  pub command : Command

-- a band's commands, or those before the first that is refused; and how it ends: a refusal's place is counted as those of the commands are
pub record Reading : Type 0 where
  pub items : List Item
  pub ends : Verdict

-- the priority after a command
abbrev pub priority_after : ℕ → Command → ℕ
priority_after least (priority p) = p
priority_after least ink = least
priority_after least clear = least
priority_after least (set_tile t a ws) = least
priority_after least (paint m) = least

-- the command at place p, in front of those that follow it
abbrev pub with_command : ℕ → Command → Reading → Reading
with_command p c r = record { items = record { offset = p; command = c } ∷ r.items; ends = r.ends }

-- the command at place p, then what comes after its words; a refusal goes straight out
abbrev pub then_read : ℕ → ℕ → Taken → (ℕ → ℕ → Reading) → Reading
then_read least p (given w) k = with_command p w.command (k (priority_after least w.command) w.more)
then_read least p (refused n i) k = record { items = []; ends = refused n (p + i) }

-- the commands in ws, whose first word has place p, after `skip` words that still belong to the command before
unfoldable pub read_from : List ℕ → ℕ → ℕ → ℕ → List ℕ → Reading
read_from load least skip p [] = record { items = []; ends = fine }
read_from load least (suc k) p (w ∷ ws) = read_from load least k (suc p) ws
read_from load least zero p (w ∷ ws) = then_read least p (command load least w ws) (λ later n. read_from load later n (suc p) ws)

-- a band begins with priority 0
unfoldable pub read_band : List ℕ → List ℕ → Reading
read_band load ws = read_from load 0 0 0 ws

-- the test of a band whose first command has place p
abbrev pub band_test : (load : List ℕ) (p : ℕ) (ws : List ℕ) → Verdict
band_test load p ws = counted_from p (read_band load ws).ends

-- ---- strokes

-- a colour: ink is `solid true`, clear is `solid false`, and a tile is its address in the load and the words that hold it
pub data Colour : Type 0 where
  solid : Bool → Colour
  tiled : (transparent : Bool) → (address : ℕ) → (words : List ℕ) → Colour

-- a mask command as it is carried out: its code word's place in the sheet, the priority and the colour that hold there, and its mask. Rows before
-- `from` are cut off.
pub record Stroke : Type 0 where
  pub place : ℕ
  pub priority : ℕ
  pub colour : Colour
  pub mask : Mask
  pub from : ℕ

-- one of which no row is cut off
abbrev pub stroke : (place priority : ℕ) → Colour → Mask → Stroke
stroke p q C m = record { place = p; priority = q; colour = C; mask = m; from = 0 }

-- the colour after a command
abbrev pub colour_after : Colour → Command → Colour
colour_after C (priority p) = C
colour_after C ink = solid true
colour_after C clear = solid false
colour_after C (set_tile t a ws) = tiled t a ws
colour_after C (paint m) = C

-- the stroke that a command at place p is, where the priority is q and the colour C; none unless it is a mask
abbrev pub stroke_of : (p q : ℕ) → Colour → Command → List Stroke
stroke_of p q C (priority v) = []
stroke_of p q C ink = []
stroke_of p q C clear = []
stroke_of p q C (set_tile t a ws) = []
stroke_of p q C (paint m) = stroke p q C m ∷ []

-- the strokes of commands whose offsets are counted from place p of the sheet
unfoldable pub strokes_from : (p q : ℕ) → Colour → List Item → List Stroke
strokes_from p q C [] = []
strokes_from p q C (i ∷ is) = stroke_of (p + i.offset) q C i.command ++ strokes_from p (priority_after q i.command) (colour_after C i.command) is

-- a band begins with ink as colour and priority 0
unfoldable pub strokes : ℕ → List Item → List Stroke
strokes p is = strokes_from p 0 (solid true) is

-- ---- worked cases

-- the commands of a band, with their offsets
abbrev item : ℕ → Command → Item
item i c = record { offset = i; command = c }

pub record BandCases : Type 0 where
  pub empty : read_band [] [] ≡ record { items = []; ends = fine }
  pub three :
      read_band [] (2 ∷ 5 ∷ 1 ∷ 2 ∷ 3 ∷ 4 ∷ 3 ∷ [])
      ≡ record { items = item 0 ink ∷ item 1 (paint (rectangle 1 2 3 4)) ∷ item 6 clear ∷ []; ends = fine }
  pub equal_priority : read_band [] (1 ∷ 1 ∷ 0 ∷ 1 ∷ 1 ∷ 0 ∷ []) ≡ record { items = item 0 (priority 1) ∷ item 3 (priority 1) ∷ []; ends = fine }
  pub starts_at_0 : read_band [] (1 ∷ 0 ∷ 0 ∷ []) ≡ record { items = item 0 (priority 0) ∷ []; ends = fine }
  -- a refusal, and the commands before it
  pub falling_priority :
      read_band [] (2 ∷ 1 ∷ 1 ∷ 0 ∷ 3 ∷ 1 ∷ 0 ∷ 0 ∷ [])
      ≡ record { items = item 0 ink ∷ item 1 (priority 1) ∷ item 4 clear ∷ []; ends = refused 8 6 }
  pub fault_in_sheet : band_test [] 14 (2 ∷ 99 ∷ 6 ∷ []) ≡ refused 7 15
  pub no_fault : band_test [] 14 (2 ∷ 3 ∷ []) ≡ fine
  pub first_fault : read_band [] (2 ∷ 99 ∷ 6 ∷ []) ≡ record { items = item 0 ink ∷ []; ends = refused 7 1 }
  pub every_row : stroke 14 9 (solid true) (rectangle 1 2 3 4) ≡ record { place = 14; priority = 9; colour = solid true; mask = rectangle 1 2 3 4; from = 0 }
  -- clear, then priority, then a mask: the colour stays
  pub two_strokes :
      strokes 14 (read_band [] (5 ∷ 1 ∷ 2 ∷ 3 ∷ 4 ∷ 3 ∷ 1 ∷ 9 ∷ 0 ∷ 5 ∷ 5 ∷ 6 ∷ 7 ∷ 8 ∷ [])).items
      ≡ stroke 14 0 (solid true) (rectangle 1 2 3 4) ∷ stroke 23 9 (solid false) (rectangle 5 6 7 8) ∷ []
  pub ink_again :
      strokes 14 (item 0 clear ∷ item 1 (set_tile true 7 []) ∷ item 5 (paint (rectangle 1 2 3 4)) ∷ item 10 ink ∷ item 11 (paint (rectangle 5 6 7 8)) ∷ [])
      ≡ stroke 19 0 (tiled true 7 []) (rectangle 1 2 3 4) ∷ stroke 25 0 (solid true) (rectangle 5 6 7 8) ∷ []
  -- the same colour after a mask
  pub same_colour :
      strokes 14 (item 0 clear ∷ item 1 (paint (rectangle 1 2 3 4)) ∷ item 6 (paint (rectangle 5 6 7 8)) ∷ [])
      ≡ stroke 15 0 (solid false) (rectangle 1 2 3 4) ∷ stroke 20 0 (solid false) (rectangle 5 6 7 8) ∷ []

pub band_cases : BandCases
unfolding read_band read_from first command command_table decoded array_extent lines_extent group_extent strokes strokes_from
band_cases = search
