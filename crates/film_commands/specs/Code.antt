-- What the answers of the command reader stand for, where in the sheet or the load the words stand that the code's command names, and which part of
-- it they are.
use Rattle.std.specs.Prelude.{◌≡◌, Bool, true, false, cond, Result, Ok, Err, List, [], ◌∷◌, ℕ, suc, ◌+◌}
use Rattle.std.proofs.Math.Option.{Option, none, some}
use Rattle.refusal.specs.Answers.{Answer, given, refused}
use Rattle.refusal.specs.Code.{answer_as}
use Rattle.refusal.specs.declared.Refusal.{Refusal}
use Rattle.refusal.specs.declared.Fault.{Fault}
use Rattle.refusal.specs.declared.Fault.TheVariants as fault
use Rattle.film_words.specs.Words.{words, bytes_of}
use Rattle.film_words.specs.Parts.{part_of}
use Rattle.film_commands.specs.Commands.{Mask, Command, priority, ink, clear, paint, set_tile, rectangle, trapezoid, runs, samples, example_tile, Source, nowhere, in_band, in_load, Taken, taken}
use Rattle.film_commands.specs.Band.{Colour, solid, tiled}
use Rattle.film_commands.specs.declared.Words as code-words
use Rattle.film_commands.specs.declared.Mask as code-mask
use Rattle.film_commands.specs.declared.Mask.TheVariants.{Rectangle, Trapezoid, Runs, Samples}
use Rattle.film_commands.specs.declared.Tile as code-tile
use Rattle.film_commands.specs.declared.Command as code
use Rattle.film_commands.specs.declared.Command.TheVariants.{Priority, Ink, Clear, Tile, Paint}
use Rattle.film_commands.specs.declared.Colour as code-colour
use Rattle.film_commands.specs.declared.Colour.TheVariants as colour
use denote.Ref.{Bor}

-- the words that a command names: none, or those from one place of the sheet or of the load file up to another
pub data Named : Type 0 where
  nothing : Named
  of_sheet : (from to : ℕ) → Named
  of_load : (from to : ℕ) → Named

-- those of a group or an array
abbrev pub of_source : code-words.Words → Named
of_source s = cond s.load (of_load s.from s.to) (of_sheet s.from s.to)

-- those of a mask
abbrev pub named_by : code-mask.Mask → Named
named_by (Rectangle r) = nothing
named_by (Trapezoid t) = nothing
named_by (Runs s_min group) = of_source group
named_by (Samples s_min f_min array) = of_source array

-- those of a command; in the load file addresses begin after the two words of the count
abbrev pub named : code.Command → Named
named (Priority value) = nothing
named Ink = nothing
named Clear = nothing
named (Tile t) = of_load (2 + t.address) t.to
named (Paint m) = named_by m

-- their bytes
unfoldable pub part_for : (sheet load : List ℕ) → Named → List ℕ
part_for sheet load nothing = []
part_for sheet load (of_sheet from to) = part_of sheet from to
part_for sheet load (of_load from to) = part_of load from to

-- the mask itself
unfoldable pub mask_of : code-mask.Mask → Mask
mask_of (Rectangle r) = rectangle r.s_min r.s_size r.f_min r.f_size
mask_of (Trapezoid t) = trapezoid t.s_min t.s_size t.f_min t.f_size t.f_min_last t.f_size_last
mask_of (Runs s_min group) = runs s_min (words group.bytes.now)
mask_of (Samples s_min f_min array) = samples s_min f_min (words array.bytes.now)

-- the command itself
unfoldable pub command_of : code.Command → Command
command_of (Priority value) = priority value
command_of Ink = ink
command_of Clear = clear
command_of (Tile t) = set_tile t.transparent t.address (words t.words.now)
command_of (Paint m) = paint (mask_of m)

-- the bytes of the words that it holds
unfoldable pub bytes_in_mask : code-mask.Mask → List ℕ
bytes_in_mask (Rectangle r) = []
bytes_in_mask (Trapezoid t) = []
bytes_in_mask (Runs s_min group) = group.bytes.now
bytes_in_mask (Samples s_min f_min array) = array.bytes.now

unfoldable pub bytes_in : code.Command → List ℕ
bytes_in (Priority value) = []
bytes_in Ink = []
bytes_in Clear = []
bytes_in (Tile t) = t.words.now
bytes_in (Paint m) = bytes_in_mask m

-- ---- what the reader answers

-- a command with the words that it names, their bytes and the place after it
pub record Placed : Type 0 where
  pub command : Command
  pub names : Named
  pub bytes : List ℕ
  pub next : ℕ

-- a source, where the code word has place p
abbrev pub located : ℕ → Source → Named
located p nowhere = nothing
located p (in_band offset n) = of_sheet (p + offset) (p + offset + n)
located p (in_load address n) = of_load (2 + address) (2 + address + n)

abbrev pub whole_at : Command → Named → (bytes : List ℕ) → (next : ℕ) → Answer Placed
whole_at c names bytes next = given (record { command = c; names = names; bytes = bytes; next = next })

-- what was read where the code word has place p
abbrev pub placed : (sheet load : List ℕ) → ℕ → Taken → Answer Placed
placed sheet load p (given w) = whole_at w.command (located p w.source) (part_for sheet load (located p w.source)) (p + suc w.more)
placed sheet load p (refused number offset) = refused number (p + offset)

-- what the reader's answer says
abbrev pub read_as : Result (code.Command × ℕ) Refusal → Answer Placed
read_as r = answer_as (λ (c, next). record { command = command_of c; names = named c; bytes = bytes_in c; next = next }) r

-- what is answered at place p for an array of this extent, whose padding has a bit set or not: its number of words, or the refusal, for what lies
-- past the end by the fault that is given
abbrev pub array_answer : (past : Fault) (p : ℕ) → Option ℕ → Bool → Result ℕ Refusal
array_answer past p none t = Err (record { fault = past; place = p })
array_answer past p (some n) t = cond t (Err (record { fault = fault.Padding; place = p })) (Ok n)

-- ---- colours

-- the bytes of a colour's tile; none where it is no tile
unfoldable pub tile_part : code-colour.Colour → List ℕ
tile_part (colour.Solid v) = []
tile_part (colour.Tile t) = t.words.now

-- the colour itself
unfoldable pub colour_of : code-colour.Colour → Colour
colour_of (colour.Solid v) = solid v
colour_of (colour.Tile t) = tiled t.transparent t.address (words t.words.now)

-- ---- worked cases

abbrev sheet_file : List ℕ
sheet_file = bytes_of (1 ∷ 4 ∷ 0x8002 ∷ [])

abbrev load_file : List ℕ
load_file = bytes_of (0xA000 ∷ 0xB000 ∷ 0xC000 ∷ [])

-- files of 20 words and of 1
abbrev long_file : List ℕ
long_file = bytes_of (0 ∷ 1 ∷ 2 ∷ 3 ∷ 4 ∷ 5 ∷ 6 ∷ 7 ∷ 8 ∷ 9 ∷ 10 ∷ 11 ∷ 12 ∷ 13 ∷ 14 ∷ 15 ∷ 16 ∷ 17 ∷ 18 ∷ 19 ∷ [])

abbrev short_file : List ℕ
short_file = bytes_of (7 ∷ [])

-- a slice of these bytes, wherever it stands
abbrev slice : List ℕ → Bor (List ℕ)
slice bytes = record { ref_ptr = (0, 0); now = bytes }

-- a tile at the beginning of the load
abbrev tile : Bool → code-tile.Tile
tile t = record { transparent = t; address = 0; to = 8; words = slice (bytes_of example_tile) }

-- words 0 up to 3 of the sheet or of the load
abbrev source : code-words.Words
source = record { load = false; from = 0; to = 3; bytes = slice sheet_file }

abbrev load_source : code-words.Words
load_source = record { load = true; from = 0; to = 3; bytes = slice load_file }

pub record CodeCases : Type 0 where
  pub next_place : placed sheet_file load_file 14 (taken ink nowhere 0) ≡ whole_at ink nothing [] 15
  pub after_arguments : placed sheet_file load_file 14 (taken (priority 5) nowhere 2) ≡ whole_at (priority 5) nothing [] 17
  pub place_in_sheet : placed long_file short_file 14 (taken ink (in_band 2 3) 0) ≡ whole_at ink (of_sheet 16 19) (part_for long_file short_file (of_sheet 16 19)) 15
  pub place_in_load : placed short_file long_file 14 (taken ink (in_load 6 3) 0) ≡ whole_at ink (of_load 8 11) (part_for short_file long_file (of_load 8 11)) 15
  pub at_code : placed sheet_file load_file 14 (refused 7 0) ≡ refused 7 14
  pub offset_counted : placed sheet_file load_file 14 (refused 8 3) ≡ refused 8 17
  pub answer_whole : read_as (Ok (Clear, 9)) ≡ whole_at clear nothing [] 9
  pub answer_refused : read_as (Err (record { fault = fault.Cut; place = 9 })) ≡ refused 6 9
  pub array_there : array_answer fault.Cut 9 (some 5) false ≡ Ok 5
  pub array_past : array_answer fault.Cut 9 none true ≡ Err (record { fault = fault.Cut; place = 9 })
  pub array_padded : array_answer fault.Cut 9 (some 5) true ≡ Err (record { fault = fault.Padding; place = 9 })
  pub tile_named : named (Tile (tile true)) ≡ of_load 2 8
  pub runs_named : named (Paint (Runs 0 source)) ≡ of_sheet 0 3
  pub load_runs_named : named (Paint (Runs 0 load_source)) ≡ of_load 0 3
  pub samples_named : named (Paint (Samples 0 0 source)) ≡ of_sheet 0 3
  pub load_samples_named : named (Paint (Samples 0 0 load_source)) ≡ of_load 0 3
  pub priority_named : named (Priority 5) ≡ nothing
  pub ink_named : named Ink ≡ nothing
  pub clear_named : named Clear ≡ nothing
  pub rectangle_named : named (Paint (Rectangle (record { s_min = 0; s_size = 1; f_min = 0; f_size = 1 }))) ≡ nothing
  pub trapezoid_named : named (Paint (Trapezoid (record { s_min = 0; s_size = 2; f_min = 0; f_size = 1; f_min_last = 0; f_size_last = 1 }))) ≡ nothing
  pub tile_named_bytes : bytes_in (Tile (tile true)) ≡ bytes_of example_tile
  pub runs_named_bytes : bytes_in (Paint (Runs 0 source)) ≡ sheet_file
  pub load_runs_named_bytes : bytes_in (Paint (Runs 0 load_source)) ≡ load_file
  pub samples_named_bytes : bytes_in (Paint (Samples 0 0 source)) ≡ sheet_file
  pub load_samples_named_bytes : bytes_in (Paint (Samples 0 0 load_source)) ≡ load_file
  pub priority_named_bytes : bytes_in (Priority 5) ≡ []
  pub ink_named_bytes : bytes_in Ink ≡ []
  pub clear_named_bytes : bytes_in Clear ≡ []
  pub rectangle_named_bytes : bytes_in (Paint (Rectangle (record { s_min = 0; s_size = 1; f_min = 0; f_size = 1 }))) ≡ []
  pub trapezoid_named_bytes : bytes_in (Paint (Trapezoid (record { s_min = 0; s_size = 2; f_min = 0; f_size = 1; f_min_last = 0; f_size_last = 1 }))) ≡ []
  pub words_of_sheet : part_for sheet_file load_file (of_sheet 1 3) ≡ bytes_of (4 ∷ 0x8002 ∷ [])
  pub words_of_load : part_for sheet_file load_file (of_load 1 3) ≡ bytes_of (0xB000 ∷ 0xC000 ∷ [])
  pub no_words : part_for sheet_file load_file nothing ≡ []
  pub priority_is : command_of (Priority 5) ≡ priority 5
  pub ink_is : command_of Ink ≡ ink
  pub clear_is : command_of Clear ≡ clear
  pub opaque_is : command_of (Tile (tile false)) ≡ set_tile false 0 example_tile
  pub transparent_is : command_of (Tile (tile true)) ≡ set_tile true 0 example_tile
  pub rectangle_is : command_of (Paint (Rectangle (record { s_min = 1; s_size = 2; f_min = 3; f_size = 4 }))) ≡ paint (rectangle 1 2 3 4)
  pub trapezoid_is : mask_of (Trapezoid (record { s_min = 1; s_size = 2; f_min = 3; f_size = 4; f_min_last = 5; f_size_last = 6 })) ≡ trapezoid 1 2 3 4 5 6
  pub runs_is : mask_of (Runs 9 source) ≡ runs 9 (1 ∷ 4 ∷ 0x8002 ∷ [])
  pub load_runs_is : command_of (Paint (Runs 9 load_source)) ≡ paint (runs 9 (0xA000 ∷ 0xB000 ∷ 0xC000 ∷ []))
  pub samples_is : mask_of (Samples 8 7 source) ≡ samples 8 7 (1 ∷ 4 ∷ 0x8002 ∷ [])
  pub load_samples_is : command_of (Paint (Samples 8 7 load_source)) ≡ paint (samples 8 7 (0xA000 ∷ 0xB000 ∷ 0xC000 ∷ []))
  -- the words of a group of the sheet and of one of the load
  pub runs_words : placed (bytes_of (9 ∷ 7 ∷ 0 ∷ 1 ∷ 4 ∷ [])) load_file 1 (taken ink (in_band 2 2) 2) ≡ whole_at ink (of_sheet 3 5) (bytes_of (1 ∷ 4 ∷ [])) 4
  pub load_runs_words : placed sheet_file (bytes_of (3 ∷ 0 ∷ 0 ∷ 1 ∷ 4 ∷ [])) 1 (taken ink (in_load 1 2) 3) ≡ whole_at ink (of_load 3 5) (bytes_of (1 ∷ 4 ∷ [])) 5
  pub ink_colour : colour_of (colour.Solid true) ≡ solid true
  pub clear_colour : colour_of (colour.Solid false) ≡ solid false
  pub opaque_tile : colour_of (colour.Tile (tile false)) ≡ tiled false 0 example_tile
  pub transparent_tile : colour_of (colour.Tile (tile true)) ≡ tiled true 0 example_tile
  pub solid_no_words : tile_part (colour.Solid true) ≡ []
  pub tile_whole : tile_part (colour.Tile (tile true)) ≡ bytes_of example_tile

pub code_cases : CodeCases
unfolding part_for mask_of command_of bytes_in bytes_in_mask colour_of tile_part part_of words bytes_of
code_cases = search
