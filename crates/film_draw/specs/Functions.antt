-- What draw's private functions need and leave.
use Rattle.std.specs.Prelude.{◌≡◌, Result, List, ◌++◌, ℕ, ◌*◌, ◌≤◌, ◌<◌, length, drop}
use Rattle.refusal.specs.declared.Refusal.{Refusal}
use Rattle.row.specs.Counts.{joined}
use Rattle.film_words.specs.Words.{words}
use Rattle.film_words.specs.Load.{load_words}
use Rattle.film_commands.specs.Band.{Stroke}
use Rattle.film_herald.specs.Herald.{herald_of, band_start, band_rows, row_length}
use Rattle.film_layout.specs.Layout.{Span}
use Rattle.film_imaging.specs.Pictures.{rows_of}
use Rattle.film_paint.specs.Rows.{window_of}
use Rattle.film_paint.specs.declared.Frame.{Frame}
use Rattle.film_drawing.specs.Draw.{DrawAnswer, draw_rows, buffer_after}
use Rattle.film_drawing.specs.Promise.{drawn_as, due}
use Rattle.film_drawing.specs.declared.Drawn.{Drawn}

-- a frame's rows, which have dots, lie in the buffer
abbrev pub Fits : (buffer : List ℕ) → Frame → Type 0
Fits buffer frame = (0 < frame.width) × (frame.rows * row_length frame.width ≤ length buffer)

-- the frame of band b: its lines, with the whole film as its window
pub record FrameOf (sheet : List ℕ) (b : ℕ) (frame : Frame) : Type 0 where
  pub top_is : frame.top ≡ band_start (herald_of (words sheet)) b
  pub rows_is : frame.rows ≡ band_rows (herald_of (words sheet)) b
  pub left_is : frame.left ≡ 0
  pub width_is : frame.width ≡ (herald_of (words sheet)).image_f_size

-- the buffer after strokes were carried out on the frame's rows, which are all 0 at first
abbrev pub inked_with : Frame → List Stroke → (held : List ℕ) → List ℕ
inked_with frame ks held = joined (rows_of (window_of frame) frame.top frame.rows ks) ++ drop (frame.rows * row_length frame.width) held

-- the answer that is due for a band, by its words
abbrev pub drawn_by : Frame → (load : List ℕ) → Span → DrawAnswer
drawn_by frame load x = draw_rows (window_of frame) frame.top frame.rows (load_words load) x

-- where the answer a is due, the code answers r and leaves `left` in the buffer, which held `held`
pub record Answered (a : DrawAnswer) (held : List ℕ) (r : Result Drawn Refusal) (left : List ℕ) : Type 0 where
  pub answer_is : drawn_as r ≡ due a
  pub left_is : left ≡ buffer_after a held
