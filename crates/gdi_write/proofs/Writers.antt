-- Laws of what a writer writes or refuses. Assumes nothing.
use mathlib.Core.Path.{◌≡◌, refl}
use mathlib.Core.Bool.{true, false}
use mathlib.Core.List.{List}
use Prim.Native.Nat.{ℕ, ◌<◌, ◌≤◌}
use borrow.Author.Tests.{le-leb, lt-leb}
use lib.ListN.{length}
use Rattle.truth.proofs.Tests.{is_false}
use Rattle.gdi_jobs.specs.Groups.{admitted, fields}
use Rattle.gdi_jobs.specs.Writers.{writes, refuses, in_room, PageHead, page_head_bytes, page_head_writing, linefill_of}
use Rattle.gdi_jobs.proofs.Groups.{admitted_is}
use Rattle.gdi_write.specs.Paper.{command, fill_answer}
use Rattle.gdi_write.specs.Paper as paper

-- ---- room in the output

pub put_short : (bytes : List ℕ) (room : ℕ) → room < length bytes → in_room bytes room ≡ refuses 27 0
put_short bytes room h = rw (lt-leb _ _ h) refl

pub put_whole : (bytes : List ℕ) (room : ℕ) → length bytes ≤ room → in_room bytes room ≡ writes bytes
put_whole bytes room h = rw (le-leb _ _ h) refl

-- ---- the width

pub admitted_no : (width : ℕ) → ((1 ≤ width) × (width ≤ 16383) → ⊥) → admitted width ≡ false
admitted_no width n = is_false (admitted width) (admitted_is width) n

pub fill_refused : (width : ℕ) → admitted width ≡ false → paper.refused 27 0 ≡ fill_answer width
unfolding fill_answer
fill_refused width e = rw e refl

pub fill_given : (width : ℕ) → 1 ≤ width → width ≤ 16383 → command (linefill_of width) ≡ fill_answer width
unfolding fill_answer
fill_given width a b = rw ((admitted_is width).said (a, b)) refl

-- ---- a page head

pub page_refused : (h : PageHead) (room : ℕ) → fields h.width h.height h.toner ≡ false → page_head_writing h room ≡ refuses 22 0
unfolding page_head_writing
page_refused h room e = rw e refl

pub page_put : (h : PageHead) (room : ℕ) → fields h.width h.height h.toner ≡ true → in_room (page_head_bytes h) room ≡ page_head_writing h room
unfolding page_head_writing
page_put h room e = rw e refl
