-- `film_cursor::advance` meets its contract: the command reader's answers, one by one. Assumes nothing.
use Rattle.std.proofs.Common.{arith, rules, ◌≡◌, ℕ, ◌≤◌, ◌/◌, List, length, Err}
use Rattle.film_words.specs.Words.{words}
use Rattle.film_words.proofs.Words.{length-words}
use Rattle.film_words.proofs.Parts.{part_past, part_empty}
use Rattle.film_cursor.proofs.Cursors.{step_end, refusing, step_paint, step_priority, step_ink, step_clear, step-tile}
use Rattle.film_cursor.proofs.advance.Goals as goal
use Rattle.film_cursor.proofs.advance.Goals.{then-c-end-via-then-c-end, then-c-end-via-else-c-end+then-end-sheet, in-Paint, in-Priority, in-Ink, in-Clear, in-Tile}

room : (sheet : List ℕ) {e : ℕ} → e ≤ length sheet / 2 → e ≤ length (words sheet)
room sheet h = omega (arith, length-words sheet)

pub returns-then-c-end : goal.returns-then-c-end
returns-then-c-end c =
    let a = c.args in
    step_end _ _ _ _
    (elim c.then-c-end.branch [
      | then-c-end-via-then-c-end w ↦ part_empty a.sheet.now a.c.at a.end w.if-c-end.true
      | then-c-end-via-else-c-end+then-end-sheet w ↦ part_past a.sheet.now _ _ (omega (arith, w.if-end-sheet.true, length-words a.sheet.now))
    ])

pub returns-in_default : goal.returns-in_default
returns-in_default c =
    let s = c.args.sheet.now in
    let x : c.map.result ≡ Err c.in_default.field-0 = search rules in
    rw x (refusing s _ _ _ c.if-c-end.false (room s c.if-end-sheet.false) _ c.read_command-read.ensures _ c.in_default.is)

pub returns : goal.returns
returns c =
    let s = c.args.sheet.now in
    let room = room s c.if-end-sheet.false in
    elim c.match-command.branch [
      | in-Paint w ↦ rw w.result-is (step_paint s _ _ _ c.if-c-end.false room _ c.read_command-read.ensures _ _ c.in-Ok.is _ w.in-Paint.is)
      | in-Priority w ↦ rw w.result-is (step_priority s _ _ _ c.if-c-end.false room _ c.read_command-read.ensures _ _ c.in-Ok.is _ w.in-Priority.is)
      | in-Ink w ↦ rw w.result-is (step_ink s _ _ _ c.if-c-end.false room _ c.read_command-read.ensures _ _ c.in-Ok.is w.in-Ink.is)
      | in-Clear w ↦ rw w.result-is (step_clear s _ _ _ c.if-c-end.false room _ c.read_command-read.ensures _ _ c.in-Ok.is w.in-Clear.is)
      | in-Tile w ↦ rw w.result-is (step-tile s _ _ _ c.if-c-end.false room _ c.read_command-read.ensures _ _ c.in-Ok.is _ w.in-Tile.is)
    ]
