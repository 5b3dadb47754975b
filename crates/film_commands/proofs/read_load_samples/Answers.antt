-- `film_commands::read_load_samples` meets its contract: the array stands two words after its address, past the load's count. Assumes nothing.
use Rattle.std.proofs.Common.{arith, refl, ◌+◌, inl, inr}
use Rattle.std.proofs.lemmas.Result.{err_from_is_err_and}
use Rattle.film_words.specs.Words.{words}
use Rattle.film_commands.specs.Code.{command_of, mask_of, bytes_in, bytes_in_mask, part_for}
use Rattle.film_commands.proofs.Commands.{array_room, load_samples_past, load_samples_there}
use Rattle.film_commands.proofs.Answers.{refused-at, refused-cut, whole-at, array_ok, array_err}
use Rattle.film_commands.proofs.read_load_samples.Goals as goal

pub returns-in_err-need : goal.returns-in_err-need
returns-in_err-need c = λ s least.
    let a = c.args in
    let x = err_from_is_err_and c.from_residual.result c.from_residual.ensures.1 in rw (x.1, x.2) (refused-cut s a.load.now a.args.p _ least 10 (words a.args.after.now) refl c.in_err-need.ensures.cut)

pub returns-in_err-n : goal.returns-in_err-n
returns-in_err-n c = λ s least.
    let a = c.args in
    let x = err_from_is_err_and c.from_residual-in_err-n.result c.from_residual-in_err-n.ensures.1 in
    rw (x.1, x.2)
    (elim (array_err _ _ _ _ (c.whole_array.ensures _ c.array_extent-extent.ensures) c.in_err-n.was) [
      | inl m ↦
          refused-at s a.load.now a.args.p _ m.1
          (load_samples_past a.load.now (words a.args.after.now) least _ c.long.ensures c.in_ok-need.ensures.enough m.0)
      | inr m ↦
          refused-at s a.load.now a.args.p _ m.1.2
          (load_samples_there a.load.now (words a.args.after.now) least _ c.long.ensures m.0 refl refl c.in_ok-need.ensures.enough m.1.0 m.1.1)
    ])

pub overflow_add-to : goal.overflow_add-to
overflow_add-to c =
    omega (arith, array_room c.args.load.now (2 + c.long.result) c.in_ok-n.n (array_ok _ _ _ _ (c.whole_array.ensures _ c.array_extent-extent.ensures) c.in_ok-n.was).0)

pub returns : goal.returns
unfolding command_of mask_of bytes_in bytes_in_mask part_for
returns c = λ s least.
    let a = c.args in
    let m = array_ok _ _ _ _ (c.whole_array.ensures _ c.array_extent-extent.ensures) c.in_ok-n.was in
    rw c.part.ensures
    (whole-at s a.load.now a.args.p 4 _ _ _ _ _ _
    (load_samples_there a.load.now (words a.args.after.now) least _ c.long.ensures c.in_ok-n.n c.word.ensures c.word-2.ensures
    c.in_ok-need.ensures.enough m.0 m.1)
    refl refl refl)
