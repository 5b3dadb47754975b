-- A call that 36 does not refuse.
use Rattle.std.specs.Prelude.{List, ℕ, ◌≤◌, length}
use Rattle.strip.specs.declared.Receiver.{Receiver}

pub record Usable (r : Receiver) (bands dots : List ℕ) : Type 0 where
  pub have_most : r.have ≤ 648
  pub bands_most : r.bands ≤ 9
  pub room_in_bands : 5760 ≤ length bands
  pub room_in_dots : 5760 ≤ length dots
