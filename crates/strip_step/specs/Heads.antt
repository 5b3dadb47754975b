-- What the last byte of a header leaves, whatever the buffers.
use Rattle.std.specs.Prelude.{◌≡◌, ℕ, List}
use Rattle.strip.specs.declared.Receiver.{Receiver}
use Rattle.strip.specs.Packets.{number, add16}
use Rattle.strip.specs.Step.{Answered, leaves, headed}

abbrev pub Heads : Receiver → ℕ → Receiver → Answered → Type 0
Heads r b r' a = (bs ds : List ℕ) → leaves r' a bs ds ≡ headed r (number r.low b) (add16 r.sum b) bs ds
