-- What one byte of a coded body does to a band that is being filled, and what a band or none stands for.
use Rattle.std.specs.Prelude.{◌≡◌, List, ◌∷◌, ℕ, ◌≤◌, length, take, Option, Some, None}
use Rattle.refusal.specs.declared.Fault.TheVariants.{BandBytes}
use Rattle.strip.specs.declared.Run.{Run}
use Rattle.strip.specs.Coding.{Expansion, after, expand_from}
use Rattle.strip.specs.Actions.{Action, add, refuse, of_expansion}
use Rattle.strip_band.specs.declared.Filled.{Filled}

-- what a body stands for whose first bytes gave `take at out` and of which these are left
abbrev pub expansion_from : (out : List ℕ) (at : ℕ) (bytes : List ℕ) → Run → Expansion
expansion_from out at bytes run = after (take at out) (expand_from bytes run)

-- what a byte b leaves of a band and of how far it is filled
pub record Puts (old : Filled) (b : ℕ) (out : List ℕ) (new : Option Filled) (out' : List ℕ) : Type 0 where
  pub long : length out' ≡ 640
  -- the same body as before
  pub same : (f : Filled) → new ≡ Some f → (f.at ≤ 640) × ((bytes : List ℕ) → expansion_from out old.at (b ∷ bytes) old.run ≡ expansion_from out' f.at bytes f.run)
  -- or it is too long, whatever comes
  pub over : new ≡ None → (bytes : List ℕ) → of_expansion (expansion_from out old.at (b ∷ bytes) old.run) ≡ refuse BandBytes

-- a band is added; with none the packet is refused
abbrev pub band_or_refusal : Option (List ℕ) → Action
band_or_refusal (Some band) = add band
band_or_refusal None = refuse BandBytes
