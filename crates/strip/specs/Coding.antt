-- A run-coded body. A first byte of 128 and more: its low seven bits plus two times the byte after it, so up to 129. Below 128: that number plus
-- one bytes follow as they are, up to 128.
use Rattle.std.specs.Prelude.{◌≡◌, refl, cond, List, [], ◌∷◌, ◌++◌, ℕ, zero, suc, ◌+◌, ◌%◌, leb, replicate}
use Rattle.strip.specs.declared.Run.{Run}
use Rattle.strip.specs.declared.Run.TheVariants.{First, Copied, Literal}

-- the bytes of a body whose runs end with it; or a run is cut by the body's end
pub data Expansion : Type 0 where
  whole : List ℕ → Expansion
  cut : Expansion

abbrev pub after : List ℕ → Expansion → Expansion
after front (whole bs) = whole (front ++ bs)
after front cut = cut

abbrev pub run_of : ℕ → Run
run_of b = cond (leb 128 b) (Copied (b % 128 + 2)) (Literal b)

abbrev pub left_of : ℕ → Run
left_of zero = First
left_of (suc n) = Literal n

-- no run is left open at the body's end
abbrev pub at_end : Run → Expansion
at_end First = whole []
at_end (Copied n) = cut
at_end (Literal n) = cut

-- what the bytes stand for from here on
unfoldable pub expand_from : List ℕ → Run → Expansion
expand_from [] run = at_end run
expand_from (b ∷ bs) First = expand_from bs (run_of b)
expand_from (b ∷ bs) (Copied n) = after (replicate n b) (expand_from bs First)
expand_from (b ∷ bs) (Literal n) = after (b ∷ []) (expand_from bs (left_of n))

abbrev pub expand : List ℕ → Expansion
expand bs = expand_from bs First

-- ---- worked cases

pub record CodingCases : Type 0 where
  -- the source's example
  pub example : expand (0x82 ∷ 0x00 ∷ 0x06 ∷ 0xFF ∷ 0x00 ∷ 0xFF ∷ 0x00 ∷ 0x00 ∷ 0xFF ∷ 0x00 ∷ 0x83 ∷ 0xFF ∷ [])
      ≡ whole (0x00 ∷ 0x00 ∷ 0x00 ∷ 0x00 ∷ 0xFF ∷ 0x00 ∷ 0xFF ∷ 0x00 ∷ 0x00 ∷ 0xFF ∷ 0x00 ∷ 0xFF ∷ 0xFF ∷ 0xFF ∷ 0xFF ∷ 0xFF ∷ [])
  pub nothing : expand [] ≡ whole []
  pub longest_run : expand (0xFF ∷ 0x07 ∷ []) ≡ whole (replicate 129 0x07)
  pub longest_literal : expand (0x7F ∷ replicate 128 0x05) ≡ whole (replicate 128 0x05)
  pub shortest : expand (0x80 ∷ 0x01 ∷ 0x00 ∷ 0x02 ∷ []) ≡ whole (0x01 ∷ 0x01 ∷ 0x02 ∷ [])
  -- the source's guess was 32: 9E
  pub over_32 : expand (0x9F ∷ 0x01 ∷ []) ≡ whole (replicate 33 0x01)
  pub lone_run : expand (0x80 ∷ []) ≡ cut
  pub lone_literal : expand (0x00 ∷ []) ≡ cut
  pub short_literal : expand (0x02 ∷ 0x09 ∷ 0x09 ∷ []) ≡ cut

pub coding_cases : CodingCases
unfolding expand_from
coding_cases = record {
  example = refl;
  nothing = refl;
  longest_run = refl;
  longest_literal = refl;
  shortest = refl;
  over_32 = refl;
  lone_run = refl;
  lone_literal = refl;
  short_literal = refl;
}
