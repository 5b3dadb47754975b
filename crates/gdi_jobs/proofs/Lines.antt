-- Laws of the line reader, a step at a time. Assumes nothing.
use mathlib.Core.Path.{◌≡◌, refl, sym, ap, ap₂, ◌∙◌}
use mathlib.Core.Bool.{Bool, true, false, not}
use mathlib.Core.List.{List, [], ◌∷◌}
use Prim.Native.Nat.{ℕ, zero, suc, ◌+◌, ◌-◌, ◌<◌, ◌≤◌}
use native.Mathlib.Nat.{add-zero}
use native.Mathlib.Omega.{arith}
use borrow.Author.Tests.{le-leb, lt-leb}
use lib.ListN.{length, drop}
use Rattle.gdi_jobs.specs.Commands.{Command, dots_of}
use Rattle.gdi_jobs.specs.Pages.{Next, to_block, to_end, to_command, fault, next}
use Rattle.gdi_jobs.specs.Lines.{line, page_end, refused, with_command, then_line, line_from}
use Rattle.gdi_jobs.proofs.Groups.{never}
use Rattle.gdi_jobs.proofs.Pages.{next_block, next-command, next_nil}

-- bytes that belong to what stands before are passed
pub line_skip : (w : ℕ) (st : Bool) (sum left k p : ℕ) (bs : List ℕ) → k ≤ length bs
    → line_from w st sum left k p bs ≡ line_from w st sum left 0 (p + k) (drop k bs)
unfolding line_from
line_skip w st sum left zero p bs h = ap (λ (q : ℕ). line_from w st sum left 0 q bs) (sym (add-zero p))
line_skip w st sum left (suc k) p [] h = absurd (omega arith)
line_skip w st sum left (suc k) p (b ∷ bs) h =
    line_skip w st sum left k (suc p) bs (omega arith) ∙ ap (λ (q : ℕ). line_from w st sum left 0 q (drop k bs)) (omega arith)

-- bytes of what stands at p
line_after : (w : ℕ) (st : Bool) (sum left n p b : ℕ) (bs : List ℕ) → 1 ≤ n → n ≤ suc (length bs)
    → line_from w st sum left (n - 1) (suc p) bs ≡ line_from w st sum left 0 (p + n) (drop n (b ∷ bs))
line_after w st sum left zero p b bs o h = absurd (omega arith)
line_after w st sum left (suc n) p b bs o h =
    let one : suc n - 1 ≡ n = omega arith in
    ap (λ (k : ℕ). line_from w st sum left k (suc p) bs) one ∙ line_skip w st sum left n (suc p) bs (omega arith)
    ∙ ap (λ (q : ℕ). line_from w st sum left 0 q (drop n bs)) (omega arith)

-- by what comes next
module _ (w : ℕ) (st : Bool) (sum left p : ℕ) where
  by_next : (b : ℕ) (bs : List ℕ) (x : Next) → next false (not st) left (b ∷ bs) ≡ x
      → line_from w st sum left 0 p (b ∷ bs) ≡ then_line w st sum left p x (λ t s l n. line_from w t s l (n - 1) (suc p) bs)
  unfolding line_from
  by_next b bs x e = ap (λ (x : Next). then_line w st sum left p x (λ t s l n. line_from w t s l (n - 1) (suc p) bs)) e

  -- a block
  pub line_block : (bs : List ℕ) (size : ℕ) → next false (not st) left bs ≡ to_block size
      → line_from w st sum left 0 p bs ≡ line_from w st sum size 0 (p + 6) (drop 6 bs)
  line_block [] size e = never (cc (next_nil false (not st) left))
  line_block (b ∷ bs) size e =
      let h = next_block false (not st) left (b ∷ bs) size e in by_next b bs (to_block size) e ∙ line_after w st sum size 6 p b bs (omega arith) (omega arith)

  -- the page's end
  pub line_end : (bs : List ℕ) → next false (not st) left bs ≡ to_end → line_from w st sum left 0 p bs ≡ page_end (p + 6)
  line_end [] e = never (cc (next_nil false (not st) left))
  line_end (b ∷ bs) e = by_next b bs to_end e

  -- the line's last command
  pub line_last : (bs : List ℕ) (c : Command) (n : ℕ) → next false (not st) left bs ≡ to_command c n → w ≤ sum + dots_of c
      → line_from w st sum left 0 p bs ≡ line (c ∷ []) (p + n) (left - n)
  line_last [] c n e h = never (cc (next_nil false (not st) left))
  line_last (b ∷ bs) c n e h = by_next b bs (to_command c n) e ∙ rw (le-leb w (sum + dots_of c) h) refl

  -- a command before it
  pub line_command : (bs : List ℕ) (c : Command) (n : ℕ) → next false (not st) left bs ≡ to_command c n → sum + dots_of c < w
      → line_from w st sum left 0 p bs ≡ with_command c (line_from w true (sum + dots_of c) (left - n) 0 (p + n) (drop n bs))
  line_command [] c n e h = never (cc (next_nil false (not st) left))
  line_command (b ∷ bs) c n e h =
      let k = next-command false (not st) left (b ∷ bs) c n e in
      by_next b bs (to_command c n) e
      ∙ rw (lt-leb w (sum + dots_of c) h) (ap (with_command c) (line_after w true (sum + dots_of c) (left - n) n p b bs (omega arith) (omega arith)))

  -- a refusal
  pub line_fault : (bs : List ℕ) (number i : ℕ) → next false (not st) left bs ≡ fault number i → line_from w st sum left 0 p bs ≡ refused number (p + i)
  unfolding line_from
  line_fault [] number i e =
      let n : 24 ≡ number = cc (next_nil false (not st) left) in
      let z : 0 ≡ i = cc (next_nil false (not st) left) in
      ap₂ refused n (omega arith)
  line_fault (b ∷ bs) number i e = by_next b bs (fault number i) e
