-- The reading, byte by byte: a machine that moves from place to place, and that its run over a stream is the plain reading. Assumes nothing.
use mathlib.Core.Path.{◌≡◌, refl, sym, ap, ◌∙◌}
use mathlib.Core.Bool.{Bool, true, false, cond}
use mathlib.Core.List.{List, [], ◌∷◌, ◌++◌, append_assoc, append-nil}
use Prim.Native.Nat.{ℕ, zero, suc, ◌+◌, ◌≤◌, ◌<◌}
use native.Mathlib.Omega.{arith}
use borrow.Author.Tests.{lt-ltb, le-ltb, ltb-true, ltb-false}
use lib.Dec.{eqb, ltb}
use lib.ListN.{length, get_or, take, drop, length-append, length-drop}
use lib.Seq.{drop-drop}
use Rattle.refusal.specs.declared.Fault.TheVariants as fault
use Rattle.strip.specs.Packets.{fitting, number}
use Rattle.strip.specs.Actions.{Action, initialize, add, end_page, print, inquire, refuse}
use Rattle.strip.specs.Reading.{Bands, Place, searching, half, in_header, in_body, in_sum, in_clock, Said, quiet, acknowledged, status, initialized, added, ended, inquired, printed, refused, Reading, reading, on, acted, carried_out, asked, after_body, after_header, packet, after88, follow, read_on}

-- ---- the machine

abbrev pub size_in : List ℕ → ℕ
size_in h = number (get_or h 2 0) (get_or h 3 0)

abbrev pub body_or_sum : List ℕ → ℕ → List ℕ → Place
body_or_sum h n c = cond (ltb (length c) n) (in_body h c) (in_sum h c [])

abbrev pub head_moved : Bands → List ℕ → Reading
head_moved w h =
    cond (ltb (length h) 4) (reading w (in_header h) quiet)
    (cond (fitting (get_or h 0 0) (get_or h 1 0) (size_in h)) (reading w (body_or_sum h (size_in h) []) quiet) (reading w searching (refused fault.PacketHeader)))

abbrev pub decided : Bands → Action → Reading
decided w initialize = reading [] (in_clock 0) initialized
decided w (add band) = reading (w ++ (band ∷ [])) (in_clock 0) (added (length w + 1))
decided w end_page = reading w (in_clock 0) ended
decided w (print p m d) = reading w (in_clock 0) (printed (length w) m d p)
decided w inquire = reading w (in_clock 0) inquired
decided w (refuse f) = reading w searching (refused f)

abbrev pub moved : Place → Bands → ℕ → Reading
moved searching w b = reading w (cond (eqb b 0x88) half searching) quiet
moved half w b = reading w (cond (eqb b 0x33) (in_header []) (cond (eqb b 0x88) half searching)) quiet
moved (in_header h) w b = head_moved w (h ++ (b ∷ []))
moved (in_body h c) w b = reading w (body_or_sum h (size_in h) (c ++ (b ∷ []))) quiet
moved (in_sum h c []) w b = reading w (in_sum h c (b ∷ [])) quiet
moved (in_sum h c (l ∷ ls)) w b = decided w (asked w h c l b)
moved (in_clock zero) w b = reading w (in_clock 1) acknowledged
moved (in_clock (suc n)) w b = reading w searching status

unfoldable pub runs : List ℕ → Reading → Reading
runs [] x = x
runs (b ∷ bs) x = runs bs (moved x.place x.waiting b)

pub runs_snoc : (bs : List ℕ) (b : ℕ) (x : Reading) → runs (bs ++ (b ∷ [])) x ≡ moved (runs bs x).place (runs bs x).waiting b
unfolding runs
runs_snoc [] b x = refl
runs_snoc (c ∷ bs) b x = runs_snoc bs b (moved x.place x.waiting c)

-- ---- its run is the plain reading

skips : (bytes : List ℕ) (n : ℕ) (w : Bands) (s : Said) → read_on n w s bytes ≡ read_on 0 w s (drop n bytes)
unfolding read_on
skips [] zero w s = refl
skips [] (suc n) w s = refl
skips (b ∷ bytes) zero w s = refl
skips (b ∷ bytes) (suc n) w s = skips bytes n w s

-- a body that the bytes end
short_body : (bytes h c : List ℕ) (n k : ℕ) (w : Bands) → size_in h ≡ n → length c + k ≡ n → length bytes < k
    → runs bytes (reading w (body_or_sum h n c) quiet) ≡ reading w (in_body h (c ++ bytes)) quiet
unfolding runs
short_body [] h c n k w e l lt = let t : ltb (length c) n ≡ true = lt-ltb (length c) n (omega arith) in simp (t, append-nil)
short_body (b ∷ bytes) h c n zero w e l lt = absurd (omega arith)
short_body (b ∷ bytes) h c n (suc k) w e l lt =
    let t : ltb (length c) n ≡ true = lt-ltb (length c) n (omega arith) in
    rw (t, e) (short_body bytes h (c ++ (b ∷ [])) n k w e (omega (arith, length-append c (b ∷ []))) (omega arith) ∙ simp append_assoc)

-- and one that they don't
whole_body : (bytes h c : List ℕ) (n k : ℕ) (w : Bands) → size_in h ≡ n → length c + k ≡ n → k ≤ length bytes
    → runs bytes (reading w (body_or_sum h n c) quiet) ≡ runs (drop k bytes) (reading w (in_sum h (c ++ take k bytes) []) quiet)
unfolding runs
whole_body [] h c n zero w e l le = let t : ltb (length c) n ≡ false = le-ltb (length c) n (omega arith) in simp (t, append-nil)
whole_body [] h c n (suc k) w e l le = absurd (omega arith)
whole_body (b ∷ bytes) h c n zero w e l le = let t : ltb (length c) n ≡ false = le-ltb (length c) n (omega arith) in simp (t, append-nil)
whole_body (b ∷ bytes) h c n (suc k) w e l le =
    let t : ltb (length c) n ≡ true = lt-ltb (length c) n (omega arith) in
    rw (t, e) (whole_body bytes h (c ++ (b ∷ [])) n k w e (omega (arith, length-append c (b ∷ []))) (omega arith) ∙ simp append_assoc)

-- K: how the reading goes on in L, whose first byte came after an 88
abbrev K : List ℕ → ℕ → Bands → Said → Reading
K L k w s = read_on k w s L

module _ (n : ℕ) (ih : (w : Bands) (s : Said) (bytes : List ℕ) → length bytes ≤ n → runs bytes (reading w searching s) ≡ read_on 0 w s bytes) where
  acted-runs : (L tail : List ℕ) (k : ℕ) (w : Bands) (s : Said) → drop k L ≡ tail → length tail ≤ n → runs tail (reading w (in_clock 0) s) ≡ follow (acted k w s tail) (K L)
  unfolding runs
  acted-runs L [] k w s e l = refl
  acted-runs L (a ∷ []) k w s e l = refl
  acted-runs L (a ∷ b ∷ tail) k w s e l =
      let d : drop (k + 2) L ≡ tail = sym (drop-drop 2 k L) ∙ ap (drop 2) e in
      ih w status tail (omega arith) ∙ ap (read_on 0 w status) (sym d) ∙ sym (skips L (k + 2) w status)

  carried-runs : (L tail : List ℕ) (k : ℕ) (w : Bands) (act : Action) → drop k L ≡ tail → length tail ≤ n → runs tail (decided w act) ≡ follow (carried_out k w act tail) (K L)
  carried-runs L tail k w initialize e l = acted-runs L tail k [] initialized e l
  carried-runs L tail k w (add band) e l = acted-runs L tail k (w ++ (band ∷ [])) (added (length w + 1)) e l
  carried-runs L tail k w end_page e l = acted-runs L tail k w ended e l
  carried-runs L tail k w (print p m d) e l = acted-runs L tail k w (printed (length w) m d p) e l
  carried-runs L tail k w inquire e l = acted-runs L tail k w inquired e l
  carried-runs L tail k w (refuse m) e l = ih w (refused m) tail l ∙ ap (read_on 0 w (refused m)) (sym e) ∙ sym (skips L k w (refused m))

  sum_runs : (L bytes h c : List ℕ) (k : ℕ) (w : Bands) → drop k L ≡ drop 2 bytes → length bytes ≤ n → runs bytes (reading w (in_sum h c []) quiet) ≡ follow (after_body k w h c bytes) (K L)
  unfolding runs
  sum_runs L [] h c k w e l = refl
  sum_runs L (a ∷ []) h c k w e l = refl
  sum_runs L (a ∷ b ∷ tail) h c k w e l = carried-runs L tail k w (asked w h c a b) e (omega arith)

  after-runs : (L bytes h : List ℕ) (m : ℕ) (w : Bands) (t : Bool) → ltb (length bytes) m ≡ t → size_in h ≡ m → drop 5 L ≡ bytes → length bytes ≤ n
      → runs bytes (reading w (body_or_sum h m []) quiet) ≡ follow (after_header w h m bytes) (K L)
  after-runs L bytes h m w true q e d l = rw q (short_body bytes h [] m m w e (omega arith) (ltb-true (length bytes) m q))
  after-runs L bytes h m w false q e d l =
      let f : drop (5 + (m + 2)) L ≡ drop 2 (drop m bytes) = sym (drop-drop (m + 2) 5 L) ∙ ap (drop (m + 2)) d ∙ sym (drop-drop 2 m bytes) in
      rw q (whole_body bytes h [] m m w e (omega arith) (ltb-false (length bytes) m q) ∙ sum_runs L (drop m bytes) h (take m bytes) (5 + (m + 2)) w f (omega (arith, length-drop m bytes)))

  header_runs : (x : ℕ) (bytes : List ℕ) (w : Bands) → length bytes ≤ n → runs bytes (reading w (in_header []) quiet) ≡ follow (packet w bytes) (K (x ∷ bytes))
  unfolding runs packet
  header_runs x [] w l = refl
  header_runs x (c ∷ []) w l = refl
  header_runs x (c ∷ i ∷ []) w l = refl
  header_runs x (c ∷ i ∷ p ∷ []) w l = refl
  header_runs x (c ∷ i ∷ p ∷ h ∷ bytes) w l = go (fitting c i (number p h))
    where
      go : (t : Bool) → runs bytes (cond t (reading w (body_or_sum (c ∷ i ∷ p ∷ h ∷ []) (number p h) []) quiet) (reading w searching (refused fault.PacketHeader)))
          ≡ follow (cond t (after_header w (c ∷ i ∷ p ∷ h ∷ []) (number p h) bytes) (on 5 w (refused fault.PacketHeader))) (K (x ∷ c ∷ i ∷ p ∷ h ∷ bytes))
      go false = ih w (refused fault.PacketHeader) bytes (omega arith) ∙ sym (skips (x ∷ c ∷ i ∷ p ∷ h ∷ bytes) 5 w (refused fault.PacketHeader))
      go true = after-runs (x ∷ c ∷ i ∷ p ∷ h ∷ bytes) bytes (c ∷ i ∷ p ∷ h ∷ []) (number p h) w (ltb (length bytes) (number p h)) refl refl refl (omega arith)

  half_runs : (bytes : List ℕ) (w : Bands) → length bytes ≤ n → runs bytes (reading w half quiet) ≡ follow (after88 w bytes) (K bytes)
  unfolding runs
  half_runs [] w l = refl
  half_runs (c ∷ bytes) w l = go (eqb c 0x33)
    where
      go : (t : Bool) → runs bytes (reading w (cond t (in_header []) (cond (eqb c 0x88) half searching)) quiet) ≡ follow (cond t (packet w bytes) (on 0 w quiet)) (K (c ∷ bytes))
      go true = header_runs c bytes w (omega arith)
      go false = ih w quiet (c ∷ bytes) l

  search_runs : (w : Bands) (s : Said) (bytes : List ℕ) → length bytes ≤ suc n → runs bytes (reading w searching s) ≡ read_on 0 w s bytes
  unfolding runs read_on
  search_runs w s [] l = refl
  search_runs w s (b ∷ bytes) l = go (eqb b 0x88)
    where
      go : (t : Bool) → runs bytes (reading w (cond t half searching) quiet) ≡ follow (cond t (after88 w bytes) (on 0 w quiet)) (K bytes)
      go true = half_runs bytes w (omega arith)
      go false = ih w quiet bytes (omega arith)

of_length : (n : ℕ) (w : Bands) (s : Said) (bytes : List ℕ) → length bytes ≤ n → runs bytes (reading w searching s) ≡ read_on 0 w s bytes
unfolding runs read_on
of_length zero w s [] l = refl
of_length zero w s (b ∷ bytes) l = absurd (omega arith)
of_length (suc n) w s bytes l = search_runs n (of_length n) w s bytes l

pub runs_read : (w : Bands) (s : Said) (bytes : List ℕ) → runs bytes (reading w searching s) ≡ read_on 0 w s bytes
runs_read w s bytes = of_length (length bytes) w s bytes (omega arith)
