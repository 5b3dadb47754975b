-- One byte of any record that a stream can leave moves it as the machine moves. Assumes nothing.
use mathlib.Core.Path.{◌≡◌, refl, sym, ap, ◌∙◌, subst}
use mathlib.Core.Bool.{Bool, true, false, cond, ◌&&◌, ◌||◌}
use mathlib.Core.List.{List, [], ◌∷◌, ◌++◌, append_assoc, append-nil}
use Prim.Native.Nat.{ℕ, zero, suc, ◌+◌, ◌*◌, ◌/◌, ◌%◌, ◌≤◌, ◌<◌}
use native.Mathlib.Omega.{arith}
use native.Mathlib.Numerals.{add-one}
use borrow.Author.Tests.{lt-ltb, le-ltb, ltb-true, leb-true, leb-false, eqb-true, eqb-false}
use lib.Dec.{eqb, ltb, leb}
use lib.ListN.{length, get_or, take, drop, set, length-append, length-set}
use lib.Seq.{length-take-le, take-suc-set, take_at, get_or-take}
use Rattle.std.proofs.Common.{Ok}
use Rattle.refusal.specs.declared.Fault.TheVariants as fault
use Rattle.refusal.specs.Faults.{number_of}
use Rattle.strip.specs.declared.Receiver.{Receiver}
use Rattle.strip.specs.declared.Phase.{Phase}
use Rattle.strip.specs.declared.Phase.TheVariants.{Hunt, Mark, Command, Indicator, Low, High, Body, SumLow, SumHigh, ClockFirst, ClockSecond}
use Rattle.strip.specs.declared.Answer.TheVariants.{Reply, Added, Printed}
use Rattle.strip.specs.Packets.{fitting, number, add16, sum_from, checksum}
use Rattle.strip.specs.Coding.{Expansion, whole, cut, expand}
use Rattle.strip.specs.Actions.{Action, initialize, add, end_page, print, inquire, refuse, action, of_expansion, of_data, of_command}
use Rattle.strip.specs.Reading.{Bands, searching, half, in_header, in_body, in_sum, in_clock, quiet, refused, Reading, reading, asked}
use Rattle.strip.specs.Step.{After, receiver, leaves, refused_with, noted, at, placed, carried, taken}
use Rattle.strip.specs.Streams.{head_of, body_of, place_at, SumIs, joined, answer_of, dots_of}
use Rattle.strip.specs.Dots as rows
use Rattle.strip.specs.Dots.{listed, four_dots, tile_byte, dot_of}
use Rattle.strip.proofs.Machine.{size_in, body_or_sum, decided, moved}

-- ---- what holds of a record between bytes

abbrev pub Extra : Phase → Receiver → Type 0
Extra Hunt r = Unit
Extra Mark r = Unit
Extra Command r = Unit
Extra Indicator r = Unit
Extra Low r = Unit
Extra High r = r.low < 256
Extra Body r = (r.have < r.size) × (r.size ≤ 648)
Extra SumLow r = Unit
Extra SumHigh r = Unit
Extra ClockFirst r = Unit
Extra ClockSecond r = Unit

pub record Fine (ph : Phase) (r : Receiver) (w : Bands) (bs : List ℕ) : Type 0 where
  pub have_most : r.have ≤ 648
  pub body_long : length r.body ≡ 648
  pub most : r.bands ≤ 9
  pub extra : Extra ph r
  pub sum_is : SumIs (place_at ph r) r.sum
  pub count_is : r.bands ≡ length w
  pub bands_are : take (640 * r.bands) bs ≡ joined w

pub record Follows (ds : List ℕ) (o : After) (m : Reading) (v : ℕ) : Type 0 where
  pub place_is : place_at o.rec.phase o.rec ≡ m.place
  pub fine : Fine o.rec.phase o.rec m.waiting o.bands
  pub answer_is : o.answer ≡ answer_of v m.said
  pub dots_is : o.dots ≡ dots_of m.waiting m.said ds

-- ---- numbers and sums

digits_low : (l b : ℕ) → l < 256 → number l b % 256 ≡ l
digits_low l b h = omega arith

digits_high : (l b : ℕ) → l < 256 → number l b / 256 ≡ b
digits_high l b h = omega arith

digits_whole : (n : ℕ) → number (n % 256) (n / 256) ≡ n
digits_whole n = omega arith

positive : (n : ℕ) → (n ≡ 0 → ⊥) → 0 < n
positive zero h = absurd (h refl)
positive (suc n) h = omega arith

small_sum : (b : ℕ) → b < 256 → b ≡ (0 + b) % 65536
small_sum b h = omega arith

sum_snoc : (bs : List ℕ) (s b : ℕ) → sum_from s (bs ++ (b ∷ [])) ≡ add16 (sum_from s bs) b
unfolding sum_from
sum_snoc [] s b = refl
sum_snoc (c ∷ bs) s b = sum_snoc bs (add16 s c) b

joined_snoc : (w : Bands) (band : List ℕ) → joined (w ++ (band ∷ [])) ≡ joined w ++ band
unfolding joined
joined_snoc [] band = append-nil band
joined_snoc (x ∷ w) band = ap (λ (l : List ℕ). x ++ l) (joined_snoc w band) ∙ sym (append_assoc x (joined w) band)

-- ---- the printed rows are of the waiting bands alone

listed_same : (f g : ℕ → ℕ) (i n : ℕ) → ((j : ℕ) → j < i + n → f j ≡ g j) → listed f i n ≡ listed g i n
unfolding listed
listed_same f g i zero h = refl
listed_same f g i (suc n) h = λ k. h i (omega arith) k ∷ listed_same f g (suc i) n (λ j l. h j (omega arith)) k

module _ (bs : List ℕ) (n : ℕ) where
  dot_same : (p y x : ℕ) → y < 16 * n → x < 160 → dot_of bs p y x ≡ dot_of (take (640 * n) bs) p y x
  dot_same p y x h k =
      let a : get_or (take (640 * n) bs) (tile_byte y x) 0 ≡ get_or bs (tile_byte y x) 0 = get_or-take (640 * n) bs (tile_byte y x) 0 (omega arith) in
      let b : get_or (take (640 * n) bs) (tile_byte y x + 1) 0 ≡ get_or bs (tile_byte y x + 1) 0 = get_or-take (640 * n) bs (tile_byte y x + 1) 0 (omega arith) in
      rw (a, b)

  four_same : (p j : ℕ) → j < 640 * n → four_dots bs p j ≡ four_dots (take (640 * n) bs) p j
  unfolding four_dots
  four_same p j h =
      let y : ℕ = j / 40 in
      let x : ℕ = 4 * (j % 40) in
      λ i. 64 * dot_same p y x (omega arith) (omega arith) i + 16 * dot_same p y (x + 1) (omega arith) (omega arith) i + 4 * dot_same p y (x + 2) (omega arith) (omega arith) i + dot_same p y (x + 3) (omega arith) (omega arith) i

-- ---- below a length that fits, there is room

narrow : (h s : ℕ) → s ≤ 648 → (ltb h s && ltb h 648) ≡ ltb h s
narrow h s l = go (ltb h s) refl
  where
    go : (t : Bool) → ltb h s ≡ t → (t && ltb h 648) ≡ t
    go true e = lt-ltb h 648 (omega (arith, ltb-true h s e))
    go false e = refl

-- ---- what a fitting header and an added band tell

module _ {P : Type 0} where
  of_cond : (t : Bool) {a b : Bool} → (a ≡ true → P) → (b ≡ true → P) → cond t a b ≡ true → P
  of_cond true f g h = f h
  of_cond false f g h = g h

  of_or : (a b : Bool) → (a ≡ true → P) → (b ≡ true → P) → (a || b) ≡ true → P
  of_or true b f g h = f refl
  of_or false b f g h = g h

  of_and : (a b : Bool) → (b ≡ true → P) → (a && b) ≡ true → P
  of_and true b f h = f h
  of_and false b f h = let z : ◌≡◌ {A = ℕ} 0 1 = cc in absurd (omega arith)

fitting_most : (c i n : ℕ) → fitting c i n ≡ true → n ≤ 648
unfolding fitting
fitting_most c i n h =
    let is : (m : ℕ) → m ≤ 648 → eqb n m ≡ true → n ≤ 648 = λ m l e. subst (λ (x : ℕ). x ≤ 648) (sym (eqb-true n m e)) l in
    of_cond (eqb c 4)
    (of_cond (eqb i 0) (of_or (eqb n 0) (eqb n 640) (is 0 (omega arith)) (is 640 (omega arith))) (of_and (eqb i 1 && leb 1 n) (leb n 648) (leb-true n 648)))
    (of_cond (eqb c 2) (of_and (eqb i 0) (eqb n 4) (is 4 (omega arith)))
    (of_cond (eqb c 1 || eqb c 15) (of_and (eqb i 0) (eqb n 0) (is 0 (omega arith))) (leb-true n 648))) h

-- an added band is 640 bytes, and the tenth is not added; a packet's refusals have numbers below 36
abbrev pub Bounded : ℕ → Action → Type 0
Bounded n initialize = Unit
Bounded n (add band) = (length band ≡ 640) × (n < 9)
Bounded n end_page = Unit
Bounded n (print p m d) = Unit
Bounded n inquire = Unit
Bounded n (refuse f) = number_of f < 36

pub bounded : (n c i : ℕ) (body : List ℕ) (s l h : ℕ) → Bounded n (action n c i body s l h)
unfolding action
bounded n c i body s l h =
    pick (eqb (number l h) s) (of_command n c i body) (refuse fault.Checksum)
    (λ _. pick (eqb c 1) initialize (two c) (λ _. tt)
    (λ _. pick (eqb c 2) (print (get_or body 2 0) (get_or body 1 0) (get_or body 3 0)) (four c) (λ _. tt)
    (λ _. pick (eqb c 4) (of_data n i body) (cond (eqb c 15) inquire (refuse fault.UnknownCommand))
    (λ _. pick (eqb (length body) 0) end_page _ (λ _. tt)
    (λ _. pick (leb 9 n) (refuse fault.TooManyBands) _ (λ _. omega arith) (λ q. expanded (cond (eqb i 0) (whole body) (expand body)) (leb-false 9 n q))))
    (λ _. pick (eqb c 15) inquire (refuse fault.UnknownCommand) (λ _. tt) (λ _. omega arith)))))
    (λ _. omega arith)
  where
    four : ℕ → Action
    four c = cond (eqb c 4) (of_data n i body) (cond (eqb c 15) inquire (refuse fault.UnknownCommand))

    two : ℕ → Action
    two c = cond (eqb c 2) (print (get_or body 2 0) (get_or body 1 0) (get_or body 3 0)) (four c)

    pick : (t : Bool) (x y : Action) → (t ≡ true → Bounded n x) → (t ≡ false → Bounded n y) → Bounded n (cond t x y)
    pick true x y f g = f refl
    pick false x y f g = g refl

    expanded : (e : Expansion) → n < 9 → Bounded n (of_expansion e)
    expanded (whole band) lt = pick (eqb (length band) 640) (add band) (refuse fault.BandBytes) (λ q. (eqb-true (length band) 640 q, lt)) (λ _. omega arith)
    expanded cut lt = omega arith

-- ---- one byte

noted-fine : (ph ph' : Phase) (r : Receiver) (c i s h m l : ℕ) (w : Bands) (bs : List ℕ) → Fine ph r w bs → h ≤ 648 → Extra ph' (noted r ph' c i s h m l) → SumIs (place_at ph' (noted r ph' c i s h m l)) m
    → Fine ph' (noted r ph' c i s h m l) w bs
noted-fine ph ph' r c i s h m l w bs f most e q = record {
  have_most = most;
  body_long = f.body_long;
  most = f.most;
  extra = e;
  sum_is = q;
  count_is = f.count_is;
  bands_are = f.bands_are;
}

module _ (r : Receiver) (w : Bands) (b : ℕ) (bs ds : List ℕ) (byte : b < 256) (long : 5760 ≤ length bs) where
  placed_is : (n : ℕ) (band : List ℕ) → length band ≡ 640 → n < 9 → take (640 * (n + 1)) (placed bs n band) ≡ take (640 * n) bs ++ band
  placed_is n band e lt =
      let k : length (take (640 * n) bs ++ band) ≡ 640 * (n + 1) = length-append (take (640 * n) bs) band ∙ omega (arith, length-take-le (640 * n) bs (omega arith)) in
      rw (← append_assoc (take (640 * n) bs) band (drop (640 * n + 640) bs)) (take_at (take (640 * n) bs ++ band) (drop (640 * n + 640) bs) (640 * (n + 1)) k)

  rows_same : (n p : ℕ) (ds : List ℕ) → rows.printed bs n p ds ≡ rows.printed (take (640 * n) bs) n p ds
  unfolding rows.printed
  rows_same n p ds = ap (λ (l : List ℕ). l ++ drop (640 * n) ds) (listed_same (four_dots bs p) (four_dots (take (640 * n) bs) p) 0 (640 * n) (λ j h. four_same bs n p j (omega arith)))

  hunts : Fine Hunt r w bs → Follows ds (taken Hunt r b bs ds) (moved searching w b) r.status
  hunts f = go (eqb b 0x88)
    where
      go : (t : Bool) → Follows ds (leaves (at r (cond t Mark Hunt)) (Ok (Reply 0)) bs ds) (reading w (cond t half searching) quiet) r.status
      go true = record { place_is = refl; fine = noted-fine Hunt Mark r _ _ _ _ _ _ w bs f f.have_most tt tt; answer_is = refl; dots_is = refl }
      go false = record { place_is = refl; fine = noted-fine Hunt Hunt r _ _ _ _ _ _ w bs f f.have_most tt tt; answer_is = refl; dots_is = refl }

  marks : Fine Mark r w bs → Follows ds (taken Mark r b bs ds) (moved half w b) r.status
  marks f = go (eqb b 0x33) (eqb b 0x88)
    where
      go : (t u : Bool) → Follows ds (leaves (at r (cond t Command (cond u Mark Hunt))) (Ok (Reply 0)) bs ds) (reading w (cond t (in_header []) (cond u half searching)) quiet) r.status
      go true u = record { place_is = refl; fine = noted-fine Mark Command r _ _ _ _ _ _ w bs f f.have_most tt tt; answer_is = refl; dots_is = refl }
      go false true = record { place_is = refl; fine = noted-fine Mark Mark r _ _ _ _ _ _ w bs f f.have_most tt tt; answer_is = refl; dots_is = refl }
      go false false = record { place_is = refl; fine = noted-fine Mark Hunt r _ _ _ _ _ _ w bs f f.have_most tt tt; answer_is = refl; dots_is = refl }

  commands : Fine Command r w bs → Follows ds (taken Command r b bs ds) (moved (in_header []) w b) r.status
  unfolding sum_from
  commands f = record { place_is = refl; fine = noted-fine Command Indicator r _ _ _ _ _ _ w bs f f.have_most tt (small_sum b byte); answer_is = refl; dots_is = refl }

  indicators : Fine Indicator r w bs → Follows ds (taken Indicator r b bs ds) (moved (place_at Indicator r) w b) r.status
  unfolding sum_from
  indicators f = record { place_is = refl; fine = noted-fine Indicator Low r _ _ _ _ _ _ w bs f f.have_most tt (ap (λ (s : ℕ). add16 s b) f.sum_is); answer_is = refl; dots_is = refl }

  lows : Fine Low r w bs → Follows ds (taken Low r b bs ds) (moved (place_at Low r) w b) r.status
  unfolding sum_from
  lows f = record { place_is = refl; fine = noted-fine Low High r _ _ _ _ _ _ w bs f f.have_most byte (ap (λ (s : ℕ). add16 s b) f.sum_is); answer_is = refl; dots_is = refl }

  highs : Fine High r w bs → Follows ds (taken High r b bs ds) (moved (place_at High r) w b) r.status
  unfolding sum_from
  highs f = go (fitting c i n) refl
    where
      c : ℕ
      c = r.command

      i : ℕ
      i = r.indicator

      n : ℕ
      n = number r.low b

      h : List ℕ
      h = r.command ∷ r.indicator ∷ r.low ∷ b ∷ []

      -- the header that is noted is the one that came
      same : ◌≡◌ {A = List ℕ} (c ∷ i ∷ n % 256 ∷ n / 256 ∷ []) h
      same = λ j. c ∷ i ∷ digits_low r.low b f.extra j ∷ digits_high r.low b f.extra j ∷ []

      sums : add16 r.sum b ≡ checksum ((c ∷ i ∷ n % 256 ∷ n / 256 ∷ []) ++ [])
      sums = ap (λ (s : ℕ). add16 s b) f.sum_is ∙ ap (λ (l : List ℕ). checksum (l ++ [])) (sym same)

      begun : (t : Bool) → eqb n 0 ≡ t → n ≤ 648
          → Follows ds (leaves (noted r (cond t SumLow Body) c i n 0 (add16 r.sum b) r.low) (Ok (Reply 0)) bs ds) (reading w (body_or_sum h n []) quiet) r.status
      begun true q l =
          let z : ltb 0 n ≡ false = le-ltb 0 n (omega (arith, eqb-true n 0 q)) in
          record { place_is = rw z (ap (λ (x : List ℕ). in_sum x [] []) same); fine = noted-fine High SumLow r _ _ _ _ _ _ w bs f (omega arith) tt sums; answer_is = refl; dots_is = refl }
      begun false q l =
          let p : 0 < n = positive n (eqb-false n 0 q) in
          let z : ltb 0 n ≡ true = lt-ltb 0 n p in
          record { place_is = rw z (ap (λ (x : List ℕ). in_body x []) same); fine = noted-fine High Body r _ _ _ _ _ _ w bs f (omega arith) (p, l) sums; answer_is = refl; dots_is = refl }

      go : (t : Bool) → fitting c i n ≡ t → Follows ds
          (cond t (leaves (noted r (cond (eqb n 0) SumLow Body) c i n 0 (add16 r.sum b) r.low) (Ok (Reply 0)) bs ds) (leaves (at r Hunt) (refused_with fault.PacketHeader) bs ds))
          (cond t (reading w (body_or_sum h n []) quiet) (reading w searching (refused fault.PacketHeader))) r.status
      go true q = begun (eqb n 0) refl (fitting_most c i n q)
      go false q = record { place_is = refl; fine = noted-fine High Hunt r _ _ _ _ _ _ w bs f f.have_most tt tt; answer_is = refl; dots_is = refl }

  bodies : Fine Body r w bs → Follows ds (taken Body r b bs ds) (moved (place_at Body r) w b) r.status
  bodies f =
      let t : ltb r.have 648 ≡ true = lt-ltb r.have 648 (omega arith) in
      let k : ltb (length (body_of r ++ (b ∷ []))) (size_in (head_of r)) ≡ ltb (r.have + 1) r.size = λ j. ltb (longer j) (digits_whole r.size j) in
      let m : (ltb (r.have + 1) r.size && ltb (r.have + 1) 648) ≡ ltb (r.have + 1) r.size = narrow (r.have + 1) r.size f.extra.1 in
      rw (t, k, m) (go (ltb (r.have + 1) r.size) refl)
    where
      longer : length (body_of r ++ (b ∷ [])) ≡ r.have + 1
      longer = length-append (body_of r) (b ∷ []) ∙ ap (λ (x : ℕ). x + 1) (length-take-le r.have r.body (omega arith))

      more : take (r.have + 1) (set r.body r.have b) ≡ body_of r ++ (b ∷ [])
      more = rw (add-one r.have) (take-suc-set r.body r.have b (omega arith))

      sums : add16 r.sum b ≡ checksum (head_of r ++ take (r.have + 1) (set r.body r.have b))
      sums = ap (λ (s : ℕ). add16 s b) f.sum_is ∙ sym (sum_snoc (head_of r ++ body_of r) 0 b) ∙ ap checksum (append_assoc (head_of r) (body_of r) (b ∷ []) ∙ ap (λ (l : List ℕ). head_of r ++ l) (sym more))

      now : Phase → Receiver
      now ph = receiver ph r.command r.indicator r.size (r.have + 1) (add16 r.sum b) r.low r.status r.bands (set r.body r.have b)

      fine' : (ph : Phase) → Extra ph (now ph) → SumIs (place_at ph (now ph)) (add16 r.sum b) → Fine ph (now ph) w bs
      fine' ph e q = record {
        have_most = omega arith;
        body_long = length-set r.body r.have b ∙ f.body_long;
        most = f.most;
        extra = e;
        sum_is = q;
        count_is = f.count_is;
        bands_are = f.bands_are;
      }

      go : (t : Bool) → ltb (r.have + 1) r.size ≡ t → Follows ds (leaves (now (cond t Body SumLow)) (Ok (Reply 0)) bs ds)
          (reading w (cond t (in_body (head_of r) (body_of r ++ (b ∷ []))) (in_sum (head_of r) (body_of r ++ (b ∷ [])) [])) quiet) r.status
      go true q = record { place_is = ap (λ (l : List ℕ). in_body (head_of r) l) more; fine = fine' Body (ltb-true (r.have + 1) r.size q, f.extra.1) sums; answer_is = refl; dots_is = refl }
      go false q = record { place_is = ap (λ (l : List ℕ). in_sum (head_of r) l []) more; fine = fine' SumLow tt sums; answer_is = refl; dots_is = refl }

  first_sums : Fine SumLow r w bs → Follows ds (taken SumLow r b bs ds) (moved (place_at SumLow r) w b) r.status
  first_sums f = record { place_is = refl; fine = noted-fine SumLow SumHigh r _ _ _ _ _ _ w bs f f.have_most tt f.sum_is; answer_is = refl; dots_is = refl }

  carries : Fine SumHigh r w bs → (act : Action) → Bounded r.bands act → Follows ds (carried r act bs ds) (decided w act) r.status
  unfolding joined
  carries f initialize a = record {
    place_is = refl;
    fine = record { have_most = f.have_most; body_long = f.body_long; most = omega arith; extra = tt; sum_is = tt; count_is = refl; bands_are = refl };
    answer_is = refl;
    dots_is = refl;
  }
  carries f (add band) a = record {
    place_is = refl;
    fine = record {
      have_most = f.have_most;
      body_long = f.body_long;
      most = omega arith;
      extra = tt;
      sum_is = tt;
      count_is = ap (λ (x : ℕ). x + 1) f.count_is ∙ sym (length-append w (band ∷ []));
      bands_are = placed_is r.bands band a.0 a.1 ∙ ap (λ (l : List ℕ). l ++ band) f.bands_are ∙ sym (joined_snoc w band);
    };
    answer_is = ap (λ (x : ℕ). Ok (Added (x + 1))) f.count_is;
    dots_is = refl;
  }
  carries f (print p m d) a = record { place_is = refl; fine = noted-fine SumHigh ClockFirst r _ _ _ _ _ _ w bs f f.have_most tt tt; answer_is = ap (λ (x : ℕ). Ok (Printed x m d)) f.count_is; dots_is = rows_same r.bands p ds ∙ (λ i. rows.printed (f.bands_are i) (f.count_is i) p ds) }
  carries f end_page a = record { place_is = refl; fine = noted-fine SumHigh ClockFirst r _ _ _ _ _ _ w bs f f.have_most tt tt; answer_is = refl; dots_is = refl }
  carries f inquire a = record { place_is = refl; fine = noted-fine SumHigh ClockFirst r _ _ _ _ _ _ w bs f f.have_most tt tt; answer_is = refl; dots_is = refl }
  carries f (refuse n) a = record { place_is = refl; fine = noted-fine SumHigh Hunt r _ _ _ _ _ _ w bs f f.have_most tt tt; answer_is = refl; dots_is = refl }

  second_sums : Fine SumHigh r w bs → Follows ds (taken SumHigh r b bs ds) (moved (place_at SumHigh r) w b) r.status
  second_sums f =
      let e : action r.bands r.command r.indicator (body_of r) r.sum r.low b ≡ asked w (head_of r) (body_of r) r.low b
      = λ j. action (f.count_is j) r.command r.indicator (body_of r) (f.sum_is j) r.low b in
      subst (λ (act : Action). Follows ds (carried r (action r.bands r.command r.indicator (body_of r) r.sum r.low b) bs ds) (decided w act) r.status) e
      (carries f (action r.bands r.command r.indicator (body_of r) r.sum r.low b) (bounded r.bands r.command r.indicator (body_of r) r.sum r.low b))

  first-clocks : Fine ClockFirst r w bs → Follows ds (taken ClockFirst r b bs ds) (moved (in_clock 0) w b) r.status
  first-clocks f = record { place_is = refl; fine = noted-fine ClockFirst ClockSecond r _ _ _ _ _ _ w bs f f.have_most tt tt; answer_is = refl; dots_is = refl }

  second_clocks : Fine ClockSecond r w bs → Follows ds (taken ClockSecond r b bs ds) (moved (in_clock 1) w b) r.status
  second_clocks f = record { place_is = refl; fine = noted-fine ClockSecond Hunt r _ _ _ _ _ _ w bs f f.have_most tt tt; answer_is = refl; dots_is = refl }

  pub refines : (ph : Phase) → Fine ph r w bs → Follows ds (taken ph r b bs ds) (moved (place_at ph r) w b) r.status
  refines Hunt f = hunts f
  refines Mark f = marks f
  refines Command f = commands f
  refines Indicator f = indicators f
  refines Low f = lows f
  refines High f = highs f
  refines Body f = bodies f
  refines SumLow f = first_sums f
  refines SumHigh f = second_sums f
  refines ClockFirst f = first-clocks f
  refines ClockSecond f = second_clocks f
