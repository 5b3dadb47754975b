-- Laws of groups: what each kind is known by, and what is known of it. Assumes nothing.
use mathlib.Core.Path.{◌≡◌, refl, subst}
use mathlib.Core.Bool.{Bool, true, false, cond, ◌&&◌}
use mathlib.Core.List.{List, []}
use Prim.Native.Nat.{ℕ, ◌<◌, ◌≤◌}
use native.Mathlib.Omega.{arith}
use native.Mathlib.Decide.{dec_lt}
use borrow.Author.Tests.{lt-ltb, le-ltb, ltb-false}
use lib.Dec.{leb, ltb}
use lib.ListN.{length, get_or}
use Rattle.truth.proofs.Tests.{Is, leb_is, and_is}
use Rattle.gdi_jobs.specs.Groups.{cut, page_head, wrong_page_head, block, page_end, document_end, unknown, fits, number_at, admitted, fields, page_start, page_form, block_form, page_end_bytes, document_end_bytes, page_head_in, group}

-- two constructors clash
pub never : {A : Type 0} → ◌≡◌ {A = ℕ} 0 1 → A
never z = absurd (omega arith)

-- ---- groups

-- fewer than six bytes are no whole group
pub group_short : (bs : List ℕ) → length bs < 6 → group bs ≡ cut
unfolding group
group_short bs h = rw (lt-ltb (length bs) 6 h) refl

-- a whole group has at least six bytes
pub group_long : (bs : List ℕ) → (group bs ≡ cut → ⊥) → 6 ≤ length bs
group_long bs n = go (dec_lt (length bs) 6)
  where
    go : Dec (length bs < 6) → 6 ≤ length bs
    go (yes h) = absurd (n (group_short bs h))
    go (no h) = omega arith

-- where the job ends
pub group_nil : group [] ≡ cut
unfolding group
group_nil = refl

-- what the width may be
pub admitted_is : (width : ℕ) → Is (admitted width) ((1 ≤ width) × (width ≤ 16383))
unfolding admitted
admitted_is width = and_is (leb 1 width) (leb width 16383) (leb_is 1 width) (leb_is width 16383)

-- what a page head may hold
pub record Fields (width height toner : ℕ) : Type 0 where
  pub some_width : 1 ≤ width
  pub most_width : width ≤ 16383
  pub some_height : 1 ≤ height
  pub most_height : height ≤ 65535
  pub most_toner : toner ≤ 1

pub fields_is : (width height toner : ℕ) → Is (fields width height toner) (Fields width height toner)
unfolding fields
fields_is width height toner =
    let two = and_is (admitted width) (leb 1 height) (admitted_is width) (leb_is 1 height) in
    let three = and_is (admitted width && leb 1 height) (leb height 65535) two (leb_is height 65535) in
    let all = and_is (admitted width && leb 1 height && leb height 65535) (leb toner 1) three (leb_is toner 1) in
    record {
      holds = λ e.
          let h = all.holds e in
          record { some_width = h.0.0.0.0; most_width = h.0.0.0.1; some_height = h.0.0.1; most_height = h.0.1; most_toner = h.1 };
      said = λ f. all.said ((((f.some_width, f.most_width), f.some_height), f.most_height), f.most_toner);
    }

-- a page head with the numbers w and v in it: all its bytes are there, and it may hold these numbers
pub record HeadIn (bs : List ℕ) (w v : ℕ) : Type 0 where
  pub long : 21 ≤ length bs
  pub holds : Fields w v (get_or bs 20 0)
  pub width : number_at bs 12 ≡ w
  pub height : number_at bs 14 ≡ v

pub group_head : (bs : List ℕ) (w v : ℕ) → group bs ≡ page_head w v → HeadIn bs w v
unfolding group
group_head bs w v e =
    let width = number_at bs 12 in
    let height = number_at bs 14 in
    let h =
    go (ltb (length bs) 6) (fits page_start bs) (ltb (length bs) 21) (fits page_form bs) (fields width height (get_or bs 20 0)) (fits block_form bs)
    (fits page_end_bytes bs) (fits document_end_bytes bs) width height (number_at bs 2) e in
    record {
      long = ltb-false (length bs) 21 h.0;
      holds = subst (λ (x : ℕ). Fields x v (get_or bs 20 0)) h.1.1.0 (subst (λ (x : ℕ). Fields width x (get_or bs 20 0)) h.1.1.1 ((fields_is width height (get_or bs 20 0)).holds h.1.0));
      width = h.1.1.0;
      height = h.1.1.1;
    }
  where
    go : (short start cut_short form ok b p d : Bool) (x y size : ℕ)
        → cond short cut
        (cond start (cond cut_short cut (cond (form && ok) (page_head x y) wrong_page_head))
        (cond b (block size) (cond p page_end (cond d document_end unknown))))
        ≡ page_head w v
        → (cut_short ≡ false) × ((ok ≡ true) × ((x ≡ w) × (y ≡ v)))
    go true start c form ok b p d x y size e = never (cc)
    go false true true form ok b p d x y size e = never (cc)
    go false true false false ok b p d x y size e = never (cc)
    go false true false true false b p d x y size e = never (cc)
    go false true false true true b p d x y size e = (refl, (refl, (cc, cc)))
    go false false c form ok true p d x y size e = never (cc)
    go false false c form ok false true d x y size e = never (cc)
    go false false c form ok false false true x y size e = never (cc)
    go false false c form ok false false false x y size e = never (cc)

-- ---- a page head with all its bytes

pub page_other_form : (bs : List ℕ) → fits page_form bs ≡ false → wrong_page_head ≡ page_head_in bs
page_other_form bs e = rw e refl

module _ (bs : List ℕ) (width height toner : ℕ) (w : width ≡ number_at bs 12) (h : height ≡ number_at bs 14) (t : toner ≡ get_or bs 20 0)
    (e : fits page_form bs ≡ true) where
  pub page_wrong : fields width height toner ≡ false → wrong_page_head ≡ page_head_in bs
  page_wrong f = rw (e, ← w, ← h, ← t, f) refl

  pub page_right : fields width height toner ≡ true → page_head width height ≡ page_head_in bs
  page_right f = rw (e, ← w, ← h, ← t, f) refl

-- ---- the kinds

module _ (bs : List ℕ) (l : 6 ≤ length bs) where
  pub group_page_cut : fits page_start bs ≡ true → length bs < 21 → cut ≡ group bs
  unfolding group
  group_page_cut e h = rw (le-ltb (length bs) 6 l, e, lt-ltb (length bs) 21 h) refl

  pub group_page : fits page_start bs ≡ true → 21 ≤ length bs → page_head_in bs ≡ group bs
  unfolding group
  group_page e h = rw (le-ltb (length bs) 6 l, e, le-ltb (length bs) 21 h) refl

  module _ (p : fits page_start bs ≡ false) where
    pub group_block : (size : ℕ) → fits block_form bs ≡ true → size ≡ number_at bs 2 → block size ≡ group bs
    unfolding group
    group_block size e s = rw (le-ltb (length bs) 6 l, p, e, s) refl

    module _ (b : fits block_form bs ≡ false) where
      pub group_page_end : fits page_end_bytes bs ≡ true → page_end ≡ group bs
      unfolding group
      group_page_end e = rw (le-ltb (length bs) 6 l, p, b, e) refl

      pub group_document_end : fits page_end_bytes bs ≡ false → fits document_end_bytes bs ≡ true → document_end ≡ group bs
      unfolding group
      group_document_end f e = rw (le-ltb (length bs) 6 l, p, b, f, e) refl

      pub group_unknown : fits page_end_bytes bs ≡ false → fits document_end_bytes bs ≡ false → unknown ≡ group bs
      unfolding group
      group_unknown f e = rw (le-ltb (length bs) 6 l, p, b, f, e) refl
