-- The segments of an image taken in rising order: what is left, and the ranges so far.
use Rattle.job_model.specs.Images.{IsImage, IsSegment}
use Rattle.job_model.specs.declared.image.Image.{Image}
use Rattle.job_model.specs.declared.image.Segment.{Segment}
use Rattle.kernel_model.specs.Pages.{pages_of}
use Rattle.lwk_boot.proofs.GuestPages.{pages-apart}
use Rattle.lwk_boot.proofs.LeftOver.{left-next}
use Rattle.lwk_boot.specs.Guests.{first_page, last_end, no_segment, segment_at}
use Rattle.lwk_boot.specs.Order.{AreBefore, IsNext, NoneLeft, left}
use Rattle.lwk_boot.specs.Rooms.{LieBelow, LieIn, RiseTo, top_range}
use Rattle.mck_word.specs.Pages.{in_range, in_ranges}
use Rattle.mck_word.specs.declared.PageRange.{PageRange}
use Rattle.page_map.specs.Tables.{RiseFrom}
use Rattle.std.proofs.Common.{ap, arith, inl, inr, refl, ◌∙◌}
use Rattle.std.proofs.lemmas.Bool.{cases_eq, cases_lt, le-leb, lt-ltb}
use Rattle.std.proofs.lemmas.List.{get_or_default}
use Rattle.std.specs.Prelude.{Bool, IsTrue, List, [], ◌∷◌, ◌++◌, false, length, slice_index_or, true, ℕ, ◌+◌, ◌<◌, ◌^◌, ◌||◌, ◌≡◌, ◌≢◌, ◌≤◌}

-- a segment has a page, and ends below the stack
pub record Ends (s : Segment) : Type 0 where
  pub some : first_page s < last_end s
  pub most : last_end s ≤ 0x3000000

pub ends : (s : Segment) → IsSegment s → Ends s
ends s is = let a = is.some in let b = is.range in record { some = omega arith; most = omega arith }

pub ends-at : (image : Image) → IsImage image → (k : ℕ) → k < length image.segments → Ends (segment_at image.segments k)
ends-at image is k l = ends (segment_at image.segments k) (is.kept k no_segment l)

module _ (image : Image) (is : IsImage image) (page k : ℕ) (next : IsNext image.segments page k) where
  -- the others that are left begin behind the next one
  pub clear : (j : ℕ) → j < length image.segments → j ≢ k → page ≤ first_page (segment_at image.segments j) → last_end (segment_at image.segments k) ≤ first_page (segment_at image.segments j)
  clear j l n a =
      let f = first_page (segment_at image.segments j) in
      elim (cases_lt f (last_end (segment_at image.segments k))) [
        | inl low ↦ absurd (let end = pages-apart image is j k f l next.inside n (next.least j l a) low (omega arith) in let e = ends-at image is j l in omega arith)
        | inr high ↦ high
      ]

  pub one-less : (weight : Segment → ℕ) → left weight page image.segments ≡ left weight (last_end (segment_at image.segments k)) image.segments + weight (segment_at image.segments k)
  one-less weight =
      let e = ends-at image is k next.inside in
      left-next weight page (last_end (segment_at image.segments k)) image.segments k next.inside next.low e.some (omega (arith, next.low, e.some)) clear

  pub before-next : AreBefore image.segments page → AreBefore image.segments (last_end (segment_at image.segments k))
  before-next before j l f = elim (cases_eq j k) [
    | inl same ↦ let e = ap (λ i. last_end (segment_at image.segments i)) same in omega arith
    | inr other ↦ elim (cases_lt (first_page (segment_at image.segments j)) page) [
      | inl low ↦ let b = before j l low in let e = ends-at image is k next.inside in omega (arith, next.low, e.some, b)
      | inr high ↦ absurd (let c = clear j l other high in omega arith)
    ]
  ]

  -- no page of a segment lies before the next one
  pub none-between : AreBefore image.segments page → (p : ℕ) → page ≤ p → p < first_page (segment_at image.segments k)
      → (j : ℕ) → j < length image.segments → first_page (segment_at image.segments j) ≤ p → last_end (segment_at image.segments j) ≤ p
  none-between before p a b j l f = elim (cases_lt (first_page (segment_at image.segments j)) page) [
    | inl low ↦ let e = before j l low in omega arith
    | inr high ↦ absurd (let e = next.least j l high in omega arith)
  ]

-- ---- ranges

or-left : (a b : Bool) → IsTrue a → IsTrue (a || b)
or-left true b h = refl
or-left false b h = absurd (cc)

or-right : (a b : Bool) → IsTrue b → IsTrue (a || b)
or-right true b h = refl
or-right false b h = h

in-old : (rs : List PageRange) (r : PageRange) (p : ℕ) → IsTrue (in_ranges rs p) → IsTrue (in_ranges (rs ++ r ∷ []) p)
in-old [] r p h = absurd (cc)
in-old (x ∷ rs) r p h = by_first (in_range x p) (in-old rs r p) h
  where
    by_first : (b : Bool) → (IsTrue (in_ranges rs p) → IsTrue (in_ranges (rs ++ r ∷ []) p)) → IsTrue (b || in_ranges rs p) → IsTrue (b || in_ranges (rs ++ r ∷ []) p)
    by_first true f h = refl
    by_first false f h = f h

in-new : (rs : List PageRange) (r : PageRange) (p : ℕ) → r.lo ≤ p → p < r.hi → IsTrue (in_ranges (rs ++ r ∷ []) p)
in-new [] r p a b = rw (le-leb r.lo p a, lt-ltb p r.hi b) refl
in-new (x ∷ rs) r p a b = or-right (in_range x p) (in_ranges (rs ++ r ∷ []) p) (in-new rs r p a b)

pub rise-more : (lo : ℕ) (rs : List PageRange) (end : ℕ) (r : PageRange) → RiseTo lo rs end → end ≤ r.lo → r.lo ≤ r.hi → r.hi ≤ 2 ^ 27 → RiseTo lo (rs ++ r ∷ []) r.hi
rise-more lo [] end r h a b c = (omega (arith, h), b, c, omega arith)
rise-more lo (x ∷ rs) end r h a b c = (h.0, h.1, h.2, rise-more x.hi rs end r h.3 a b c)

pub rise-all : (lo : ℕ) (rs : List PageRange) (end : ℕ) → RiseTo lo rs end → RiseFrom lo rs
rise-all lo [] end h = tt
rise-all lo (x ∷ rs) end h = (h.0, h.1, h.2, rise-all x.hi rs end h.3)

-- one range more
pub lie-next : (image : Image) (is : IsImage image) (page k : ℕ) (next : IsNext image.segments page k) (rs : List PageRange) (r : PageRange)
    → r ≡ pages_of (segment_at image.segments k).addr (segment_at image.segments k).mem → LieBelow image.segments page rs
    → LieBelow image.segments (last_end (segment_at image.segments k)) (rs ++ r ∷ [])
lie-next image is page k next rs r er lie j l f p a b = elim (cases_eq j k) [
  | inl same ↦
      let lo = ap (λ x. x.lo) er in let hi = ap (λ x. x.hi) er in
      let first = ap (λ i. first_page (segment_at image.segments i)) same in
      let end = ap (λ i. last_end (segment_at image.segments i)) same in
      in-new rs r p (omega arith) (omega arith)
  | inr other ↦ elim (cases_lt (first_page (segment_at image.segments j)) page) [
    | inl low ↦ in-old rs r p (lie j l low p a b)
    | inr high ↦ absurd (let c = clear image is page k next j l other high in omega arith)
  ]
]

-- the last range
pub lie-all : (segments : List Segment) (page : ℕ) (rs : List PageRange) → NoneLeft segments page → LieBelow segments page rs → LieIn segments (rs ++ top_range ∷ [])
lie-all segments page rs none lie = record {
  each = λ k l p a b. in-old rs top_range p (lie k l (none k l) p a b);
  top = λ p a b. in-new rs top_range p a b;
}

-- a segment at its place
pub at-place : (xs segments : List Segment) (k : ℕ) (s : Segment) → xs ≡ segments → k < length segments → s ≡ slice_index_or xs k s → s ≡ segment_at segments k
at-place xs segments k s e l is = is ∙ (ap (λ ss. slice_index_or ss k s) e ∙ get_or_default segments k s no_segment l)
