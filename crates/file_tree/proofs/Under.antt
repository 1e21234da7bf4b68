-- The names of a directory stand one behind another in entries that rise.
use Rattle.file_model.specs.Files.{Name}
use Rattle.file_tree.proofs.Placed.{head-below, tail-sorted}
use Rattle.file_tree.proofs.TagOrder.{tag_same, tag_total}
use Rattle.file_tree.specs.Index.{name_under, names_under}
use Rattle.file_tree.specs.Tags.{Tag, place, tag_cmp}
use Rattle.mck_word.specs.Maps.{and_then}
use Rattle.std.proofs.Common.{ap, arith, inl, inr, refl, subst, sym, ◌∙◌}
use Rattle.std.proofs.lemmas.Bool.{cases_lt, eq-eqb, le-ltb, lt-ltb, ne_eqb}
use Rattle.std.specs.Cmp.Lexicographic.{slice_cmp}
use Rattle.std.specs.FinMap.Entries.{below_all, is_sorted}
use Rattle.std.specs.List.{cons_option, slice_get}
use Rattle.std.specs.Ordering.{is_gt, is_lt, nat_cmp, ordering_then}
use Rattle.std.specs.Prelude.{Bool, List, None, Option, Some, T, [], cond, false, suc, true, zero, ℕ, ◌&&◌, ◌+◌, ◌<◌, ◌==◌, ◌∷◌, ◌≡◌, ◌≤◌}
use Rattle.std.specs.declared.cmp.Ordering.TheVariants.{Equal, Greater, Less}

-- all entries are of that directory or of one behind it
abbrev From : ℕ → List (Tag × ℕ) → Type 0
From d [] = Unit {0}
From d (e ∷ es) = (d ≤ e.0.0) × From d es

-- all are of one behind it
abbrev Past : ℕ → List (Tag × ℕ) → Type 0
Past d [] = Unit {0}
Past d (e ∷ es) = (d < e.0.0) × Past d es

-- a tag that is below another one is of no directory behind it
below-directory : (a b : Tag) → T (is_lt (tag_cmp a b)) → a.0 ≤ b.0
below-directory a b h = elim (cases_lt b.0 a.0) [
  | inl l ↦ absurd (subst (λ o. T (is_lt (ordering_then o (slice_cmp nat_cmp a.1 b.1)))) (greater a.0 b.0 l) h)
  | inr g ↦ g
]
  where
    greater : (x y : ℕ) → y < x → nat_cmp x y ≡ Greater
    greater x y l = rw (le-ltb x y (omega arith), ne_eqb x y (omega arith)) refl

first : (a b : Bool) → T (a && b) → T a
first true b h = tt
first false b h = absurd h

second : (a b : Bool) → T (a && b) → T b
second true b h = h
second false b h = absurd h

from-below : (t : Tag) (es : List (Tag × ℕ)) → T (below_all tag_cmp t es) → From t.0 es
from-below t [] h = tt
from-below t (e ∷ es) h = (below-directory t e.0 (first _ _ h), from-below t es (second (is_lt (tag_cmp t e.0)) _ h))

past-from : (d x : ℕ) (es : List (Tag × ℕ)) → d < x → From x es → Past d es
past-from d x [] l h = tt
past-from d x (e ∷ es) l h = (omega (arith, h.0), past-from d x es l h.1)

from-up : (d x : ℕ) (es : List (Tag × ℕ)) → d ≤ x → From x es → From d es
from-up d x [] l h = tt
from-up d x (e ∷ es) l h = (omega (arith, h.0), from-up d x es l h.1)

-- what stands in a slot
abbrev pub slot_under : ℕ → Option (Tag × ℕ) → Option Name
slot_under d o = and_then o (name_under d)

none-past : (d : ℕ) (es : List (Tag × ℕ)) → Past d es → names_under d es ≡ []
none-past d [] h = refl
none-past d (e ∷ es) h = ap (λ (b : Bool). cons_option (cond b (Some e.0.1) None) (names_under d es)) (ne_eqb e.0.0 d (λ s. (let l = h.0 in omega (arith, s)))) ∙ none-past d es h.1

slot-past : (d : ℕ) (es : List (Tag × ℕ)) (k : ℕ) → Past d es → slot_under d (slice_get es k) ≡ None
slot-past d [] k h = refl
slot-past d (e ∷ es) zero h = ap (λ (b : Bool). cond b (Some e.0.1) None) (ne_eqb e.0.0 d (λ s. (let l = h.0 in omega (arith, s))))
slot-past d (e ∷ es) (suc k) h = slot-past d es k h.1

no-slot : (k : ℕ) → slice_get {X = Name} [] k ≡ None
no-slot k = refl

-- where the directory's own names stand at the front
at-front : (d : ℕ) (es : List (Tag × ℕ)) (k : ℕ) → T (is_sorted tag_cmp es) → From d es → slice_get (names_under d es) k ≡ slot_under d (slice_get es k)
at-front d [] k s h = refl
at-front d (e ∷ es) k s h = elim (cases_lt d e.0.0) [
  | inl l ↦
      let later = past-from d e.0.0 es l (from-below e.0 es (head-below tag_cmp tag_total tag_same e es s)) in
      ap (λ (ns : List Name). slice_get ns k) (none-past d (e ∷ es) (l, later)) ∙ no-slot k ∙ sym (slot-past d (e ∷ es) k (l, later))
  | inr g ↦
      let own : (e.0.0 == d) ≡ true = eq-eqb e.0.0 d (let f = h.0 in omega arith) in
      ap (λ (b : Bool). slice_get (cons_option (cond b (Some e.0.1) None) (names_under d es)) k) own
      ∙ elim k as (λ k. slice_get (e.0.1 ∷ names_under d es) k ≡ slot_under d (slice_get (e ∷ es) k)) [
        | zero ↦ sym (ap (λ (b : Bool). cond b (Some e.0.1) None) own)
        | suc j ↦ at-front d es j (tail-sorted tag_cmp tag_total tag_same e es s) h.1
      ]
]

-- no name stands before the empty one
empty-first : (d : ℕ) (t : Tag) → d ≤ t.0 → is_gt (tag_cmp (d, []) t) ≡ false
empty-first d t l = elim (cases_lt d t.0) [
  | inl less ↦ ap (λ o. is_gt (ordering_then o (slice_cmp nat_cmp [] t.1))) (lower d t.0 less)
  | inr g ↦ ap (λ o. is_gt (ordering_then o (slice_cmp nat_cmp [] t.1))) (equal d t.0 (omega arith)) ∙ short t.1
]
  where
    lower : (x y : ℕ) → x < y → nat_cmp x y ≡ Less
    lower x y l = rw (lt-ltb x y l) refl

    equal : (x y : ℕ) → x ≡ y → nat_cmp x y ≡ Equal
    equal x y e = rw (le-ltb x y (omega arith), eq-eqb x y e) refl

    short : (n : Name) → is_gt (slice_cmp nat_cmp [] n) ≡ false
    short [] = refl
    short (b ∷ bs) = refl

behind-less : (d : ℕ) (t : Tag) → t.0 < d → is_gt (tag_cmp (d, []) t) ≡ true
behind-less d t l = ap (λ o. is_gt (ordering_then o (slice_cmp nat_cmp [] t.1))) (greater d t.0 l)
  where
    greater : (x y : ℕ) → y < x → nat_cmp x y ≡ Greater
    greater x y l = rw (le-ltb x y (omega arith), ne_eqb x y (omega arith)) refl

-- the k-th name of a directory
pub kth-under : (d : ℕ) (es : List (Tag × ℕ)) (k : ℕ) → T (is_sorted tag_cmp es) → slice_get (names_under d es) k ≡ slot_under d (slice_get es (place tag_cmp (d, []) es + k))
kth-under d [] k s = refl
kth-under d (e ∷ es) k s = elim (cases_lt e.0.0 d) [
  | inl l ↦
      let other : (e.0.0 == d) ≡ false = ne_eqb e.0.0 d (λ f. omega (arith, f)) in
      let more : suc (place tag_cmp (d, []) es) + k ≡ suc (place tag_cmp (d, []) es + k) = omega arith in
      ap (λ (b : Bool). slice_get (cons_option (cond b (Some e.0.1) None) (names_under d es)) k) other ∙ kth-under d es k (tail-sorted tag_cmp tag_total tag_same e es s)
      ∙ sym (ap (λ (b : Bool). slot_under d (slice_get (e ∷ es) (cond b (suc (place tag_cmp (d, []) es)) 0 + k))) (behind-less d e.0 l) ∙ ap (λ (n : ℕ). slot_under d (slice_get (e ∷ es) n)) more)
  | inr g ↦
      let none : 0 + k ≡ k = omega arith in
      at-front d (e ∷ es) k s (g, from-up d e.0.0 es g (from-below e.0 es (head-below tag_cmp tag_total tag_same e es s)))
      ∙ sym (ap (λ (b : Bool). slot_under d (slice_get (e ∷ es) (cond b (suc (place tag_cmp (d, []) es)) 0 + k))) (empty-first d e.0 g) ∙ ap (λ (n : ℕ). slot_under d (slice_get (e ∷ es) n)) none)
]
