-- Rows that differ in a fixed field have no word in common, so the first row that a word fits is the only one.
use Rattle.std.proofs.Common.{◌≡◌, ℕ, zero, suc, ◌/◌, ◌%◌, ◌^◌, ◌<◌, ◌&&◌, ◌==◌, Bool, true, false, not, cond, List, [], ◌∷◌, length, get_or, Option, Some, map, sym, ap, ◌∙◌, refl, subst, inl, inr, arith}
use Rattle.std.specs.List.{find, list_all, list_any}
use Rattle.std.proofs.lemmas.Bool.{false≢true}
use Rattle.isa_model.specs.Table.{row_of}
use Rattle.isa_model.specs.Decode.{Fixed, fixed_in, has, fits}
use Rattle.isa_model.specs.declared.names.Op.{Op}
use Rattle.isa_model.specs.declared.shapes.Row.{Row}
use Rattle.rv_code.proofs.BoolTests.{and_left, and_right, or_either, equal, differ}

abbrev pub clash : Fixed → Fixed → Bool
clash f g = (f.lo == g.lo) && ((f.len == g.len) && not (f.value == g.value))

abbrev pub apart : Row → Row → Bool
apart a b = list_any (λ f. list_any (λ g. clash f g) (fixed_in b.shape b)) (fixed_in a.shape a)

abbrev pub all_apart : List Row → Bool
all_apart [] = true
all_apart (r ∷ rs) = list_all (λ s. apart r s) rs && all_apart rs

clash-no : (w : ℕ) (f g : Fixed) → clash f g ≡ true → has w f ≡ true → has w g ≡ true → ⊥
clash-no w f g e p q =
    let lo = equal f.lo g.lo (and_left _ _ e) in
    let rest = and_right (f.lo == g.lo) _ e in
    let len = equal f.len g.len (and_left _ _ rest) in
    let value = differ f.value g.value (and_right (f.len == g.len) _ rest) in
    let pf = equal (w / 2 ^ f.lo % 2 ^ f.len) f.value p in
    let pg = equal (w / 2 ^ g.lo % 2 ^ g.len) g.value q in
    value (sym pf ∙ ap (λ k. w / 2 ^ k % 2 ^ f.len) lo ∙ ap (λ k. w / 2 ^ g.lo % 2 ^ k) len ∙ pg)

clash-one : (w : ℕ) (f : Fixed) (gs : List Fixed) → list_any (λ g. clash f g) gs ≡ true → has w f ≡ true → list_all (has w) gs ≡ true → ⊥
clash-one w f [] e p q = false≢true e
clash-one w f (g ∷ gs) e p q =
    elim (or_either (clash f g) (list_any (λ h. clash f h) gs) e) [ inl h ↦ clash-no w f g h p (and_left _ _ q) | inr h ↦ clash-one w f gs h p (and_right (has w g) _ q) ]

clash-all : (w : ℕ) (fs gs : List Fixed) → list_any (λ f. list_any (λ g. clash f g) gs) fs ≡ true → list_all (has w) fs ≡ true → list_all (has w) gs ≡ true → ⊥
clash-all w [] gs e p q = false≢true e
clash-all w (f ∷ fs) gs e p q =
    elim (or_either (list_any (λ g. clash f g) gs) (list_any (λ h. list_any (λ g. clash h g) gs) fs) e) [ inl h ↦ clash-one w f gs h (and_left _ _ p) q | inr h ↦ clash-all w fs gs h (and_right (has w f) _ p) q ]

-- no word fits two rows that are apart
pub apart-no : (w : ℕ) (a b : Row) → apart a b ≡ true → fits a w ≡ true → fits b w ≡ true → ⊥
apart-no w a b e p q = clash-all w (fixed_in a.shape a) (fixed_in b.shape b) e p q

cond-false : (b : Bool) (x y : Option Row) → (b ≡ true → ⊥) → cond b x y ≡ y
cond-false true x y h = absurd (h refl)
cond-false false x y h = refl

cond-true : (b : Bool) (x y : Option Row) → b ≡ true → cond b x y ≡ x
cond-true true x y h = refl
cond-true false x y h = absurd (false≢true h)

-- what holds of each element holds of the one at a place
all-at : (test : Row → Bool) (rows : List Row) (k : ℕ) (d : Row) → list_all test rows ≡ true → k < length rows → test (get_or rows k d) ≡ true
all-at test [] k d e h = absurd (omega arith)
all-at test (r ∷ rows) zero d e h = and_left _ _ e
all-at test (r ∷ rows) (suc k) d e h = all-at test rows k d (and_right (test r) _ e) (omega arith)

-- the row at a place is found, where the word fits it
pub found-at : (w : ℕ) (rows : List Row) (k : ℕ) (d : Row) → all_apart rows ≡ true → k < length rows → fits (get_or rows k d) w ≡ true
    → find (λ row. fits row w) rows ≡ Some (get_or rows k d)
found-at w [] k d e h p = absurd (omega arith)
found-at w (r ∷ rows) zero d e h p = cond-true (fits r w) _ _ p
found-at w (r ∷ rows) (suc k) d e h p =
    cond-false (fits r w) _ _ (λ q. apart-no w r (get_or rows k d) (all-at (λ s. apart r s) rows k d (and_left _ _ e) (omega arith)) q p)
    ∙ found-at w rows k d (and_right (list_all (λ s. apart r s) rows) _ e) (omega arith) p

found-head : (w : ℕ) (o : Op) (r : Row) (rest : Option Row) → (rest ≡ Some r → (p : Op) × (r ≡ row_of p) × (fits r w ≡ true))
    → (b : Bool) → fits (row_of o) w ≡ b → cond b (Some (row_of o)) rest ≡ Some r → (p : Op) × (r ≡ row_of p) × (fits r w ≡ true)
found-head w o r rest later true t e = let q : r ≡ row_of o = cc in (o, q, subst (λ x. fits x w ≡ true) (sym q) t)
found-head w o r rest later false t e = later e

-- a row that is found is that of some name, and the word fits it
pub found-is : (w : ℕ) (ops : List Op) (r : Row) → find (λ row. fits row w) (map row_of ops) ≡ Some r → (o : Op) × (r ≡ row_of o) × (fits r w ≡ true)
found-is w [] r e = cc
found-is w (o ∷ ops) r e = found-head w o r (find (λ row. fits row w) (map row_of ops)) (found-is w ops r) (fits (row_of o) w) refl e
