-- Cutting bytes at a mark.
use Rattle.mck_report.specs.Reading.{Halves, cut_at, with_first}
use Rattle.run_model.specs.Texts.{Word, Text, Number, spaced, word_bytes}
use Rattle.std.proofs.Common.{◌≡◌, ℕ, ◌+◌, ◌%◌, ◌^◌, ◌<◌, ◌≤◌, ◌==◌, suc, length, take, drop, Bool, true, false, List, [], ◌∷◌, ◌++◌, Option, Some, None, refl, sym, ◌∙◌, ap, arith, append_assoc, cond, nat_lt, subst, one-add}
use Rattle.std.proofs.lemmas.Bool.Decides.{nat_tests}
use Rattle.std.proofs.lemmas.Fmt.{decimal_by_steps}
use Rattle.std.specs.Fmt.{decimal}
use Rattle.std.specs.List.{position, position_or_len}

-- none of the bytes is the mark
abbrev pub lacks : ℕ → List ℕ → Bool
lacks mark [] = true
lacks mark (b ∷ bs) = cond (b == mark) false (lacks mark bs)

both_lack : (t r : Bool) → cond t false r ≡ true → (t ≡ false) × (r ≡ true)
both_lack true r e = cc
both_lack false r e = (refl, e)

pub lacks-append : (mark : ℕ) (xs ys : List ℕ) → lacks mark xs ≡ true → lacks mark ys ≡ true → lacks mark (xs ++ ys) ≡ true
lacks-append mark [] ys h k = k
lacks-append mark (x ∷ xs) ys h k = let b = both_lack (x == mark) (lacks mark xs) h in rw b.0 (lacks-append mark xs ys b.1 k)

-- the mark behind bytes without it
pub cut_at-append : (mark : ℕ) (xs ys : List ℕ) → lacks mark xs ≡ true → cut_at mark (xs ++ mark ∷ ys) ≡ Some (xs, ys)
cut_at-append mark [] ys h = let same : (mark == mark) ≡ true = grind (arith, nat_tests) in rw same refl
cut_at-append mark (x ∷ xs) ys h = let b = both_lack (x == mark) (lacks mark xs) h in rw (b.0, cut_at-append mark xs ys b.1) refl

pub cut_at-lacks : (mark : ℕ) (xs : List ℕ) → lacks mark xs ≡ true → cut_at mark xs ≡ None
cut_at-lacks mark [] h = refl
cut_at-lacks mark (x ∷ xs) h = let b = both_lack (x == mark) (lacks mark xs) h in rw (b.0, cut_at-lacks mark xs b.1) refl

pub record Cut (mark : ℕ) (xs front back : List ℕ) : Type 0 where
  pub whole : xs ≡ front ++ mark ∷ back
  pub lack : lacks mark front ≡ true

pub halves : (p q : List ℕ × List ℕ) → Some p ≡ Some q → (p.0 ≡ q.0) × (p.1 ≡ q.1)
halves p q e = let same : p ≡ q = cc in (ap (λ (x : List ℕ × List ℕ). x.0) same, ap (λ (x : List ℕ × List ℕ). x.1) same)

cut_first : (mark x : ℕ) (xs : List ℕ) (t : Bool) (r : Halves) (front back : List ℕ) → (x == mark) ≡ t → cut_at mark xs ≡ r → ((f b : List ℕ) → r ≡ Some (f, b) → Cut mark xs f b)
    → cond {A = Halves} t (Some ([], xs)) (with_first x r) ≡ Some (front, back) → Cut mark (x ∷ xs) front back
cut_first mark x xs true r front back t c each e =
    let is : x ≡ mark = grind (arith, nat_tests) in
    let h = halves ([], xs) (front, back) e in
    rw (← h.0, ← h.1) (record { whole = ap (λ k. k ∷ xs) is; lack = refl })
cut_first mark x xs false None front back t c each e = cc
cut_first mark x xs false (Some p) front back t c each e =
    let inner = each p.0 p.1 refl in
    let h = halves (x ∷ p.0, p.1) (front, back) e in
    rw (← h.0, ← h.1) (record { whole = ap (λ k. x ∷ k) inner.whole; lack = rw t inner.lack })

pub cut : (mark : ℕ) (xs front back : List ℕ) → cut_at mark xs ≡ Some (front, back) → Cut mark xs front back
cut mark [] front back e = cc
cut mark (x ∷ xs) front back e = cut_first mark x xs (x == mark) (cut_at mark xs) front back refl refl (cut mark xs) e

-- two lines with what follows them
pub same_cut : (mark : ℕ) (a b xs ys : List ℕ) → lacks mark a ≡ true → lacks mark b ≡ true → a ++ mark ∷ xs ≡ b ++ mark ∷ ys → (a ≡ b) × (xs ≡ ys)
same_cut mark a b xs ys h k e =
    let one : Halves = Some (a, xs) in
    let two : Halves = Some (b, ys) in
    let p : one ≡ two = sym (cut_at-append mark a xs h) ∙ (ap (cut_at mark) e ∙ cut_at-append mark b ys k) in
    halves (a, xs) (b, ys) p

-- ---- digits are neither spaces nor line feeds

digit_lacks : (mark d : ℕ) → mark < 48 → lacks mark ((48 + d) ∷ []) ≡ true
digit_lacks mark d low = let other : (48 + d == mark) ≡ false = grind (arith, nat_tests) in rw other refl

pub decimal_lacks : (mark n : ℕ) → mark < 48 → n < 2 ^ 64 → lacks mark (decimal n) ≡ true
decimal_lacks mark n low fits =
    decimal_by_steps (λ n ds. lacks mark ds ≡ true) (λ n small. digit_lacks mark n low) (λ n ds big h. lacks-append mark ds ((48 + n % 10) ∷ []) h (digit_lacks mark (n % 10) low)) n fits

-- each of the words lacks the mark
abbrev pub WordsLack : ℕ → List Word → Type 0
WordsLack mark [] = Unit {0}
WordsLack mark (w ∷ ws) = (lacks mark (word_bytes w) ≡ true) × WordsLack mark ws

pub spaced_lacks : (ws : List Word) → WordsLack 10 ws → lacks 10 (spaced ws) ≡ true
spaced_lacks [] h = refl
spaced_lacks (w ∷ []) h = h.0
spaced_lacks (w ∷ v ∷ ws) h = lacks-append 10 (word_bytes w) (32 ∷ spaced (v ∷ ws)) h.0 (spaced_lacks (v ∷ ws) h.1)

-- the place of the first mark, or the length
abbrev place : ℕ → List ℕ → ℕ
place mark xs = position_or_len (λ b. b == mark) xs

-- the cut at a place
abbrev HasCut : ℕ → List ℕ → Type 0
HasCut mark xs = place mark xs < length xs → cut_at mark xs ≡ Some (take (place mark xs) xs, drop 1 (drop (place mark xs) xs))

abbrev HasNone : ℕ → List ℕ → Type 0
HasNone mark xs = length xs ≤ place mark xs → cut_at mark xs ≡ None

here_or_later : (mark x : ℕ) (xs : List ℕ) (t : Bool) → (x == mark) ≡ t → HasCut mark xs → HasCut mark (x ∷ xs)
here_or_later mark x xs true e more = rw e (λ h. refl)
here_or_later mark x xs false e more = rw (e, one-add) (λ h. rw (more (omega arith)) refl)

none_later : (mark x : ℕ) (xs : List ℕ) (t : Bool) → (x == mark) ≡ t → HasNone mark xs → HasNone mark (x ∷ xs)
none_later mark x xs true e more = rw e (λ h. absurd (omega arith))
none_later mark x xs false e more = rw (e, one-add) (λ h. rw (more (omega arith)) refl)

has_cut : (mark : ℕ) (xs : List ℕ) → HasCut mark xs
has_cut mark [] h = absurd (omega arith)
has_cut mark (x ∷ xs) h = here_or_later mark x xs (x == mark) refl (has_cut mark xs) h

has_none : (mark : ℕ) (xs : List ℕ) → HasNone mark xs
has_none mark [] h = refl
has_none mark (x ∷ xs) h = none_later mark x xs (x == mark) refl (has_none mark xs) h

at_place : (n k : ℕ) (t : Bool) (i : ℕ) → nat_lt k n ≡ t → cond t (Some k) None ≡ Some i → (k < n) × (k ≡ i)
at_place n k true i e h = (grind (arith, nat_tests), cc)
at_place n k false i e h = cc

no_place : (n k : ℕ) (t : Bool) → nat_lt k n ≡ t → cond t (Some k) None ≡ None → n ≤ k
no_place n k true e h = cc
no_place n k false e h = grind (arith, nat_tests)

pub cut_at_place : (mark : ℕ) (xs : List ℕ) (i : ℕ) → position (λ b. b == mark) xs ≡ Some i → cut_at mark xs ≡ Some (take i xs, drop 1 (drop i xs))
cut_at_place mark xs i e =
    let p = at_place (length xs) (place mark xs) (nat_lt (place mark xs) (length xs)) i refl e in
    subst (λ k. cut_at mark xs ≡ Some (take k xs, drop 1 (drop k xs))) p.1 (has_cut mark xs p.0)

pub no_cut : (mark : ℕ) (xs : List ℕ) → position (λ b. b == mark) xs ≡ None → cut_at mark xs ≡ None
no_cut mark xs e = has_none mark xs (no_place (length xs) (place mark xs) (nat_lt (place mark xs) (length xs)) refl e)
