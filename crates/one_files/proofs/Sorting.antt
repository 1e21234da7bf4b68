-- The k-th element of a list that is put in order by insertion.
use Rattle.mck_word.specs.Lists.{insert_by, sorted_by}
use Rattle.std.proofs.Common.{◌≡◌, ◌≤◌, ◌<◌, ◌∙◌, ℕ, zero, suc, Bool, true, false, cond, not, List, [], ◌∷◌, Option, Some, None, ap, arith, length, refl, sym, subst}
use Rattle.std.proofs.lemmas.Bool.Decides.{nat_tests}
use Rattle.std.proofs.lemmas.Bool.{true≢false}
use Rattle.std.specs.List.{slice_get}
use Rattle.std.specs.Prelude.{find, is_some, nat_le, nat_lt, ◌&&◌}

module _ {A : Type 0} where
  -- how many pass
  abbrev pub passing : (A → Bool) → List A → ℕ
  passing p [] = 0
  passing p (x ∷ xs) = cond (p x) (suc (passing p xs)) (passing p xs)

  -- how many pass, where that is known of the first
  passing-yes : (p : A → Bool) (x : A) (xs : List A) → p x ≡ true → passing p (x ∷ xs) ≡ suc (passing p xs)
  passing-yes p x xs h = ap (λ b. cond b (suc (passing p xs)) (passing p xs)) h

  passing-no : (p : A → Bool) (x : A) (xs : List A) → p x ≡ false → passing p (x ∷ xs) ≡ passing p xs
  passing-no p x xs h = ap (λ b. cond b (suc (passing p xs)) (passing p xs)) h

  passing-some : (p : A → Bool) (x : A) (xs : List A) → passing p xs ≤ passing p (x ∷ xs)
  passing-some p x xs = elim (p x) as (λ b. passing p xs ≤ cond b (suc (passing p xs)) (passing p xs)) [ true ↦ omega arith | false ↦ omega arith ]

  passing-most : (p : A → Bool) (x : A) (xs : List A) → passing p (x ∷ xs) ≤ suc (passing p xs)
  passing-most p x xs = elim (p x) as (λ b. cond b (suc (passing p xs)) (passing p xs) ≤ suc (passing p xs)) [ true ↦ omega arith | false ↦ omega arith ]

  swapped : (p : A → Bool) (x y : A) (xs : List A) → passing p (x ∷ y ∷ xs) ≡ passing p (y ∷ x ∷ xs)
  swapped p x y xs = go (p x) (p y) (passing p xs)
    where
      go : (a b : Bool) (n : ℕ) → cond a (suc (cond b (suc n) n)) (cond b (suc n) n) ≡ cond b (suc (cond a (suc n) n)) (cond a (suc n) n)
      go true true n = refl
      go true false n = refl
      go false true n = refl
      go false false n = refl

  passing-insert : (lt : A → A → Bool) (p : A → Bool) (x : A) (ys : List A) → passing p (insert_by lt x ys) ≡ passing p (x ∷ ys)
  passing-insert lt p x [] = refl
  passing-insert lt p x (y ∷ ys) =
      elim (lt x y) as (λ b. passing p (cond b (x ∷ y ∷ ys) (y ∷ insert_by lt x ys)) ≡ passing p (x ∷ y ∷ ys)) [
        | true ↦ refl
        | false ↦ ap (λ n. cond (p y) (suc n) n) (passing-insert lt p x ys) ∙ swapped p y x ys
      ]

  passing-sorted : (lt : A → A → Bool) (p : A → Bool) (xs : List A) → passing p (sorted_by lt xs) ≡ passing p xs
  passing-sorted lt p [] = refl
  passing-sorted lt p (x ∷ xs) = passing-insert lt p x (sorted_by lt xs) ∙ ap (λ n. cond (p x) (suc n) n) (passing-sorted lt p xs)

  -- none passes
  abbrev fails : (A → Bool) → List A → Type 0
  fails p [] = Unit {0}
  fails p (x ∷ xs) = (p x ≡ false) × fails p xs

  fails-insert : (lt : A → A → Bool) (p : A → Bool) (x : A) (ys : List A) → p x ≡ false → fails p ys → fails p (insert_by lt x ys)
  fails-insert lt p x [] h hs = (h, tt)
  fails-insert lt p x (y ∷ ys) h hs = elim (lt x y) as (λ b. fails p (cond b (x ∷ y ∷ ys) (y ∷ insert_by lt x ys))) [ true ↦ (h, hs) | false ↦ (hs.0, fails-insert lt p x ys h hs.1) ]

  fails-sorted : (lt : A → A → Bool) (p : A → Bool) (xs : List A) → fails p xs → fails p (sorted_by lt xs)
  fails-sorted lt p [] hs = tt
  fails-sorted lt p (x ∷ xs) hs = fails-insert lt p x (sorted_by lt xs) hs.0 (fails-sorted lt p xs hs.1)

  fails-get : (p : A → Bool) (ys : List A) (k : ℕ) (y : A) → fails p ys → slice_get ys k ≡ Some y → p y ≡ false
  fails-get p [] k y hs e = absurd (true≢false (sym (ap is_some e)))
  fails-get p (x ∷ ys) zero y hs e = subst (λ o. cond_of o) e hs.0
    where
      cond_of : Option A → Type 0
      cond_of None = Unit {0}
      cond_of (Some z) = p z ≡ false
  fails-get p (x ∷ ys) (suc k) y hs e = fails-get p ys k y hs.1 e

  -- what a search finds passes, and where it finds nothing none does
  found-passes : (p : A → Bool) (xs : List A) (x : A) → find p xs ≡ Some x → p x ≡ true
  found-passes p [] x e = absurd (true≢false (sym (ap is_some e)))
  found-passes p (y ∷ ys) x e = go (p y) refl e (found-passes p ys x)
    where
      is_it : Option A → Type 0
      is_it None = Unit {0}
      is_it (Some z) = p z ≡ true

      go : (b : Bool) → p y ≡ b → cond b (Some y) (find p ys) ≡ Some x → (find p ys ≡ Some x → p x ≡ true) → p x ≡ true
      go true h e rest = subst (λ o. is_it o) e h
      go false h e rest = rest e

  none-passes : (p : A → Bool) (xs : List A) → find p xs ≡ None → fails p xs
  none-passes p [] e = tt
  none-passes p (y ∷ ys) e = go (p y) refl e (none-passes p ys)
    where
      go : (b : Bool) → p y ≡ b → cond b (Some y) (find p ys) ≡ None → (find p ys ≡ None → fails p ys) → fails p (y ∷ ys)
      go true h e rest = absurd (true≢false (ap is_some e))
      go false h e rest = (h, rest e)

  length-insert : (lt : A → A → Bool) (x : A) (ys : List A) → length (insert_by lt x ys) ≡ suc (length ys)
  length-insert lt x [] = refl
  length-insert lt x (y ∷ ys) = elim (lt x y) as (λ b. length (cond b (x ∷ y ∷ ys) (y ∷ insert_by lt x ys)) ≡ suc (suc (length ys))) [ true ↦ refl | false ↦ ap suc (length-insert lt x ys) ]

  pub length-sorted : (lt : A → A → Bool) (xs : List A) → length (sorted_by lt xs) ≡ length xs
  length-sorted lt [] = refl
  length-sorted lt (x ∷ xs) = length-insert lt x (sorted_by lt xs) ∙ ap suc (length-sorted lt xs)

  pub get-within : (xs : List A) (k : ℕ) → is_some (slice_get xs k) ≡ true → k < length xs
  get-within [] k h = absurd (true≢false (sym h))
  get-within (x ∷ xs) zero h = omega arith
  get-within (x ∷ xs) (suc k) h = let rest = get-within xs k h in omega arith

module _ {A : Type 0} (lt : A → A → Bool) (asym : (a b : A) → lt a b ≡ true → lt b a ≡ false) (trans : (a b c : A) → lt a b ≡ true → lt b c ≡ true → lt a c ≡ true)
    (same : (a b : A) → lt a b ≡ false → lt b a ≡ false → a ≡ b) where
  itself : (a : A) → lt a a ≡ false
  itself a = go (lt a a) refl
    where
      go : (b : Bool) → lt a a ≡ b → lt a a ≡ false
      go true e = asym a a e
      go false e = e

  -- one that is not before y is not before a lower one, and is behind it
  up : (x y z : A) → lt x y ≡ true → lt z y ≡ false → lt z x ≡ false
  up x y z l h = go (lt z x) refl
    where
      go : (b : Bool) → lt z x ≡ b → lt z x ≡ false
      go true e = absurd (true≢false (sym (trans z x y e l) ∙ h))
      go false e = e

  past : (x y z : A) → lt x y ≡ true → lt z y ≡ false → lt x z ≡ true
  past x y z l h = go (lt y z) refl
    where
      go : (b : Bool) → lt y z ≡ b → lt x z ≡ true
      go true e = trans x y z l e
      go false e = ap (lt x) (sym (same y z e h)) ∙ l

  -- all from x on
  abbrev from : A → List A → Type 0
  from x [] = Unit {0}
  from x (y ∷ ys) = (lt y x ≡ false) × from x ys

  abbrev Rises : List A → Type 0
  Rises [] = Unit {0}
  Rises (y ∷ ys) = from y ys × Rises ys

  from-up : (x y : A) (ys : List A) → lt x y ≡ true → from y ys → from x ys
  from-up x y [] l h = tt
  from-up x y (z ∷ zs) l h = (up x y z l h.0, from-up x y zs l h.1)

  from-insert : (y x : A) (ys : List A) → lt x y ≡ false → from y ys → from y (insert_by lt x ys)
  from-insert y x [] l h = (l, tt)
  from-insert y x (z ∷ zs) l h = elim (lt x z) as (λ b. from y (cond b (x ∷ z ∷ zs) (z ∷ insert_by lt x zs))) [ true ↦ (l, h) | false ↦ (h.0, from-insert y x zs l h.1) ]

  rises-insert : (x : A) (ys : List A) → Rises ys → Rises (insert_by lt x ys)
  rises-insert x [] h = (tt, tt)
  rises-insert x (y ∷ ys) h = go (lt x y) refl (rises-insert x ys h.1)
    where
      go : (b : Bool) → lt x y ≡ b → Rises (insert_by lt x ys) → Rises (cond b (x ∷ y ∷ ys) (y ∷ insert_by lt x ys))
      go true e rest = ((asym x y e, from-up x y ys e h.0), h)
      go false e rest = (from-insert y x ys e h.0, rest)

  rises-sorted : (xs : List A) → Rises (sorted_by lt xs)
  rises-sorted [] = tt
  rises-sorted (x ∷ xs) = rises-insert x (sorted_by lt xs) (rises-sorted xs)

  -- how many stand before x, and how many don't stand behind it
  abbrev pub under : A → List A → ℕ
  under x xs = passing (λ n. lt n x) xs

  abbrev pub upto : A → List A → ℕ
  upto x xs = passing (λ n. not (lt x n)) xs

  none-under : (x : A) (ys : List A) → from x ys → under x ys ≡ 0
  none-under x [] h = refl
  none-under x (y ∷ ys) h = passing-no (λ n. lt n x) y ys h.0 ∙ none-under x ys h.1

  none-upto : (x y : A) (ys : List A) → lt x y ≡ true → from y ys → upto x ys ≡ 0
  none-upto x y [] l h = refl
  none-upto x y (z ∷ zs) l h = passing-no (λ n. not (lt x n)) z zs (ap not (past x y z l h.0)) ∙ none-upto x y zs l h.1

  -- an element with so many before it, and more not behind it, stands there
  stands : (x : A) (ys : List A) (k : ℕ) → Rises ys → under x ys ≤ k → k < upto x ys → slice_get ys k ≡ Some x
  stands x [] k h a b = absurd (omega arith)
  stands x (y ∷ ys) k h a b = go (lt y x) refl (lt x y) refl k a b (λ j. stands x ys j h.1)
    where
      equal : x ≡ y → (k : ℕ) → under x (y ∷ ys) ≤ k → k < upto x (y ∷ ys) → ((j : ℕ) → under x ys ≤ j → j < upto x ys → slice_get ys j ≡ Some x) → slice_get (y ∷ ys) k ≡ Some x
      equal e zero a b rest = ap Some (sym e)
      equal e (suc k) a b rest =
          let none = none-under x ys (subst (λ z. from z ys) (sym e) h.0) in
          let most = passing-most (λ n. not (lt x n)) y ys in
          rest k (omega arith) (omega arith)

      before : lt y x ≡ true → (k : ℕ) → under x (y ∷ ys) ≤ k → k < upto x (y ∷ ys) → ((j : ℕ) → under x ys ≤ j → j < upto x ys → slice_get ys j ≡ Some x) → slice_get (y ∷ ys) k ≡ Some x
      before l zero a b rest = let one = passing-yes (λ n. lt n x) y ys l in absurd (omega arith)
      before l (suc k) a b rest =
          let one = passing-yes (λ n. lt n x) y ys l in
          let most = passing-most (λ n. not (lt x n)) y ys in
          rest k (omega arith) (omega arith)

      go : (p : Bool) → lt y x ≡ p → (q : Bool) → lt x y ≡ q → (k : ℕ) → under x (y ∷ ys) ≤ k → k < upto x (y ∷ ys) → ((j : ℕ) → under x ys ≤ j → j < upto x ys → slice_get ys j ≡ Some x) → slice_get (y ∷ ys) k ≡ Some x
      go true l q m k a b rest = before l k a b rest
      go false l false m k a b rest = equal (same x y m l) k a b rest
      go false l true m k a b rest =
          let none = none-upto x y ys m h.0 in
          let no = passing-no (λ n. not (lt x n)) y ys (ap not m) in
          absurd (omega arith)

  from-get : (y : A) (ys : List A) (k : ℕ) (x : A) → from y ys → slice_get ys k ≡ Some x → lt x y ≡ false
  from-get y ys k x h e = fails-get (λ z. lt z y) ys k x (as_fails ys h) e
    where
      as_fails : (ys : List A) → from y ys → fails (λ z. lt z y) ys
      as_fails [] h = tt
      as_fails (z ∷ zs) h = (h.0, as_fails zs h.1)

  -- the element that stands there has so many before it, and more not behind it
  there : (ys : List A) (k : ℕ) (x : A) → Rises ys → slice_get ys k ≡ Some x → (under x ys ≤ k) × (k < upto x ys)
  there [] k x h e = absurd (true≢false (sym (ap is_some e)))
  there (y ∷ ys) zero x h e = subst (λ o. holds o) e (holds_first)
    where
      holds : Option A → Type 0
      holds None = Unit {0}
      holds (Some z) = (under z (y ∷ ys) ≤ 0) × (0 < upto z (y ∷ ys))

      holds_first : (under y (y ∷ ys) ≤ 0) × (0 < upto y (y ∷ ys))
      holds_first =
          let no = passing-no (λ n. lt n y) y ys (itself y) in
          let none = none-under y ys h.0 in
          let yes = passing-yes (λ n. not (lt y n)) y ys (ap not (itself y)) in
          (omega arith, omega arith)
  there (y ∷ ys) (suc k) x h e =
      let rest = there ys k x h.1 e in
      let most = passing-most (λ n. lt n x) y ys in
      let yes = passing-yes (λ n. not (lt x n)) y ys (ap not (from-get y ys k x h.0 e)) in
      (omega arith, omega arith)

  -- whether an element is the k-th of a list in order
  abbrev pub kth : List A → ℕ → A → Bool
  kth xs k x = nat_le (under x xs) k && nat_lt k (upto x xs)

  pub kth-found : (xs : List A) (k : ℕ) → find (kth xs k) xs ≡ slice_get (sorted_by lt xs) k
  kth-found xs k = go (find (kth xs k) xs) refl (slice_get (sorted_by lt xs) k) refl
    where
      split : (a b k : ℕ) → (nat_le a k && nat_lt k b) ≡ true → (a ≤ k) × (k < b)
      split a b k h = (grind (arith, nat_tests, h), grind (arith, nat_tests, h))

      joined : (a b k : ℕ) → a ≤ k → k < b → (nat_le a k && nat_lt k b) ≡ true
      joined a b k h g = grind (arith, nat_tests, h, g)

      go : (o : Option A) → find (kth xs k) xs ≡ o → (q : Option A) → slice_get (sorted_by lt xs) k ≡ q → o ≡ q
      go (Some x) e q f =
          let both = split (under x xs) (upto x xs) k (found-passes (kth xs k) xs x e) in
          sym (stands x (sorted_by lt xs) k (rises-sorted xs) (subst (λ n. n ≤ k) (sym (passing-sorted lt (λ n. lt n x) xs)) both.0) (subst (λ n. k < n) (sym (passing-sorted lt (λ n. not (lt x n)) xs)) both.1)) ∙ f
      go None e None f = refl
      go None e (Some x) f =
          let both = there (sorted_by lt xs) k x (rises-sorted xs) f in
          let passes = joined (under x xs) (upto x xs) k (subst (λ n. n ≤ k) (passing-sorted lt (λ n. lt n x) xs) both.0) (subst (λ n. k < n) (passing-sorted lt (λ n. not (lt x n)) xs) both.1) in
          absurd (true≢false (sym passes ∙ fails-get (kth xs k) (sorted_by lt xs) k x (fails-sorted lt (kth xs k) xs (none-passes (kth xs k) xs e)) f))
