-- Lists in strictly rising order are the same where they have the same members.
use Rattle.file_tree.proofs.Members.{In}
use Rattle.mck_word.specs.Lists.{insert_by, sorted_by}
use Rattle.std.proofs.Common.{ap, inl, inr, refl, sym, ◌∙◌}
use Rattle.std.proofs.lemmas.Bool.{true≢false}
use Rattle.std.specs.Prelude.{Bool, List, [], cond, false, true, ◌∷◌, ◌≡◌, ◌⊎◌}

-- no element stands twice
abbrev pub Distinct : {A : Type 0} → List A → Type 0
Distinct [] = Unit {0}
Distinct (x ∷ xs) = (In x xs → ⊥) × Distinct xs

module _ {A : Type 0} (lt : A → A → Bool) (asym : (a b : A) → lt a b ≡ true → lt b a ≡ false) (trans : (a b c : A) → lt a b ≡ true → lt b c ≡ true → lt a c ≡ true)
    (same : (a b : A) → lt a b ≡ false → lt b a ≡ false → a ≡ b) where
  -- all stand behind x
  abbrev pub Behind : A → List A → Type 0
  Behind x [] = Unit {0}
  Behind x (y ∷ ys) = (lt x y ≡ true) × Behind x ys

  abbrev pub Rises : List A → Type 0
  Rises [] = Unit {0}
  Rises (y ∷ ys) = Behind y ys × Rises ys

  behind-in : (x z : A) (ys : List A) → Behind x ys → In z ys → lt x z ≡ true
  behind-in x z [] h i = absurd i
  behind-in x z (y ∷ ys) h (inl e) = ap (lt x) (sym e) ∙ h.0
  behind-in x z (y ∷ ys) h (inr j) = behind-in x z ys h.1 j

  not-itself : (x : A) → lt x x ≡ true → ⊥
  not-itself x e = true≢false (sym e ∙ asym x x e)

  heads : (x y : A) (xs ys : List A) → Behind x xs → Behind y ys → In x (y ∷ ys) → In y (x ∷ xs) → x ≡ y
  heads x y xs ys h k (inl e) j = sym e
  heads x y xs ys h k (inr i) (inl e) = e
  heads x y xs ys h k (inr i) (inr j) = absurd (true≢false (sym (behind-in y x ys k i) ∙ asym x y (behind-in x y xs h j)))

  rest-of : (x y z : A) (xs ys : List A) → x ≡ y → Behind x xs → In z xs → In z (y ∷ ys) → In z ys
  rest-of x y z xs ys e h i (inl f) = absurd (not-itself x (ap (lt x) (e ∙ f) ∙ behind-in x z xs h i))
  rest-of x y z xs ys e h i (inr j) = j

  pub same-list : (xs ys : List A) → Rises xs → Rises ys → ((z : A) → In z xs → In z ys) → ((z : A) → In z ys → In z xs) → xs ≡ ys
  same-list [] [] h k f g = refl
  same-list [] (y ∷ ys) h k f g = absurd (g y (inl refl))
  same-list (x ∷ xs) [] h k f g = absurd (f x (inl refl))
  same-list (x ∷ xs) (y ∷ ys) h k f g =
      let e = heads x y xs ys h.0 k.0 (f x (inl refl)) (g y (inl refl)) in
      let rest = same-list xs ys h.1 k.1 (λ z i. rest-of x y z xs ys e h.0 i (f z (inr i))) (λ z i. rest-of y x z ys xs (sym e) k.0 i (g z (inr i))) in
      λ i. e i ∷ rest i

  in-insert : (x z : A) (ys : List A) → In z (insert_by lt x ys) → (x ≡ z) ⊎ In z ys
  in-insert x z [] i = i
  in-insert x z (y ∷ ys) i = go (lt x y) i (in-insert x z ys)
    where
      later : (x ≡ z) ⊎ In z ys → (x ≡ z) ⊎ In z (y ∷ ys)
      later (inl e) = inl e
      later (inr j) = inr (inr j)

      turn : (y ≡ z) ⊎ In z (insert_by lt x ys) → (In z (insert_by lt x ys) → (x ≡ z) ⊎ In z ys) → (x ≡ z) ⊎ In z (y ∷ ys)
      turn (inl e) rest = inr (inl e)
      turn (inr j) rest = later (rest j)

      go : (b : Bool) → In z (cond b (x ∷ y ∷ ys) (y ∷ insert_by lt x ys)) → (In z (insert_by lt x ys) → (x ≡ z) ⊎ In z ys) → (x ≡ z) ⊎ In z (y ∷ ys)
      go true i rest = i
      go false i rest = turn i rest

  insert-in : (x z : A) (ys : List A) → (x ≡ z) ⊎ In z ys → In z (insert_by lt x ys)
  insert-in x z [] i = i
  insert-in x z (y ∷ ys) i = go (lt x y) i (insert-in x z ys)
    where
      turn : (x ≡ z) ⊎ In z (y ∷ ys) → ((x ≡ z) ⊎ In z ys → In z (insert_by lt x ys)) → In z (y ∷ insert_by lt x ys)
      turn (inl e) rest = inr (rest (inl e))
      turn (inr (inl e)) rest = inl e
      turn (inr (inr j)) rest = inr (rest (inr j))

      go : (b : Bool) → (x ≡ z) ⊎ In z (y ∷ ys) → ((x ≡ z) ⊎ In z ys → In z (insert_by lt x ys)) → In z (cond b (x ∷ y ∷ ys) (y ∷ insert_by lt x ys))
      go true i rest = i
      go false i rest = turn i rest

  pub in-sorted : (z : A) (xs : List A) → In z (sorted_by lt xs) → In z xs
  in-sorted z [] i = i
  in-sorted z (x ∷ xs) i = go (in-insert x z (sorted_by lt xs) i) (in-sorted z xs)
    where
      go : (x ≡ z) ⊎ In z (sorted_by lt xs) → (In z (sorted_by lt xs) → In z xs) → In z (x ∷ xs)
      go (inl e) rest = inl e
      go (inr j) rest = inr (rest j)

  pub sorted-in : (z : A) (xs : List A) → In z xs → In z (sorted_by lt xs)
  sorted-in z [] i = i
  sorted-in z (x ∷ xs) (inl e) = insert-in x z (sorted_by lt xs) (inl e)
  sorted-in z (x ∷ xs) (inr j) = insert-in x z (sorted_by lt xs) (inr (sorted-in z xs j))

  behind-up : (x y : A) (ys : List A) → lt x y ≡ true → Behind y ys → Behind x ys
  behind-up x y [] l h = tt
  behind-up x y (z ∷ zs) l h = (trans x y z l h.0, behind-up x y zs l h.1)

  behind-insert : (y x : A) (ys : List A) → lt y x ≡ true → Behind y ys → Behind y (insert_by lt x ys)
  behind-insert y x [] l h = (l, tt)
  behind-insert y x (z ∷ zs) l h = elim (lt x z) as (λ b. Behind y (cond b (x ∷ z ∷ zs) (z ∷ insert_by lt x zs))) [ true ↦ (l, h) | false ↦ (h.0, behind-insert y x zs l h.1) ]

  rises-insert : (x : A) (ys : List A) → Rises ys → (In x ys → ⊥) → Rises (insert_by lt x ys)
  rises-insert x [] h n = (tt, tt)
  rises-insert x (y ∷ ys) h n = go (lt x y) refl (rises-insert x ys h.1 (λ i. n (inr i)))
    where
      other : (b : Bool) → lt y x ≡ b → lt x y ≡ false → lt y x ≡ true
      other true f e = f
      other false f e = absurd (n (inl (same y x f e)))

      go : (b : Bool) → lt x y ≡ b → Rises (insert_by lt x ys) → Rises (cond b (x ∷ y ∷ ys) (y ∷ insert_by lt x ys))
      go true e rest = ((e, behind-up x y ys e h.0), h)
      go false e rest = (behind-insert y x ys (other (lt y x) refl e) h.0, rest)

  pub rises-sorted : (xs : List A) → Distinct xs → Rises (sorted_by lt xs)
  rises-sorted [] h = tt
  rises-sorted (x ∷ xs) h = rises-insert x (sorted_by lt xs) (rises-sorted xs h.1) (λ i. h.0 (in-sorted x xs i))
