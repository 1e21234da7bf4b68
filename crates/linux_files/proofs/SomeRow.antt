-- Whether a row passes, by a count of them, and among fewer rows.
use Rattle.file_tree.proofs.Members.{In, at-in, in-at, no-value}
use Rattle.mck_word.specs.MapLaws.{at-collect, at-cut, same_rows}
use Rattle.mck_word.specs.Maps.{Map, and_then, at, collect, cut, entries, some_row, total}
use Rattle.std.proofs.Common.{ap, arith, inl, inr, refl, sym, ◌∙◌}
use Rattle.std.proofs.lemmas.Bool.Decides.{nat_tests}
use Rattle.std.proofs.lemmas.Bool.{true≢false}
use Rattle.std.proofs.lemmas.List.Sums.{sum_by-cons}
use Rattle.std.specs.List.{list_any}
use Rattle.std.specs.Prelude.{Bool, List, None, Option, Some, [], cond, false, nat_lt, sum_by, true, ℕ, ◌+◌, ◌==◌, ◌||◌, ◌∷◌, ◌≡◌}

any-in : {A : Type 0} (p : A → Bool) (xs : List A) → list_any p xs ≡ true → (x : A) × In x xs × (p x ≡ true)
any-in p [] h = absurd (true≢false (sym h))
any-in p (x ∷ xs) h = go (p x) refl h (any-in p xs)
  where
    go : (b : Bool) → p x ≡ b → (b || list_any p xs) ≡ true → (list_any p xs ≡ true → (y : _) × In y xs × (p y ≡ true)) → (y : _) × In y (x ∷ xs) × (p y ≡ true)
    go true e h rest = (x, inl refl, e)
    go false e h rest = let r = rest h in (r.0, inr r.1, r.2)

in-any : {A : Type 0} (p : A → Bool) (xs : List A) (x : A) → In x xs → p x ≡ true → list_any p xs ≡ true
in-any p [] x i h = absurd i
in-any p (y ∷ ys) x (inl e) h = ap (λ b. b || list_any p ys) (ap p e ∙ h)
in-any p (y ∷ ys) x (inr j) h = either (p y) (in-any p ys x j h)
  where
    either : (b : Bool) → list_any p ys ≡ true → (b || list_any p ys) ≡ true
    either true e = refl
    either false e = e

-- some element passes where the elements count something
any-sum : {A : Type 0} (p : A → Bool) (f : A → ℕ) (xs : List A) → ((x : A) → p x ≡ nat_lt 0 (f x)) → list_any p xs ≡ nat_lt 0 (sum_by f xs)
any-sum p f [] h = refl
any-sum p f (x ∷ xs) h = joined (p x) (list_any p xs) (f x) (sum_by f xs) (h x) (any-sum p f xs h) ∙ ap (nat_lt 0) (sym (sum_by-cons f x xs))
  where
    joined : (a b : Bool) (m n : ℕ) → a ≡ nat_lt 0 m → b ≡ nat_lt 0 n → (a || b) ≡ nat_lt 0 (m + n)
    joined true b m n g h = sym (grind (arith, nat_tests, g))
    joined false true m n g h = sym (grind (arith, nat_tests, h))
    joined false false m n g h = sym (grind (arith, nat_tests, g, h))

module _ {V : Type 0} where
  pub some-total : (p : ℕ → V → Bool) (f : V → ℕ) (m : Map V) → ((k : ℕ) (v : V) → p k v ≡ nat_lt 0 (f v)) → some_row p m ≡ nat_lt 0 (total f m)
  some-total p f m h = any-sum (λ (e : ℕ × V). p e.0 e.1) (λ (e : ℕ × V). f e.1) (entries m) (λ e. h e.0 e.1)

  -- a row that passes
  pub passing-row : (p : ℕ → V → Bool) (m : Map V) → some_row p m ≡ true → (k : ℕ) × (v : V) × (at m k ≡ Some v) × (p k v ≡ true)
  passing-row p m h = let r = any-in (λ (e : ℕ × V). p e.0 e.1) (entries m) h in (r.0.0, r.0.1, in-at m r.0 r.1, r.2)

  pub row-passes : (p : ℕ → V → Bool) (m : Map V) (k : ℕ) (v : V) → at m k ≡ Some v → p k v ≡ true → some_row p m ≡ true
  row-passes p m k v e h = in-any (λ (e : ℕ × V). p e.0 e.1) (entries m) (k, v) (at-in m k v e) h

  -- among fewer rows no more pass
  pub fewer-pass : (p : ℕ → V → Bool) (m n : Map V) → ((k : ℕ) (v : V) → at n k ≡ Some v → at m k ≡ Some v) → some_row p m ≡ false → some_row p n ≡ false
  fewer-pass p m n h e = go (some_row p n) refl
    where
      go : (b : Bool) → some_row p n ≡ b → some_row p n ≡ false
      go false f = f
      go true f = let r = passing-row p n f in absurd (true≢false (sym (row-passes p m r.0 r.1 (h r.0 r.1 r.2) r.3) ∙ e))

  -- the rows that pass a test, among fewer rows
  module _ (test : ℕ → V → Bool) (m : Map V) where
    abbrev pub if_passes : ℕ → V → Option V
    if_passes k v = cond (test k v) (Some v) None

    pub collected-there : (k : ℕ) (v : V) → at (collect if_passes m) k ≡ Some v → at m k ≡ Some v
    collected-there k v e = go (at m k) refl (sym (at-collect if_passes m k) ∙ e)
      where
        turn : (w : V) (b : Bool) → cond b (Some w) None ≡ Some v → Some w ≡ Some v
        turn w true e = e
        turn w false e = no-value v (sym e)

        go : (o : Option V) → at m k ≡ o → and_then o (if_passes k) ≡ Some v → o ≡ Some v
        go None f e = no-value v (sym e)
        go (Some w) f e = turn w (test k w) e

    pub collect-cut : (k : ℕ) (v : V) → at m k ≡ Some v → test k v ≡ false → collect if_passes (cut m k) ≡ collect if_passes m
    collect-cut k v there fails = same_rows _ _ (λ q. at-collect if_passes (cut m k) q ∙ ap (λ o. and_then o (if_passes q)) (at-cut m k q) ∙ go q (q == k) refl ∙ sym (at-collect if_passes m q))
      where
        go : (q : ℕ) (b : Bool) → (q == k) ≡ b → and_then (cond b None (at m q)) (if_passes q) ≡ and_then (at m q) (if_passes q)
        go q true e =
            let same : q ≡ k = grind (arith, nat_tests, e) in
            sym (ap (λ (j : ℕ). and_then (at m j) (if_passes j)) same ∙ ap (λ o. and_then o (if_passes k)) there ∙ ap (λ b. cond b (Some v) None) fails)
        go q false e = refl

    pub collect-whole : ((k : ℕ) (v : V) → at m k ≡ Some v → test k v ≡ true) → collect if_passes m ≡ m
    collect-whole h = same_rows _ _ (λ q. at-collect if_passes m q ∙ go q (at m q) refl)
      where
        go : (q : ℕ) (o : Option V) → at m q ≡ o → and_then o (if_passes q) ≡ o
        go q None e = refl
        go q (Some v) e = ap (λ b. cond b (Some v) None) (h q v e)

  -- a test after one that fails only where it fails
  pub collect-twice : (first second : ℕ → V → Bool) (m : Map V) → ((k : ℕ) (v : V) → first k v ≡ false → second k v ≡ false)
      → collect (λ k v. cond (second k v) (Some v) None) (collect (λ k v. cond (first k v) (Some v) None) m) ≡ collect (λ k v. cond (second k v) (Some v) None) m
  collect-twice first second m h = same_rows _ _ (λ q.
      at-collect (λ k v. cond (second k v) (Some v) None) (collect (λ k v. cond (first k v) (Some v) None) m) q ∙ ap (λ o. and_then o (λ v. cond (second q v) (Some v) None)) (at-collect (λ k v. cond (first k v) (Some v) None) m q)
      ∙ go q (at m q) ∙ sym (at-collect (λ k v. cond (second k v) (Some v) None) m q))
    where
      by_first : (q : ℕ) (v : V) (b : Bool) → first q v ≡ b → and_then (cond b (Some v) None) (λ v. cond (second q v) (Some v) None) ≡ cond (second q v) (Some v) None
      by_first q v true e = refl
      by_first q v false e = ap (λ (b : Bool). cond b (Some v) None) (sym (h q v e))

      go : (q : ℕ) (o : Option V) → and_then (and_then o (λ v. cond (first q v) (Some v) None)) (λ v. cond (second q v) (Some v) None) ≡ and_then o (λ v. cond (second q v) (Some v) None)
      go q None = refl
      go q (Some v) = by_first q v (first q v) refl
