-- What holds of each element of a list: of lists that are joined, mapped, filtered or searched, of the numbers below a bound, and of the keys of a map.
use Rattle.hybrid_model.specs.Tallies.{Each}
use Rattle.mck_word.specs.Lists.{count_from, member}
use Rattle.mck_word.specs.Maps.{Map, at, keys}
use Rattle.std.proofs.Common.{ap, arith, refl, subst, sym, ◌∙◌}
use Rattle.std.proofs.lemmas.Bool.Decides.{nat_tests}
use Rattle.std.specs.Cmp.{unsigned_tied}
use Rattle.std.specs.FinMap.{contains_key-keys}
use Rattle.std.specs.List.{list_any}
use Rattle.std.specs.Ordering.{eq_by_cmp, nat_cmp}
use Rattle.std.specs.Prelude.{zero, suc, Bool, List, None, Some, [], cond, false, filter, find, flat_map, is_some, map, true, ℕ, ◌++◌, ◌+◌, ◌<◌, ◌==◌, ◌||◌, ◌∷◌, ◌≡◌, ◌≤◌}

module _ {A : Type 0} (P : A → Type 0) where
  pub each-all : (xs : List A) → ((x : A) → P x) → Each P xs
  each-all [] h = tt
  each-all (x ∷ xs) h = (h x, each-all xs h)

  pub each-parts : (xs ys : List A) → Each P (xs ++ ys) → Each P xs × Each P ys
  each-parts [] ys h = (tt, h)
  each-parts (x ∷ xs) ys h = let r = each-parts xs ys h.1 in ((h.0, r.0), r.1)

  pub each-join : (xs ys : List A) → Each P xs → Each P ys → Each P (xs ++ ys)
  each-join [] ys h k = k
  each-join (x ∷ xs) ys h k = (h.0, each-join xs ys h.1 k)

  pub each-kept : (test : A → Bool) (xs : List A) → Each P xs → Each P (filter test xs)
  each-kept test [] h = tt
  each-kept test (x ∷ xs) h = go (test x) (each-kept test xs h.1)
    where
      go : (b : Bool) → Each P (filter test xs) → Each P (cond b (x ∷ filter test xs) (filter test xs))
      go true r = (h.0, r)
      go false r = r

  pub each-passing : (test : A → Bool) (xs : List A) → Each P (filter test xs) → Each (λ x. test x ≡ true → P x) xs
  each-passing test [] h = tt
  each-passing test (x ∷ xs) h = go (test x) refl h (each-passing test xs)
    where
      go : (b : Bool) → test x ≡ b → Each P (cond b (x ∷ filter test xs) (filter test xs)) → (Each P (filter test xs) → Each (λ y. test y ≡ true → P y) xs) → (test x ≡ true → P x) × Each (λ y. test y ≡ true → P y) xs
      go true e k r = (λ p. k.0, r k.1)
      go false e k r = (λ p. absurd (let n = e in grind (arith, n, p)), r k)

  pub each-mapped : {B : Type 0} (f : B → A) (xs : List B) → Each P (map f xs) → Each (λ x. P (f x)) xs
  each-mapped f [] h = tt
  each-mapped f (x ∷ xs) h = (h.0, each-mapped f xs h.1)

  pub each-map : {B : Type 0} (f : B → A) (xs : List B) → Each (λ x. P (f x)) xs → Each P (map f xs)
  each-map f [] h = tt
  each-map f (x ∷ xs) h = (h.0, each-map f xs h.1)

  pub each-flattened : {B : Type 0} (f : B → List A) (xs : List B) → Each P (flat_map f xs) → Each (λ x. Each P (f x)) xs
  each-flattened f [] h = tt
  each-flattened f (x ∷ xs) h = let r = each-parts (f x) (flat_map f xs) h in (r.0, each-flattened f xs r.1)

  pub each-flat : {B : Type 0} (f : B → List A) (xs : List B) → Each (λ x. Each P (f x)) xs → Each P (flat_map f xs)
  each-flat f [] h = tt
  each-flat f (x ∷ xs) h = each-join (f x) (flat_map f xs) h.0 (each-flat f xs h.1)

  pub each-then : (Q : A → Type 0) (xs : List A) → ((x : A) → P x → Q x) → Each P xs → Each Q xs
  each-then Q [] f h = tt
  each-then Q (x ∷ xs) f h = (f x h.0, each-then Q xs f h.1)

-- ---- a search finds nothing where no element passes
module _ {A : Type 0} (test : A → Bool) where
  pub none-passes : (xs : List A) → find test xs ≡ None → Each (λ x. test x ≡ false) xs
  none-passes [] e = tt
  none-passes (x ∷ xs) e = go (test x) refl e (none-passes xs)
    where
      go : (b : Bool) → test x ≡ b → cond b (Some x) (find test xs) ≡ None → (find test xs ≡ None → Each (λ y. test y ≡ false) xs) → (test x ≡ false) × Each (λ y. test y ≡ false) xs
      go true f k r = absurd (grind (arith, k))
      go false f k r = (f, r k)

  pub none-found : (xs : List A) → Each (λ x. test x ≡ false) xs → find test xs ≡ None
  none-found [] h = refl
  none-found (x ∷ xs) h = ap (λ b. cond b (Some x) (find test xs)) h.0 ∙ none-found xs h.1

  pub any-none : (xs : List A) → list_any test xs ≡ false → Each (λ x. test x ≡ false) xs
  any-none [] e = tt
  any-none (x ∷ xs) e = go (test x) refl e (any-none xs)
    where
      go : (b : Bool) → test x ≡ b → (b || list_any test xs) ≡ false → (list_any test xs ≡ false → Each (λ y. test y ≡ false) xs) → (test x ≡ false) × Each (λ y. test y ≡ false) xs
      go true f k r = absurd (grind (arith, k))
      go false f k r = (f, r k)

  pub none-any : (xs : List A) → Each (λ x. test x ≡ false) xs → list_any test xs ≡ false
  none-any [] h = refl
  none-any (x ∷ xs) h = ap (λ b. b || list_any test xs) h.0 ∙ none-any xs h.1

-- ---- members of lists of numbers
pub each-member : (P : ℕ → Type 0) (ns : List ℕ) → ((n : ℕ) → member n ns ≡ true → P n) → Each P ns
each-member P [] h = tt
each-member P (m ∷ ns) h = (h m (own m ns), each-member P ns (λ n e. h n (behind n e (m == n))))
  where
    own : (k : ℕ) (ks : List ℕ) → member k (k ∷ ks) ≡ true
    own k ks = let e : (k == k) ≡ true = grind (arith, nat_tests) in ap (λ b. b || member k ks) e

    behind : (n : ℕ) → member n ns ≡ true → (b : Bool) → (b || member n ns) ≡ true
    behind n e true = refl
    behind n e false = e

pub of-member : (P : ℕ → Type 0) (ns : List ℕ) (n : ℕ) → Each P ns → member n ns ≡ true → P n
of-member P [] n h e = absurd (grind (arith, e))
of-member P (m ∷ ns) n h e = go (m == n) refl e (of-member P ns n h.1)
  where
    go : (b : Bool) → (m == n) ≡ b → (b || member n ns) ≡ true → (member n ns ≡ true → P n) → P n
    go true f k r = let g : m ≡ n = grind (arith, nat_tests, f) in subst P g h.0
    go false f k r = r k

pub count-member : (a n k : ℕ) → a ≤ k → k < a + n → member k (count_from a n) ≡ true
count-member a zero k l m = absurd (omega (arith, l, m))
count-member a (suc n) k l m = go (a == k) refl (count-member (a + 1) n k)
  where
    go : (b : Bool) → (a == k) ≡ b → (a + 1 ≤ k → k < a + 1 + n → member k (count_from (a + 1) n) ≡ true) → (b || member k (count_from (a + 1) n)) ≡ true
    go true e r = refl
    go false e r = r (grind (arith, nat_tests, e, l)) (omega (arith, m))

-- a key that is found is among the keys
pub key-member : {V : Type 0} (m : Map V) (k : ℕ) → is_some (at m k) ≡ true → member k (keys m) ≡ true
key-member m k e = sym (tests (keys m) k) ∙ sym (contains_key-keys m k) ∙ e
  where
    tests : (ns : List ℕ) (n : ℕ) → list_any (eq_by_cmp nat_cmp n) ns ≡ member n ns
    tests [] n = refl
    tests (x ∷ ns) n = λ i. (turned x n i) || tests ns n i
      where
        turned : (x n : ℕ) → eq_by_cmp nat_cmp n x ≡ (x == n)
        turned x n = unsigned_tied n x ∙ go (x == n) refl
          where
            go : (b : Bool) → (x == n) ≡ b → (n == x) ≡ b
            go true e = grind (arith, nat_tests, e)
            go false e = grind (arith, nat_tests, e)
