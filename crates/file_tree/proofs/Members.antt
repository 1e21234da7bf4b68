-- The members of lists and the rows of maps.
use Rattle.key_rows.proofs.Placed.{below-of, tail-of}
use Rattle.mck_word.specs.Maps.{Map, at, entries}
use Rattle.std.proofs.Common.{ap, inl, inr, refl, subst, sym, ◌∙◌}
use Rattle.std.proofs.lemmas.Bool.Decides.{nat_tests}
use Rattle.std.proofs.lemmas.Bool.{true≢false}
use Rattle.std.proofs.Common.{arith}
use Rattle.std.specs.Cmp.{unsigned_tied}
use Rattle.std.specs.FinMap as finmap
use Rattle.std.specs.FinMap.Entries as fin
use Rattle.std.specs.List.{cons_option}
use Rattle.std.specs.Ordering.{is_lt, nat_cmp}
use Rattle.std.specs.Prelude.{Bool, List, None, Option, Some, T, [], cond, false, filter_map, find, is_some, nat_lt, true, unwrap_or, ℕ, ◌&&◌, ◌<◌, ◌==◌, ◌∷◌, ◌≡◌, ◌⊎◌}
use Rattle.std.specs.declared.cmp.Ordering.TheVariants.{Equal, Greater, Less}

abbrev pub In : {A : Type 0} → A → List A → Type 0
In x [] = ⊥
In x (y ∷ ys) = (y ≡ x) ⊎ In x ys

pub no-value : {A : Type 0} {B : Type 0} (x : A) → Some x ≡ None → B
no-value x e = absurd (true≢false (ap is_some e))

pub value-same : {A : Type 0} (x y : A) → Some x ≡ Some y → x ≡ y
value-same x y e = ap (λ o. unwrap_or o x) e

-- what a search finds is a member that passes, and where it finds nothing none passes
pub find-in : {A : Type 0} (p : A → Bool) (xs : List A) (x : A) → find p xs ≡ Some x → In x xs × (p x ≡ true)
find-in p [] x e = no-value x (sym e)
find-in p (y ∷ ys) x e = go (p y) refl e (find-in p ys x)
  where
    go : (b : Bool) → p y ≡ b → cond b (Some y) (find p ys) ≡ Some x → (find p ys ≡ Some x → In x ys × (p x ≡ true)) → In x (y ∷ ys) × (p x ≡ true)
    go true h e rest = let same = value-same y x e in (inl same, ap p (sym same) ∙ h)
    go false h e rest = let r = rest e in (inr r.0, r.1)

pub find-none : {A : Type 0} (p : A → Bool) (xs : List A) (x : A) → find p xs ≡ None → In x xs → p x ≡ false
find-none p [] x e i = absurd i
find-none p (y ∷ ys) x e i = go (p y) refl e i (find-none p ys x)
  where
    go : (b : Bool) → p y ≡ b → cond b (Some y) (find p ys) ≡ None → (y ≡ x) ⊎ In x ys → (find p ys ≡ None → In x ys → p x ≡ false) → p x ≡ false
    go true h e i rest = no-value y e
    go false h e (inl same) rest = ap p (sym same) ∙ h
    go false h e (inr j) rest = rest e j

-- the members of a list of what some elements give
pub given-in : {A B : Type 0} (f : A → Option B) (xs : List A) (b : B) → In b (filter_map f xs) → (x : A) × In x xs × (f x ≡ Some b)
given-in f [] b i = absurd i
given-in f (x ∷ xs) b i = go (f x) refl i (given-in f xs b)
  where
    go : (o : Option _) → f x ≡ o → In b (cons_option o (filter_map f xs)) → (In b (filter_map f xs) → (y : _) × In y xs × (f y ≡ Some b)) → (y : _) × In y (x ∷ xs) × (f y ≡ Some b)
    go None e i rest = let r = rest i in (r.0, inr r.1, r.2)
    go (Some c) e (inl same) rest = (x, inl refl, e ∙ ap Some same)
    go (Some c) e (inr j) rest = let r = rest j in (r.0, inr r.1, r.2)

pub in-given : {A B : Type 0} (f : A → Option B) (xs : List A) (x : A) (b : B) → In x xs → f x ≡ Some b → In b (filter_map f xs)
in-given f [] x b i e = absurd i
in-given f (y ∷ ys) x b i e = go (f y) refl i (λ j. in-given f ys x b j e)
  where
    go : (o : Option _) → f y ≡ o → (y ≡ x) ⊎ In x ys → (In x ys → In b (filter_map f ys)) → In b (cons_option o (filter_map f ys))
    go None h (inl same) rest = no-value b (sym (sym h ∙ ap f same ∙ e))
    go None h (inr j) rest = rest j
    go (Some c) h (inl same) rest = inl (value-same c b (sym h ∙ ap f same ∙ e))
    go (Some c) h (inr j) rest = inr (rest j)

apart-less : (a b : ℕ) → T (is_lt (nat_cmp a b)) → a < b
apart-less a b h = go (nat_lt a b) refl h
  where
    equal-or : (x : Bool) → T (is_lt (cond x Equal Greater)) → ⊥
    equal-or true k = k
    equal-or false k = k

    go : (x : Bool) → nat_lt a b ≡ x → T (is_lt (cond x Less (cond (a == b) Equal Greater))) → a < b
    go true f k = grind (arith, nat_tests, f)
    go false f k = absurd (equal-or (a == b) k)

first : (a b : Bool) → T (a && b) → T a
first true b h = tt
first false b h = absurd h

second : (a b : Bool) → T (a && b) → T b
second true b h = h
second false b h = absurd h

module _ {V : Type 0} where
  -- the keys behind a key are above it
  pub in-above : (k : ℕ) (es : List (ℕ × V)) (e : ℕ × V) → T (fin.below_all nat_cmp k es) → In e es → k < e.0
  in-above k [] e s i = absurd i
  in-above k (x ∷ es) e s (inl same) = subst (λ (n : ℕ). k < n) (ap (λ (y : ℕ × V). y.0) same) (apart-less k x.0 (first _ _ s))
  in-above k (x ∷ es) e s (inr j) = in-above k es e (second (is_lt (nat_cmp k x.0)) _ s) j

  in-found : (es : List (ℕ × V)) (e : ℕ × V) → T (fin.is_sorted nat_cmp es) → In e es → fin.find nat_cmp e.0 es ≡ Some e.1
  in-found [] e s i = absurd i
  in-found (x ∷ es) e s (inl same) = ap (λ b. cond b (Some x.1) (fin.find nat_cmp e.0 es)) (unsigned_tied e.0 x.0 ∙ (let k : e.0 ≡ x.0 = ap (λ (y : ℕ × V). y.0) (sym same) in let b : (e.0 == x.0) ≡ true = grind (arith, nat_tests, k) in b)) ∙ ap (λ (y : ℕ × V). Some y.1) same
  in-found (x ∷ es) e s (inr j) =
      let above = in-above x.0 es e (below-of x es s) j in
      ap (λ b. cond b (Some x.1) (fin.find nat_cmp e.0 es)) (unsigned_tied e.0 x.0 ∙ (let b : (e.0 == x.0) ≡ false = grind (arith, nat_tests, above) in b)) ∙ in-found es e (tail-of x es s) j

  found-in : (es : List (ℕ × V)) (k : ℕ) (v : V) → fin.find nat_cmp k es ≡ Some v → In (k, v) es
  found-in [] k v e = no-value v (sym e)
  found-in (x ∷ es) k v e = go (k == x.0) refl (sym (ap (λ c. cond c (Some x.1) (fin.find nat_cmp k es)) (unsigned_tied k x.0)) ∙ e) (found-in es k v)
    where
      go : (b : Bool) → (k == x.0) ≡ b → cond b (Some x.1) (fin.find nat_cmp k es) ≡ Some v → (fin.find nat_cmp k es ≡ Some v → In (k, v) es) → In (k, v) (x ∷ es)
      go true f g i =
          let a : x.0 ≡ k = grind (arith, nat_tests, f) in
          let b = value-same x.1 v g in
          inl (λ j. (a j, b j))
      go false f g i = inr (i g)

  -- a member of the entries is a row, and a row is a member
  pub in-at : (m : Map V) (e : ℕ × V) → In e (entries m) → at m e.0 ≡ Some e.1
  in-at m e i = finmap.get-entries m e.0 ∙ in-found (entries m) e (finmap.entries_sorted m) i

  pub at-in : (m : Map V) (k : ℕ) (v : V) → at m k ≡ Some v → In (k, v) (entries m)
  at-in m k v e = found-in (entries m) k v (sym (finmap.get-entries m k) ∙ e)
