-- Facts that are had from there being some proof of them: equations of numbers and other plain data, what holds of each element, and what an option holds.
use Rattle.hybrid_model.specs.Tallies.{Each, EachNumbered, EachRing}
use Rattle.ikc_ring.specs.declared.Msg.{Msg}
use Rattle.std.proofs.Common.{ap, arith, refl, subst, sym}
use Rattle.std.proofs.Math.Logic.{∥∥₁_elim, ∥∥₁_map}
use Rattle.std.proofs.lemmas.Bool.Decides.{nat_tests}
use Rattle.std.specs.Coded.{Coded, Coded-set, coded_bool, coded_option, coded_ℕ, le_prop, ×_prop, Π_prop, →_prop}
use mathlib.Core.HLevel.{Σ_prop_path}
use mathlib.Core.Logic.{inl, inr}
use Rattle.std.specs.Prelude.{Bool, List, None, Option, Some, [], false, is_some, nat_lt, suc, true, unwrap_or, zero, ℕ, ◌<◌, ◌==◌, ◌∷◌, ◌⊎◌, ◌≡◌, ◌≤◌}

-- a fact is had where there is some proof of it
abbrev pub Told : Type 0 → Type 0
Told A = ∥ A ∥₁ → A

pub once-told : {A : Type 0} → IsProp A → Told A
once-told p t = ∥∥₁_elim t p (λ a. a)

pub never-told : {A : Type 0} → ∥ A ∥₁ → (A → ⊥) → ⊥
never-told t f = ∥∥₁_elim t (λ (u v : ⊥). absurd u) f

pub nat-told : {m n : ℕ} → Told (m ≡ n)
nat-told {m} {n} = once-told (Coded-set coded_ℕ m n)

pub bool-told : {a b : Bool} → Told (a ≡ b)
bool-told {a} {b} = once-told (Coded-set coded_bool a b)

pub le-told : {m n : ℕ} → Told (m ≤ n)
le-told {m} {n} = once-told le_prop

pub lt-told : {m n : ℕ} → Told (m < n)
lt-told {m} {n} = once-told le_prop

pub maybe-told : {m n : Option ℕ} → Told (m ≡ n)
maybe-told {m} {n} = once-told (Coded-set (coded_option coded_ℕ) m n)

pub data-told : {A : Type 0} (c : Coded A) (a b : A) → Told (a ≡ b)
data-told c a b = once-told (Coded-set c a b)

no-some : {V : Type 0} (v : V) → Some v ≡ None → ⊥
no-some v e = absurd (let a = ap is_some e in grind (arith, a))

pub none-told : {V : Type 0} (o : Option V) → Told (o ≡ None)
none-told None t = refl
none-told (Some v) t = absurd (never-told t (no-some v))

-- ---- each of many

pub each-told : {A : Type 0} {P : A → Type 0} → ((a : A) → Told (P a)) → (xs : List A) → Told (Each P xs)
each-told f [] t = tt
each-told f (x ∷ xs) t = (f x (∥∥₁_map t (λ y. y.0)), each-told f xs (∥∥₁_map t (λ y. y.1)))

pub rings-told : {P : Msg → Type 0} → ((a : Msg) → Told (P a)) → (rs : List (List Msg)) → Told (EachRing P rs)
rings-told f [] t = tt
rings-told f (ms ∷ rs) t = (each-told f ms (∥∥₁_map t (λ y. y.0)), rings-told f rs (∥∥₁_map t (λ y. y.1)))

pub numbered-told : {P : ℕ → List Msg → Type 0} → ((r : ℕ) (ms : List Msg) → Told (P r ms)) → (r : ℕ) (rs : List (List Msg)) → Told (EachNumbered P r rs)
numbered-told f r [] t = tt
numbered-told f r (ms ∷ rs) t = (f r ms (∥∥₁_map t (λ y. y.0)), numbered-told f (suc r) rs (∥∥₁_map t (λ y. y.1)))

-- ---- what an option holds

pub record Found {V : Type 0} (o : Option V) (P : V → Type 0) : Type 0 where
  pub value : V
  pub there : o ≡ Some value
  pub rest : P value

some-same : {V : Type 0} (v w : V) → Some v ≡ Some w → v ≡ w
some-same v w e = ap (λ o. unwrap_or o v) e

pub found-told : {V : Type 0} {P : V → Type 0} → ((v : V) → Told (P v)) → (o : Option V) → Told (Found o P)
found-told f None t = absurd (never-told t (λ x. no-some x.value (sym x.there)))
found-told {V = V} {P = P} f (Some w) t = record { value = w; there = refl; rest = f w (∥∥₁_map t (λ x. subst P (sym (some-same w x.value x.there)) x.rest)) }

-- ---- a number that passes a test

-- the least number that passes
abbrev LeastAt : (ℕ → Bool) → ℕ → Type 0
LeastAt f n = (f n ≡ true) × ((m : ℕ) → m < n → f m ≡ false)

none-below : (f : ℕ → Bool) (n m : ℕ) → f n ≡ true → ((k : ℕ) → k < m → f k ≡ false) → m ≤ n
none-below f n m e h = go (nat_lt n m) refl
  where
    go : (b : Bool) → nat_lt n m ≡ b → m ≤ n
    go true l = absurd (let a = h n (grind (arith, nat_tests, l)) in grind (arith, a, e))
    go false l = grind (arith, nat_tests, l)

least-prop : (f : ℕ → Bool) → IsProp ((n : ℕ) × (LeastAt f n))
least-prop f = λ u v. Σ_prop_path (λ n. ×_prop (Coded-set coded_bool (f n) true) (Π_prop (λ m. →_prop (Coded-set coded_bool (f m) false))))
    (let a = none-below f u.0 v.0 u.1.0 v.1.1 in let b = none-below f v.0 u.0 v.1.0 u.1.1 in omega (arith, a, b))

abbrev Search : (ℕ → Bool) → ℕ → Type 0
Search f n = ((m : ℕ) → m < n → f m ≡ false) ⊎ ((k : ℕ) × (LeastAt f k))

one-more : (f : ℕ → Bool) (n : ℕ) → Search f n → (b : Bool) → f n ≡ b → Search f (suc n)
one-more f n (inr k) b e = inr k
one-more f n (inl h) true e = inr (n, (e, h))
one-more f n (inl h) false e = inl (λ m l. go m l (m == n) refl)
  where
    go : (m : ℕ) → m < suc n → (b : Bool) → (m == n) ≡ b → f m ≡ false
    go m l true w = let same : m ≡ n = grind (arith, nat_tests, w) in subst (λ (k : ℕ). f k ≡ false) (sym same) e
    go m l false w = h m (grind (arith, nat_tests, w, l))

search-up : (f : ℕ → Bool) (n : ℕ) → Search f n
search-up f zero = inl (λ m l. absurd (omega (arith, l)))
search-up f (suc n) = one-more f n (search-up f n) (f n) refl

least : (f : ℕ → Bool) (n : ℕ) → f n ≡ true → (k : ℕ) × (LeastAt f k)
least f n e = go (search-up f (suc n))
  where
    go : Search f (suc n) → (k : ℕ) × (LeastAt f k)
    go (inl h) = absurd (let a = h n (omega arith) in grind (arith, a, e))
    go (inr k) = k

pub record Passes (f : ℕ → Bool) : Type 0 where
  pub number : ℕ
  pub passes : f number ≡ true

pub passes-told : (f : ℕ → Bool) → Told (Passes f)
passes-told f t = let x = ∥∥₁_elim t (least-prop f) (λ y. least f y.number y.passes) in record { number = x.0; passes = x.1.0 }
