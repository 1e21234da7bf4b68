-- The numbers above one and up to another in a rising list.
use Rattle.offer_laws.proofs.Each.{each-then}
use Rattle.pair_offers.proofs.Above.{Rises}
use Rattle.pair_offers.proofs.First.{first-not}
use Rattle.hybrid_model.specs.Tallies.{Each}
use Rattle.pair_offers.specs.Seeking.{first_by, is_up_to}
use Rattle.std.proofs.Common.{ap, arith, refl, sym, ◌∙◌}
use Rattle.std.proofs.lemmas.Bool.Decides.{nat_tests}
use Rattle.std.specs.Prelude.{Bool, List, None, Option, Some, [], cond, false, filter, find, nat_le, nat_lt, true, ℕ, ◌<◌, ◌≡◌, ◌∷◌}

pub all-up : (ks : List ℕ) → filter (is_up_to None) ks ≡ ks
all-up [] = refl
all-up (k ∷ ks) = ap (λ xs. k ∷ xs) (all-up ks)

-- ---- what is found of those that are kept
module _ (p q : ℕ → Bool) where
  passed-by : (x : ℕ) (ks : List ℕ) → p x ≡ false → find p (filter q (x ∷ ks)) ≡ find p (filter q ks)
  passed-by x ks e = go (q x)
    where
      go : (b : Bool) → find p (cond b (x ∷ filter q ks) (filter q ks)) ≡ find p (filter q ks)
      go true = ap (λ a. cond a (Some x) (find p (filter q ks))) e
      go false = refl

  kept-first : (x : ℕ) (ks : List ℕ) → p x ≡ true → q x ≡ true → find p (filter q (x ∷ ks)) ≡ Some x
  kept-first x ks e h = ap (λ b. find p (cond b (x ∷ filter q ks) (filter q ks))) h ∙ ap (λ a. cond a (Some x) (find p (filter q ks))) e

  pub kept-found : (t : ℕ) (ks : List ℕ) → find p ks ≡ Some t → q t ≡ true → find p (filter q ks) ≡ Some t
  kept-found t [] e h = cc
  kept-found t (x ∷ ks) e h = go (p x) refl e (λ f. kept-found t ks f h)
    where
      go : (b : Bool) → p x ≡ b → cond b (Some x) (find p ks) ≡ Some t → (find p ks ≡ Some t → find p (filter q ks) ≡ Some t) → find p (filter q (x ∷ ks)) ≡ Some t
      go true f d again =
          let same : x ≡ t = cc in
          kept-first x ks f (ap q same ∙ h) ∙ d
      go false f d again = passed-by x ks f ∙ again d

  pub kept-nothing : (ks : List ℕ) → find p ks ≡ None → find p (filter q ks) ≡ None
  kept-nothing [] e = refl
  kept-nothing (x ∷ ks) e = go (p x) refl e (kept-nothing ks)
    where
      go : (b : Bool) → p x ≡ b → cond b (Some x) (find p ks) ≡ None → (find p ks ≡ None → find p (filter q ks) ≡ None) → find p (filter q (x ∷ ks)) ≡ None
      go true f d again = cc
      go false f d again = passed-by x ks f ∙ again d

dropped-all : (q : ℕ → Bool) (ks : List ℕ) → Each (λ k. q k ≡ false) ks → filter q ks ≡ []
dropped-all q [] h = refl
dropped-all q (k ∷ ks) h = ap (λ b. cond b (k ∷ filter q ks) (filter q ks)) h.0 ∙ dropped-all q ks h.1

above-end : (end : Option ℕ) (x j : ℕ) → is_up_to end x ≡ false → x < j → is_up_to end j ≡ false
above-end None x j e l = cc
above-end (Some n) x j e l = grind (arith, nat_tests, e, l)

pub past-end : (p : ℕ → Bool) (end : Option ℕ) (t : ℕ) (ks : List ℕ) → Rises ks → find p ks ≡ Some t → is_up_to end t ≡ false → find p (filter (is_up_to end) ks) ≡ None
past-end p end t [] r e h = cc
past-end p end t (x ∷ ks) r e h = go (p x) refl e (λ f. past-end p end t ks r.1 f h)
  where
    ends : is_up_to end x ≡ false → filter (is_up_to end) (x ∷ ks) ≡ []
    ends f = dropped-all (is_up_to end) (x ∷ ks) (f, each-then (λ j. x < j) (λ j. is_up_to end j ≡ false) ks (λ j l. above-end end x j f l) r.0)

    go : (b : Bool) → p x ≡ b → cond b (Some x) (find p ks) ≡ Some t → (find p ks ≡ Some t → find p (filter (is_up_to end) ks) ≡ None) → find p (filter (is_up_to end) (x ∷ ks)) ≡ None
    go true f d again =
        let same : x ≡ t = cc in
        ap (λ ns. find p ns) (ends (ap (is_up_to end) same ∙ h))
    go false f d again = passed-by p (is_up_to end) x ks f ∙ again d

-- ---- where none above has it, the first is one of the others
up-to-not-above : (end k : ℕ) (b : Bool) → nat_lt end k ≡ b → nat_le k end ≡ cond b false true
up-to-not-above end k true e = grind (arith, nat_tests, e)
up-to-not-above end k false e = grind (arith, nat_tests, e)

module _ {A : Type 0} (f : ℕ → Option A) where
  both-none : (o rest : Option A) → elim o as (λ _. Option A) [ None ↦ rest | Some a ↦ Some a ] ≡ None → (o ≡ None) × (rest ≡ None)
  both-none None rest e = (refl, e)
  both-none (Some a) rest e = cc

  pub none-above-first : (end : ℕ) (ks : List ℕ) → first_by f (filter (nat_lt end) ks) ≡ None → first_by f ks ≡ first_by f (filter (is_up_to (Some end)) ks)
  none-above-first end [] e = refl
  none-above-first end (k ∷ ks) e = go (nat_lt end k) refl e (none-above-first end ks)
    where
      go : (b : Bool) → nat_lt end k ≡ b → first_by f (cond b (k ∷ filter (nat_lt end) ks) (filter (nat_lt end) ks)) ≡ None
          → (first_by f (filter (nat_lt end) ks) ≡ None → first_by f ks ≡ first_by f (filter (is_up_to (Some end)) ks))
          → first_by f (k ∷ ks) ≡ first_by f (filter (is_up_to (Some end)) (k ∷ ks))
      go true t d again =
          let n = both-none (f k) (first_by f (filter (nat_lt end) ks)) d in
          first-not f k ks n.0
          ∙ (again n.1 ∙ sym (ap (λ b. first_by f (cond b (k ∷ filter (is_up_to (Some end)) ks) (filter (is_up_to (Some end)) ks))) (up-to-not-above end k true t)))
      go false t d again =
          ap (λ (rest : Option A). elim (f k) as (λ _. Option A) [ None ↦ rest | Some a ↦ Some a ]) (again d)
          ∙ sym (ap (λ b. first_by f (cond b (k ∷ filter (is_up_to (Some end)) ks) (filter (is_up_to (Some end)) ks))) (up-to-not-above end k false t))
