-- The numbers above one in a rising list, as the keys of a map are.
use Rattle.std.specs.FinMap as finmap
use Rattle.std.specs.FinMap.Entries as fin
use Rattle.hybrid_laws.proofs.maps.Tests.{both}
use Rattle.hybrid_model.specs.Tallies.{Each}
use Rattle.mck_word.specs.Maps.{Map, entries, keys}
use Rattle.offer_laws.proofs.Each.{each-kept, each-then, none-found, none-passes}
use Rattle.pair_offers.specs.Seeking.{next_such}
use Rattle.run_model.specs.Walks.{is_above_last}
use Rattle.std.proofs.Common.{ap, arith, refl, subst, sym, ◌∙◌}
use Rattle.std.proofs.lemmas.Bool.Decides.{nat_tests}
use Rattle.std.specs.Ordering.{is_lt, nat_cmp}
use Rattle.std.specs.Prelude.{Bool, IfSome, List, None, Option, Some, T, [], cond, false, filter, find, map, min, nat_le, nat_lt, option_map, true, ℕ, ◌&&◌, ◌+◌, ◌<◌, ◌≡◌, ◌≤◌, ◌∷◌}

-- ---- keys rise
abbrev pub Rises : List ℕ → Type 0
Rises [] = Unit {0}
Rises (k ∷ ks) = Each (λ j. k < j) ks × Rises ks

less : (k j : ℕ) → is_lt (nat_cmp k j) ≡ true → k < j
less k j e = grind (arith, nat_tests, e)

module _ {V : Type 0} where
  numbers : List (ℕ × V) → List ℕ
  numbers es = map (λ (e : ℕ × V). e.0) es

  above-all : (k : ℕ) (es : List (ℕ × V)) → fin.below_all nat_cmp k es ≡ true → Each (λ j. k < j) (map (λ (e : ℕ × V). e.0) es)
  above-all k [] e = tt
  above-all k (x ∷ es) e = let a = both (is_lt (nat_cmp k x.0)) (fin.below_all nat_cmp k es) e in (less k x.0 a.0, above-all k es a.1)

  rising : (es : List (ℕ × V)) → fin.is_sorted nat_cmp es ≡ true → Rises (map (λ (e : ℕ × V). e.0) es)
  rising [] e = tt
  rising (x ∷ es) e = let a = both (fin.below_all nat_cmp x.0 es) (fin.is_sorted nat_cmp es) e in (above-all x.0 es a.0, rising es a.1)

  pub keys-rise : (m : Map V) → Rises (keys m)
  keys-rise m = rising (entries m) (go (fin.is_sorted nat_cmp (entries m)) refl (finmap.entries_sorted m))
    where
      go : (b : Bool) → fin.is_sorted nat_cmp (entries m) ≡ b → T b → fin.is_sorted nat_cmp (entries m) ≡ true
      go true e t = e
      go false e t = absurd t

-- ---- the numbers that are taken
module _ (g : ℕ → Bool) where
  pub taken-rise : (ks : List ℕ) → Rises ks → Rises (filter g ks)
  taken-rise [] h = tt
  taken-rise (k ∷ ks) h = go (g k) (taken-rise ks h.1)
    where
      go : (b : Bool) → Rises (filter g ks) → Rises (cond b (k ∷ filter g ks) (filter g ks))
      go true r = (each-kept (λ j. k < j) g ks h.0, r)
      go false r = r

  pub next-taken : (from : ℕ) (ks : List ℕ) → next_such g from ks ≡ find (nat_le from) (filter g ks)
  next-taken from [] = refl
  next-taken from (k ∷ ks) = go (nat_le from k) (g k) refl (next-taken from ks)
    where
      go : (a b : Bool) → nat_le from k ≡ a → next_such g from ks ≡ find (nat_le from) (filter g ks)
          → cond (a && b) (Some k) (next_such g from ks) ≡ find (nat_le from) (cond b (k ∷ filter g ks) (filter g ks))
      go true true e r = sym (ap (λ c. cond c (Some k) (find (nat_le from) (filter g ks))) e)
      go false true e r = r ∙ sym (ap (λ c. cond c (Some k) (find (nat_le from) (filter g ks))) e)
      go true false e r = r
      go false false e r = r

  pub found-taken : (test : ℕ → Bool) (k : ℕ) (ks : List ℕ) → find test (filter g ks) ≡ Some k → g k ≡ true
  found-taken test k [] e = cc
  found-taken test k (x ∷ ks) e = go (g x) refl e (found-taken test k ks)
    where
      first : (a : Bool) → g x ≡ true → cond a (Some x) (find test (filter g ks)) ≡ Some k → (find test (filter g ks) ≡ Some k → g k ≡ true) → g k ≡ true
      first true h d again = let same : x ≡ k = cc in ap g (sym same) ∙ h
      first false h d again = again d

      go : (b : Bool) → g x ≡ b → find test (cond b (x ∷ filter g ks) (filter g ks)) ≡ Some k → (find test (filter g ks) ≡ Some k → g k ≡ true) → g k ≡ true
      go true h d again = first (test x) h d again
      go false h d again = again d

  pub taken-first : (test : ℕ → Bool) (ks : List ℕ) → filter g (filter test ks) ≡ filter test (filter g ks)
  taken-first test [] = refl
  taken-first test (k ∷ ks) = go (test k) (g k) refl refl (taken-first test ks)
    where
      go : (a b : Bool) → test k ≡ a → g k ≡ b → filter g (filter test ks) ≡ filter test (filter g ks)
          → filter g (cond a (k ∷ filter test ks) (filter test ks)) ≡ filter test (cond b (k ∷ filter g ks) (filter g ks))
      go true true e h r =
          ap (λ c. cond c (k ∷ filter g (filter test ks)) (filter g (filter test ks))) h
          ∙ (ap (λ xs. k ∷ xs) r ∙ sym (ap (λ c. cond c (k ∷ filter test (filter g ks)) (filter test (filter g ks))) e))
      go true false e h r = ap (λ c. cond c (k ∷ filter g (filter test ks)) (filter g (filter test ks))) h ∙ r
      go false true e h r = r ∙ sym (ap (λ c. cond c (k ∷ filter test (filter g ks)) (filter test (filter g ks))) e)
      go false false e h r = r

-- ---- lists of which all or none pass
module _ (test : ℕ → Bool) where
  pub kept-all : (ks : List ℕ) → Each (λ k. test k ≡ true) ks → filter test ks ≡ ks
  kept-all [] h = refl
  kept-all (k ∷ ks) h = ap (λ b. cond b (k ∷ filter test ks) (filter test ks)) h.0 ∙ ap (λ xs. k ∷ xs) (kept-all ks h.1)

  pub kept-none : (ks : List ℕ) → find test ks ≡ None → filter test ks ≡ []
  kept-none [] e = refl
  kept-none (k ∷ ks) e = go (test k) e (kept-none ks)
    where
      go : (b : Bool) → cond b (Some k) (find test ks) ≡ None → (find test ks ≡ None → filter test ks ≡ []) → cond b (k ∷ filter test ks) (filter test ks) ≡ []
      go true f r = cc
      go false f r = r f

-- ---- what stands above
pub all-above : (ks : List ℕ) → filter (is_above_last None) ks ≡ ks
all-above [] = refl
all-above (k ∷ ks) = ap (λ xs. k ∷ xs) (all-above ks)

abbrev pub none-above : (last : Option ℕ) (ks : List ℕ) → find (is_above_last last) ks ≡ None → filter (is_above_last last) ks ≡ []
none-above last ks e = kept-none (is_above_last last) ks e

higher : (last : Option ℕ) (k j : ℕ) → is_above_last last k ≡ true → k < j → is_above_last last j ≡ true
higher None k j e l = refl
higher (Some n) k j e l = grind (arith, nat_tests, e, l)

lower : (last : Option ℕ) (k x : ℕ) → is_above_last last x ≡ false → is_above_last last k ≡ true → nat_lt k x ≡ false
lower None k x e f = cc
lower (Some n) k x e f = grind (arith, nat_tests, e, f)

found-passes : (test : ℕ → Bool) (k : ℕ) (ks : List ℕ) → find test ks ≡ Some k → test k ≡ true
found-passes test k [] e = cc
found-passes test k (x ∷ ks) e = go (test x) refl e (found-passes test k ks)
  where
    go : (b : Bool) → test x ≡ b → cond b (Some x) (find test ks) ≡ Some k → (find test ks ≡ Some k → test k ≡ true) → test k ≡ true
    go true f h r = let same : x ≡ k = cc in ap test (sym same) ∙ f
    go false f h r = r h

above-itself : (k : ℕ) → nat_lt k k ≡ false
above-itself k = grind (arith, nat_tests)

below-passes : (k j : ℕ) → k < j → nat_lt k j ≡ true
below-passes k j l = grind (arith, nat_tests, l)

pub next-above : (last : Option ℕ) (k : ℕ) (ks : List ℕ) → Rises ks → find (is_above_last last) ks ≡ Some k → filter (is_above_last last) ks ≡ k ∷ filter (is_above_last (Some k)) ks
next-above last k [] h e = cc
next-above last k (x ∷ ks) h e = go (is_above_last last x) refl e (next-above last k ks h.1)
  where
    first : is_above_last last x ≡ true → x ≡ k → x ∷ filter (is_above_last last) ks ≡ k ∷ filter (is_above_last (Some k)) (x ∷ ks)
    first f same =
        let a = kept-all (is_above_last last) ks (each-then (λ j. x < j) (λ j. is_above_last last j ≡ true) ks (λ j l. higher last x j f l) h.0) in
        let b = kept-all (nat_lt x) ks (each-then (λ j. x < j) (λ j. nat_lt x j ≡ true) ks (λ j l. below-passes x j l) h.0) in
        let c = ap (λ t. cond t (x ∷ filter (nat_lt x) ks) (filter (nat_lt x) ks)) (above-itself x) in
        subst (λ (n : ℕ). x ∷ filter (is_above_last last) ks ≡ n ∷ filter (nat_lt n) (x ∷ ks)) same (ap (λ ys. x ∷ ys) (a ∙ sym (c ∙ b)))

    go : (b : Bool) → is_above_last last x ≡ b → cond b (Some x) (find (is_above_last last) ks) ≡ Some k
        → (find (is_above_last last) ks ≡ Some k → filter (is_above_last last) ks ≡ k ∷ filter (is_above_last (Some k)) ks)
        → cond b (x ∷ filter (is_above_last last) ks) (filter (is_above_last last) ks) ≡ k ∷ filter (is_above_last (Some k)) (x ∷ ks)
    go true f d again = first f (let same : x ≡ k = cc in same)
    go false f d again =
        let r = again d in
        let l = lower last k x f (found-passes (is_above_last last) k ks d) in
        r ∙ sym (ap (λ t. k ∷ cond t (x ∷ filter (nat_lt k) ks) (filter (nat_lt k) ks)) l)

-- ---- the least from the next number on, where no number reaches the limit
found-same : (p q : ℕ → Bool) (ks : List ℕ) → ((k : ℕ) → p k ≡ q k) → find p ks ≡ find q ks
found-same p q [] h = refl
found-same p q (k ∷ ks) h = ap (λ b. cond b (Some k) (find p ks)) (h k) ∙ ap (λ o. cond (q k) (Some k) o) (found-same p q ks h)

found-fewer : (p q : ℕ → Bool) (ks : List ℕ) → ((k : ℕ) → p k ≡ false → q k ≡ false) → find p ks ≡ None → find q ks ≡ None
found-fewer p q ks h e = none-found q ks (each-then (λ k. p k ≡ false) (λ k. q k ≡ false) ks h (none-passes p ks e))

from-none : (k : ℕ) → nat_le 0 k ≡ true
from-none k = grind (arith, nat_tests)

pub after-none : (ks : List ℕ) → find (nat_le 0) ks ≡ find (is_above_last None) ks
after-none ks = found-same (nat_le 0) (is_above_last None) ks from-none

next-same : (last k : ℕ) → nat_le (last + 1) k ≡ nat_lt last k
next-same last k = grind (arith, nat_tests)

past : (limit last k : ℕ) → limit ≤ last → nat_le limit k ≡ false → nat_lt last k ≡ false
past limit last k l e = grind (arith, nat_tests, l, e)

at-least : (limit k : ℕ) → nat_le limit k ≡ true → limit ≤ k
at-least limit k e = grind (arith, nat_tests, e)

module _ {N : Type 0} (number : N → ℕ) where
  at-limit : (limit last : ℕ) (ks : List ℕ) (o : Option N) → limit ≤ last → option_map number o ≡ find (nat_le limit) ks → IfSome o (λ n. number n < limit) → option_map number o ≡ find (nat_lt last) ks
  at-limit limit last ks None l e h = sym (found-fewer (nat_le limit) (nat_lt last) ks (λ k. past limit last k l) (sym e))
  at-limit limit last ks (Some n) l e h = absurd (let m = at-least limit (number n) (found-passes (nat_le limit) (number n) ks (sym e)) in omega (arith, m, h))

  pub after-last : (last limit from : ℕ) (ks : List ℕ) (o : Option N) → from ≡ min (last + 1) limit → option_map number o ≡ find (nat_le from) ks → IfSome o (λ n. number n < limit)
      → option_map number o ≡ find (nat_lt last) ks
  after-last last limit from ks o m e h = go (nat_lt last limit) refl
    where
      go : (b : Bool) → nat_lt last limit ≡ b → option_map number o ≡ find (nat_lt last) ks
      go true t =
          let n : from ≡ last + 1 = grind (arith, nat_tests, t, m) in
          e ∙ ap (λ (i : ℕ). find (nat_le i) ks) n ∙ found-same (nat_le (last + 1)) (nat_lt last) ks (next-same last)
      go false t =
          let n : from ≡ limit = grind (arith, nat_tests, t, m) in
          let l : limit ≤ last = grind (arith, nat_tests, t) in
          at-limit limit last ks o l (e ∙ ap (λ (i : ℕ). find (nat_le i) ks) n) h
