-- The first for which a function gives something, number by number.
use Rattle.hybrid_model.specs.Pairs.{Pair}
use Rattle.hybrid_model.specs.declared.events.Event.{Event}
use Rattle.kernel_model.specs.Nodes.{ScriptLine}
use Rattle.mck_word.specs.Lists.{count_from}
use Rattle.pair_offers.proofs.Above.{Rises, next-above, none-above, taken-first}
use Rattle.pair_offers.specs.Seeking.{first_by}
use Rattle.run_model.specs.Walks.{core_event, first_event, is_above_last}
use Rattle.std.proofs.Common.{ap, arith, refl, sym, ◌∙◌}
use Rattle.std.specs.Prelude.{Bool, List, None, Option, Some, [], cond, drop, filter, find, length, map, option_map, slice_get, suc, true, false, zero, ℕ, ◌++◌, ◌+◌, ◌-◌, ◌<◌, ◌≡◌, ◌≤◌, ◌∷◌}

-- ---- one number after another
module _ {A : Type 0} (f : ℕ → Option A) where
  pub first-is : (n : ℕ) (ns : List ℕ) (a : A) → f n ≡ Some a → first_by f (n ∷ ns) ≡ Some a
  first-is n ns a e = ap (λ (o : Option A). elim o as (λ _. Option A) [ None ↦ first_by f ns | Some x ↦ Some x ]) e

  pub first-not : (n : ℕ) (ns : List ℕ) → f n ≡ None → first_by f (n ∷ ns) ≡ first_by f ns
  first-not n ns e = ap (λ (o : Option A). elim o as (λ _. Option A) [ None ↦ first_by f ns | Some x ↦ Some x ]) e

  module _ (last : Option ℕ) (ks : List ℕ) (rises : Rises ks) where
    pub above-is : (k : ℕ) (a : A) → find (is_above_last last) ks ≡ Some k → f k ≡ Some a → first_by f (filter (is_above_last last) ks) ≡ Some a
    above-is k a e h = ap (first_by f) (next-above last k ks rises e) ∙ first-is k (filter (is_above_last (Some k)) ks) a h

    pub above-not : (k : ℕ) → find (is_above_last last) ks ≡ Some k → f k ≡ None → first_by f (filter (is_above_last last) ks) ≡ first_by f (filter (is_above_last (Some k)) ks)
    above-not k e h = ap (first_by f) (next-above last k ks rises e) ∙ first-not k (filter (is_above_last (Some k)) ks) h

  pub above-none : (last : Option ℕ) (ks : List ℕ) → find (is_above_last last) ks ≡ None → first_by f (filter (is_above_last last) ks) ≡ None
  above-none last ks e = ap (first_by f) (none-above last ks e)

  -- the first of all is the first of those that are taken, where the others give nothing
  module _ (taken : ℕ → Bool) (others : (n : ℕ) → taken n ≡ false → f n ≡ None) where
    pub first-taken : (ns : List ℕ) → first_by f ns ≡ first_by f (filter taken ns)
    first-taken [] = refl
    first-taken (n ∷ ns) = go (taken n) refl (first-taken ns)
      where
        go : (b : Bool) → taken n ≡ b → first_by f ns ≡ first_by f (filter taken ns) → first_by f (n ∷ ns) ≡ first_by f (cond b (n ∷ filter taken ns) (filter taken ns))
        go true e r = ap (λ (rest : Option A). elim (f n) as (λ _. Option A) [ None ↦ rest | Some x ↦ Some x ]) r
        go false e r = first-not n ns (others n e) ∙ r

    pub above-taken : (last : Option ℕ) (ns : List ℕ) → first_by f (filter (is_above_last last) ns) ≡ first_by f (filter (is_above_last last) (filter taken ns))
    above-taken last ns = first-taken (filter (is_above_last last) ns) ∙ ap (first_by f) (taken-first taken (is_above_last last) ns)

-- fewer are left above the one that was found
pub fewer-above : (last : Option ℕ) (k : ℕ) (ks : List ℕ) → Rises ks → find (is_above_last last) ks ≡ Some k → length (filter (is_above_last (Some k)) ks) < length (filter (is_above_last last) ks)
fewer-above last k ks h e =
    let a : length (filter (is_above_last last) ks) ≡ suc (length (filter (is_above_last (Some k)) ks)) = ap (λ (ns : List ℕ). length ns) (next-above last k ks h e) in
    omega (arith, a)

-- ---- the same in the words of searches
module _ {E : Type 0} (test : E → Bool) (f : ℕ → E) where
  pub find-by : (ks : List ℕ) → find test (map f ks) ≡ first_by (λ k. find test (f k ∷ [])) ks
  find-by [] = refl
  find-by (k ∷ ks) = go (test (f k)) (find-by ks)
    where
      go : (b : Bool) → find test (map f ks) ≡ first_by (λ j. find test (f j ∷ [])) ks
          → cond b (Some (f k)) (find test (map f ks)) ≡ elim (cond b (Some (f k)) None) as (λ _. Option E) [ None ↦ first_by (λ j. find test (f j ∷ [])) ks | Some a ↦ Some a ]
      go true e = refl
      go false e = e

  pub find-kept : (g : ℕ → Bool) (ks : List ℕ) → find test (map f (filter g ks)) ≡ first_by (λ k. cond (g k) (find test (f k ∷ [])) None) ks
  find-kept g [] = refl
  find-kept g (k ∷ ks) = go (g k) (test (f k)) refl (find-kept g ks)
    where
      go : (c b : Bool) → test (f k) ≡ b → find test (map f (filter g ks)) ≡ first_by (λ j. cond (g j) (find test (f j ∷ [])) None) ks
          → find test (map f (cond c (k ∷ filter g ks) (filter g ks))) ≡ elim (cond c (find test (f k ∷ [])) None) as (λ _. Option E) [ None ↦ first_by (λ j. cond (g j) (find test (f j ∷ [])) None) ks | Some a ↦ Some a ]
      go false b t e = e
      go true true t e =
          ap (λ d. cond d (Some (f k)) (find test (map f (filter g ks)))) t
          ∙ sym (ap (λ d. elim (cond d (Some (f k)) None) as (λ _. Option E) [ None ↦ first_by (λ j. cond (g j) (find test (f j ∷ [])) None) ks | Some a ↦ Some a ]) t)
      go true false t e =
          ap (λ d. cond d (Some (f k)) (find test (map f (filter g ks)))) t
          ∙ (e ∙ sym (ap (λ d. elim (cond d (Some (f k)) None) as (λ _. Option E) [ None ↦ first_by (λ j. cond (g j) (find test (f j ∷ [])) None) ks | Some a ↦ Some a ]) t))

pub event-by : (pair : Pair) (core : ℕ) (ts : List ℕ) → first_event pair core ts ≡ first_by (core_event pair core) ts
event-by pair core [] = refl
event-by pair core (t ∷ ts) = ap (λ (rest : Option Event). elim (core_event pair core t) as (λ _. Option Event) [ None ↦ rest | Some e ↦ Some e ]) (event-by pair core ts)

-- ---- a list after another
module _ {E : Type 0} (test : E → Bool) where
  pub found-first : (xs ys : List E) (x : E) → find test xs ≡ Some x → find test (xs ++ ys) ≡ Some x
  found-first [] ys x e = cc
  found-first (y ∷ xs) ys x e = go (test y) e (found-first xs ys x)
    where
      go : (b : Bool) → cond b (Some y) (find test xs) ≡ Some x → (find test xs ≡ Some x → find test (xs ++ ys) ≡ Some x) → cond b (Some y) (find test (xs ++ ys)) ≡ Some x
      go true f r = f
      go false f r = r f

  pub found-behind : (xs ys : List E) → find test xs ≡ None → find test (xs ++ ys) ≡ find test ys
  found-behind [] ys e = refl
  found-behind (y ∷ xs) ys e = go (test y) e (found-behind xs ys)
    where
      go : (b : Bool) → cond b (Some y) (find test xs) ≡ None → (find test xs ≡ None → find test (xs ++ ys) ≡ find test ys) → cond b (Some y) (find test (xs ++ ys)) ≡ find test ys
      go true f r = cc
      go false f r = r f

-- ---- numbers below a count
abbrev pub below : ℕ → ℕ → List ℕ
below from total = count_from from (total - from)

pub below-all : (total : ℕ) → below 0 total ≡ count_from 0 total
below-all total = let e : total - 0 ≡ total = omega arith in ap (λ (n : ℕ). count_from 0 n) e

pub below-split : (from total : ℕ) → from < total → below from total ≡ from ∷ below (from + 1) total
below-split from total h = let e : total - from ≡ suc (total - (from + 1)) = omega arith in ap (λ (n : ℕ). count_from from n) e

pub below-none : (from total : ℕ) → total ≤ from → below from total ≡ []
below-none from total h = let e : total - from ≡ 0 = omega arith in ap (λ (n : ℕ). count_from from n) e

-- ---- the lines of the script, place by place
module _ {E : Type 0} (test : E → Bool) (f : ℕ → E) where
  abbrev from_lines : List ScriptLine → List E
  from_lines ls = map (λ (l : ScriptLine). f l.index) ls

  abbrev index_at : List ScriptLine → ℕ → Option ℕ
  index_at ls i = option_map (λ (l : ScriptLine). l.index) (slice_get ls i)

  pub index-below : (ls : List ScriptLine) (i n : ℕ) → option_map (λ (l : ScriptLine). l.index) (slice_get ls i) ≡ Some n → i < length ls
  index-below [] i n e = cc
  index-below (l ∷ ls) zero n e = omega arith
  index-below (l ∷ ls) (suc i) n e = let h = index-below ls i n e in omega (arith, h)

  pub index-is : (ls : List ScriptLine) (i n : ℕ) (x : E) → option_map (λ (l : ScriptLine). l.index) (slice_get ls i) ≡ Some n → find test (f n ∷ []) ≡ Some x
      → find test (map (λ (l : ScriptLine). f l.index) (drop i ls)) ≡ Some x
  index-is [] i n x e h = cc
  index-is (l ∷ ls) zero n x e h = found-first test (f l.index ∷ []) (from_lines ls) x (let same : l.index ≡ n = cc in ap (λ (k : ℕ). find test (f k ∷ [])) same ∙ h)
  index-is (l ∷ ls) (suc i) n x e h = index-is ls i n x e h

  pub index-not : (ls : List ScriptLine) (i n : ℕ) → option_map (λ (l : ScriptLine). l.index) (slice_get ls i) ≡ Some n → find test (f n ∷ []) ≡ None
      → find test (map (λ (l : ScriptLine). f l.index) (drop i ls)) ≡ find test (map (λ (l : ScriptLine). f l.index) (drop (i + 1) ls))
  index-not [] i n e h = cc
  index-not (l ∷ ls) zero n e h = found-behind test (f l.index ∷ []) (from_lines ls) (let same : l.index ≡ n = cc in ap (λ (k : ℕ). find test (f k ∷ [])) same ∙ h)
  index-not (l ∷ ls) (suc i) n e h =
      let m : suc i + 1 ≡ suc (i + 1) = omega arith in
      index-not ls i n e h ∙ ap (λ (j : ℕ). find test (from_lines (drop j (l ∷ ls)))) (sym m)

  pub index-none : (ls : List ScriptLine) (i : ℕ) → option_map (λ (l : ScriptLine). l.index) (slice_get ls i) ≡ None → find test (map (λ (l : ScriptLine). f l.index) (drop i ls)) ≡ None
  index-none [] zero e = refl
  index-none [] (suc i) e = refl
  index-none (l ∷ ls) zero e = cc
  index-none (l ∷ ls) (suc i) e = index-none ls i e
