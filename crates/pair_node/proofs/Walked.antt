-- Rising walks over the threads of a process, and over all threads.
use Rattle.key_rows.specs.Table.{key_from}
use Rattle.kernel_model.specs.declared.Does.{Does}
use Rattle.lwk_threads.specs.Threads.{Spared}
use Rattle.lwk_threads.specs.declared.Thread.{Thread}
use Rattle.mck_word.specs.Maps.{at}
use Rattle.number_groups.specs.Groups.{IsNext, NoneFrom, key_of}
use Rattle.number_groups.specs.Least.{IsFirst, IsLeast, NonePass, found-key}
use Rattle.pair_node.proofs.Lists.{listed-same}
use Rattle.pair_node.specs.Listed.{IsListed, Owners, if_left, owners, with_owner, without_gone}
use Rattle.pair_node.specs.declared.members.Members.{Members}
use Rattle.std.proofs.Common.{ap, arith, refl, subst, sym, ◌∙◌}
use Rattle.std.proofs.lemmas.Bool.Decides.{nat_tests}
use Rattle.std.specs.Prelude.{Bool, None, Option, Some, cond, false, is_some, nat_le, nat_lt, option_map, true, ℕ, ◌&&◌, ◌+◌, ◌==◌, ◌^◌, ◌≡◌, ◌≤◌}
use Rattle.thread_laws.specs.Members.{is_in as is_of}

pub of-some : (p : ℕ) (o : Option ℕ) → is_of p o ≡ true → o ≡ Some p
of-some p None e = absurd (grind (arith, e))
of-some p (Some q) e = let same : q ≡ p = grind (arith, nat_tests, e) in ap Some same

-- ---- the threads of process p
module _ (p : ℕ) (now f : Owners) where
  -- those below were looked at
  abbrev pub gone_below : ℕ → Owners
  gone_below from u = cond (nat_lt u from) (without_gone p now f u) (f u)

  pub none-yet : (u : ℕ) → gone_below 0 u ≡ f u
  none-yet u = let e : nat_lt u 0 ≡ false = grind (arith, nat_tests) in ap (λ b. cond b (without_gone p now f u) (f u)) e

  of-others : (u : ℕ) → is_of p (f u) ≡ false → without_gone p now f u ≡ f u
  of-others u e = ap (λ b. cond b (if_left now f u) (f u)) e

  looked-beyond : (from : ℕ) → ((u : ℕ) → from ≤ u → is_of p (f u) ≡ false) → (u : ℕ) → without_gone p now f u ≡ gone_below from u
  looked-beyond from h u = go (nat_lt u from) refl
    where
      go : (b : Bool) → nat_lt u from ≡ b → without_gone p now f u ≡ cond b (without_gone p now f u) (f u)
      go true e = refl
      go false e = of-others u (h u (grind (arith, nat_tests, e)))

  -- a list has no number that doesn't fit
  pub looked-at-last : (cores : ℕ) (m : Members) → IsListed f cores m → (from : ℕ) → 2 ^ 32 ≤ from → (u : ℕ) → without_gone p now f u ≡ gone_below from u
  looked-at-last cores m l from past = looked-beyond from (λ u up.
      let far : nat_lt u (2 ^ 32) ≡ false = grind (arith, nat_tests, past, up) in
      sym (l.by_process p u) ∙ ap (λ b. b && is_some (at m.by_process.map (key_of p u))) far)

  module _ (cores : ℕ) (m : Members) (from : ℕ) (l : IsListed (gone_below from) cores m) where
    above : (u : ℕ) → from ≤ u → gone_below from u ≡ f u
    above u up = let e : nat_lt u from ≡ false = grind (arith, nat_tests, up) in ap (λ b. cond b (without_gone p now f u) (f u)) e

    pub all-looked : NoneFrom m.by_process.map p from → (u : ℕ) → without_gone p now f u ≡ gone_below from u
    all-looked h = looked-beyond from (λ u up. ap (is_of p) (sym (above u up)) ∙ sym (l.by_process p u) ∙ h u up)

    module _ (t : ℕ) (n : IsNext m.by_process.map p from t) where
      next-of : gone_below from t ≡ Some p
      next-of = of-some p (gone_below from t) (sym (l.by_process p t) ∙ n.stands)

      was-of : f t ≡ Some p
      was-of = sym (above t n.from_there) ∙ next-of

      own-looked : gone_below (t + 1) t ≡ if_left now (gone_below from) t
      own-looked =
          let e : nat_lt t (t + 1) ≡ true = grind (arith, nat_tests) in
          let same : (p == p) ≡ true = grind (arith, nat_tests) in
          ap (λ b. cond b (without_gone p now f t) (f t)) e
          ∙ ap (λ b. cond b (if_left now f t) (f t)) (ap (is_of p) was-of ∙ same)
          ∙ ap (λ o. cond (is_some (now t)) o None) (sym (above t n.from_there))

      next-looked : (u : ℕ) → gone_below (t + 1) u ≡ with_owner t (if_left now (gone_below from) t) (gone_below from) u
      next-looked u = go (u == t) refl
        where
          others : (x y : Bool) → (u == t) ≡ false → nat_lt u from ≡ x → nat_lt u (t + 1) ≡ y → cond y (without_gone p now f u) (f u) ≡ cond x (without_gone p now f u) (f u)
          others true true e d g = refl
          others true false e d g = absurd (let up = n.from_there in grind (arith, nat_tests, e, d, g, up))
          others false false e d g = refl
          others false true e d g =
              let up : from ≤ u = grind (arith, nat_tests, d) in
              of-others u (ap (is_of p) (sym (above u up)) ∙ sym (l.by_process p u) ∙ n.least u up (grind (arith, nat_tests, e, g)))

          go : (b : Bool) → (u == t) ≡ b → gone_below (t + 1) u ≡ cond b (if_left now (gone_below from) t) (gone_below from u)
          go true e = let same : u ≡ t = grind (arith, nat_tests, e) in ap (gone_below (t + 1)) same ∙ own-looked
          go false e = others (nat_lt u from) (nat_lt u (t + 1)) e refl refl

      -- the lists once it was looked at, where it was taken out if it is gone
      pub looked : (after : Members) → ((g : Owners) → g t ≡ Some p → IsListed g cores m → IsListed (with_owner t (if_left now g t) g) cores after) → IsListed (gone_below (t + 1)) cores after
      looked after took = listed-same (with_owner t (if_left now (gone_below from) t) (gone_below from)) (gone_below (t + 1)) cores after next-looked (took (gone_below from) next-of l)

-- ---- the threads of a table
module _ (table : Spared Does) where
  -- those below were put in
  abbrev pub owners_below : ℕ → Owners
  owners_below from u = cond (nat_lt u from) (owners table u) None

  abbrev has : ℕ → Bool
  has k = is_some (at table.threads.rows k)

  pub none-below : (u : ℕ) → owners_below 0 u ≡ None
  none-below u = let e : nat_lt u 0 ≡ false = grind (arith, nat_tests) in ap (λ b. cond b (owners table u) None) e

  pub search-tells : (from : ℕ) (o : Option ℕ) → o ≡ key_from table.threads.rows from → IsFirst has (nat_le from) o
  search-tells from o e = subst (λ r. IsFirst has (nat_le from) r) (sym e) (found-key (nat_le from) table.threads.rows)

  absent : (u : ℕ) → (has u ≡ true → ⊥) → owners table u ≡ None
  absent u h = go (at table.threads.rows u) (λ e. h e)
    where
      go : (o : Option (Thread Does)) → (is_some o ≡ true → ⊥) → option_map (λ (x : Thread Does). x.pid.0) o ≡ None
      go None h = refl
      go (Some x) h = absurd (h refl)

  pub all-put : (from : ℕ) → NonePass has (nat_le from) → (u : ℕ) → owners table u ≡ owners_below from u
  all-put from h u = go (nat_lt u from) refl
    where
      go : (b : Bool) → nat_lt u from ≡ b → owners table u ≡ cond b (owners table u) None
      go true e = refl
      go false e = absent u (λ there. let low = h u there in grind (arith, nat_tests, e, low))

  module _ (from t : ℕ) (n : IsLeast has (nat_le from) t) where
    pub from-there : from ≤ t
    from-there = let up = n.passes in grind (arith, nat_tests, up)

    pub not-yet : owners_below from t ≡ None
    not-yet = let up = from-there in let e : nat_lt t from ≡ false = grind (arith, nat_tests, up) in ap (λ b. cond b (owners table t) None) e

    pub next-put : (u : ℕ) → owners_below (t + 1) u ≡ with_owner t (owners table t) (owners_below from) u
    next-put u = go (u == t) refl
      where
        own : owners_below (t + 1) t ≡ owners table t
        own = let e : nat_lt t (t + 1) ≡ true = grind (arith, nat_tests) in ap (λ b. cond b (owners table t) None) e

        others : (x y : Bool) → (u == t) ≡ false → nat_lt u from ≡ x → nat_lt u (t + 1) ≡ y → cond y (owners table u) None ≡ cond x (owners table u) None
        others true true e d g = refl
        others true false e d g = absurd (let up = from-there in grind (arith, nat_tests, e, d, g, up))
        others false false e d g = refl
        others false true e d g = absent u (λ there. let low = n.least u (grind (arith, nat_tests, e, g)) there in grind (arith, nat_tests, d, low))

        go : (b : Bool) → (u == t) ≡ b → owners_below (t + 1) u ≡ cond b (owners table t) (owners_below from u)
        go true e = let same : u ≡ t = grind (arith, nat_tests, e) in ap (owners_below (t + 1)) same ∙ own
        go false e = others (nat_lt u from) (nat_lt u (t + 1)) e refl refl
