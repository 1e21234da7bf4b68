-- A map filled from entries that rise, one after another.
use Rattle.mck_word.specs.MapLaws.{at-none, at-put, same_rows}
use Rattle.mck_word.specs.Maps.{Map, at, entries, no_rows, put}
use Rattle.one_memory.proofs.Next.{find-below, find-here, find-other, head-of, tail-of}
use Rattle.std.proofs.Common.{◌≡◌, ℕ, false, cond, eqb, List, [], ◌∷◌, Option, Some, None, refl, sym, ap, ◌∙◌, inl, inr, arith}
use Rattle.std.proofs.lemmas.Bool.{cases_order, eq-eqb, lt-ltb, ne_eqb}
use Rattle.std.specs.FinMap as finmap
use Rattle.std.specs.FinMap.Entries.{find, is_sorted}
use Rattle.std.specs.Ordering.{nat_cmp}
use Rattle.std.specs.Prelude.{T}

module _ {V : Type 0} where
  abbrev pub or_else : Option V → Option V → Option V
  or_else None b = b
  or_else (Some v) b = Some v

  -- the rows are those of the whole map beside the entries that are left, which rise
  pub record IsFilling (left : List (ℕ × V)) (m whole : Map V) : Type 0 where
    pub rising : T (is_sorted nat_cmp left)
    pub rows : (q : ℕ) → or_else (find nat_cmp q left) (at m q) ≡ at whole q

  or-none : (o : Option V) → or_else o None ≡ o
  or-none None = refl
  or-none (Some v) = refl

  pub begins-filling : (m : Map V) → IsFilling (entries m) no_rows m
  begins-filling m = record {
    rising = finmap.entries_sorted m;
    rows = λ q. ap (or_else (find nat_cmp q (entries m))) (at-none q) ∙ (or-none (find nat_cmp q (entries m)) ∙ sym (finmap.get-entries m q));
  }

  pub is-filled : (m whole : Map V) → IsFilling [] m whole → m ≡ whole
  is-filled m whole h = same_rows m whole h.rows

  module _ (e : ℕ × V) (left : List (ℕ × V)) (m whole : Map V) (h : IsFilling (e ∷ left) m whole) where
    other : (q : ℕ) → eqb q e.0 ≡ false → find nat_cmp q (e ∷ left) ≡ find nat_cmp q left → or_else (find nat_cmp q left) (at (put m e.0 e.1) q) ≡ at whole q
    other q away same =
        ap (or_else (find nat_cmp q left)) (at-put m e.0 e.1 q ∙ ap (λ b. cond b (Some e.1) (at m q)) away)
        ∙ (ap (λ o. or_else o (at m q)) (sym same) ∙ h.rows q)

    pub fills-one : IsFilling left (put m e.0 e.1) whole
    fills-one = record {
      rising = tail-of e left h.rising;
      rows = λ q. elim (cases_order q e.0) [
        | inl same ↦
            let none = find-below e.0 q left (omega (arith, same)) (head-of e left h.rising) in
            let here = ap (λ n. find nat_cmp n (e ∷ left)) same ∙ find-here e left in
            (λ i. or_else (none i) ((at-put m e.0 e.1 q ∙ ap (λ b. cond b (Some e.1) (at m q)) (eq-eqb q e.0 same)) i))
            ∙ (sym (ap (λ o. or_else o (at m q)) here) ∙ h.rows q)
        | inr (inl below) ↦
            let same : find nat_cmp q (e ∷ left) ≡ find nat_cmp q left = rw (lt-ltb q e.0 below) refl in
            other q (ne_eqb q e.0 (omega (arith, below))) same
        | inr (inr above) ↦ other q (ne_eqb q e.0 (omega (arith, above))) (find-other q e left above)
      ];
    }
