-- What stands at a key's place in entries that rise, and what an edit there does.
use Rattle.file_tree.specs.Tags.{place}
use Rattle.std.proofs.Common.{◌≡◌, ◌≢◌, ℕ, zero, suc, ◌<◌, ◌≤◌, Bool, true, false, cond, not, List, [], ◌∷◌, length, get_or, Some, None, refl, sym, ap, subst, ◌∙◌, arith}
use Rattle.std.specs.Cmp.{IsTotalOrder}
use Rattle.std.specs.FinMap.{IsAntisymmetric}
use Rattle.std.specs.FinMap.Entries.{below_all, by_order, find, is_sorted, put, where_key}
use Rattle.std.specs.List.{insert, remove}
use Rattle.std.specs.Ordering.{eq_by_cmp, is_eq, is_gt, is_lt, ordering_reverse}
use Rattle.std.specs.Prelude.{T, is_some, ◌&&◌}
use Rattle.std.specs.declared.cmp.Ordering.TheVariants.{Equal, Greater, Less}
use Rattle.std.specs.declared.cmp.Ordering.{Ordering}

first-true : (a b : Bool) → T (a && b) → T a
first-true true b h = tt
first-true false b h = absurd h

second-true : (a b : Bool) → T (a && b) → T b
second-true true b h = h
second-true false b h = absurd h

both-true : (a b : Bool) → T a → T b → T (a && b)
both-true true b h k = k
both-true false b h k = absurd h

is-less : (o : Ordering) → T (is_lt o) → o ≡ Less
is-less Less h = refl
is-less Equal h = absurd h
is-less Greater h = absurd h

is-greater : (o : Ordering) → T (is_gt o) → o ≡ Greater
is-greater Less h = absurd h
is-greater Equal h = absurd h
is-greater Greater h = refl

module _ {K : Type 0} (R : K → K → Ordering) (total : IsTotalOrder R) where
  turned : (x y : K) → R x y ≡ Greater → R y x ≡ Less
  turned x y e = total.antisymm y x ∙ ap ordering_reverse e

  turned-less : (x y : K) → R x y ≡ Less → R y x ≡ Greater
  turned-less x y e = total.antisymm y x ∙ ap ordering_reverse e

  pub tied : (q : K) → R q q ≡ Equal
  tied q = go (R q q) refl
    where
      go : (o : Ordering) → R q q ≡ o → R q q ≡ Equal
      go Equal e = e
      go Less e = absurd (subst (λ (o : Ordering). T (is_lt o)) (sym e ∙ turned-less q q e) tt)
      go Greater e = absurd (subst (λ (o : Ordering). T (is_gt o)) (sym e ∙ turned q q e) tt)

module _ {K X : Type 0} (R : K → K → Ordering) (total : IsTotalOrder R) (same : IsAntisymmetric R) where
  pub place-le : (q : K) (es : List (K × X)) → place R q es ≤ length es
  place-le q [] = omega arith
  place-le q (e ∷ es) = let rest = place-le q es in elim (is_gt (R q e.0)) as (λ b. cond b (suc (place R q es)) 0 ≤ suc (length es)) [ true ↦ omega arith | false ↦ omega arith ]

  pub head-below : (e : K × X) (es : List (K × X)) → T (is_sorted R (e ∷ es)) → T (below_all R e.0 es)
  head-below e es s = first-true _ _ s

  pub tail-sorted : (e : K × X) (es : List (K × X)) → T (is_sorted R (e ∷ es)) → T (is_sorted R es)
  tail-sorted e es s = second-true (below_all R e.0 es) _ s

  -- an entry stands above what is below all
  pub above : (x : K) (es : List (K × X)) (i : ℕ) (d : K × X) → T (below_all R x es) → i < length es → R x (get_or es i d).0 ≡ Less
  above x [] i d s h = absurd (omega arith)
  above x (e ∷ es) zero d s h = is-less _ (first-true _ _ s)
  above x (e ∷ es) (suc i) d s h = above x es i d (second-true (is_lt (R x e.0)) _ s) (omega arith)

  -- an entry below the key stands before its place, and another one doesn't
  pub place-above : (q : K) (i : ℕ) (es : List (K × X)) (d : K × X) → T (is_sorted R es) → i < length es → R q (get_or es i d).0 ≡ Greater → i < place R q es
  place-above q i [] d s h l = absurd (omega arith)
  place-above q zero (e ∷ es) d s h l = rw l (omega arith)
  place-above q (suc i) (e ∷ es) d s h l =
      let rest = place-above q i es d (tail-sorted e es s) (omega arith) l in
      let under = above e.0 es i d (head-below e es s) (omega arith) in
      let here = turned-less R total e.0 q (total.trans e.0 (get_or es i d).0 q under (turned R total q (get_or es i d).0 l)) in
      rw here (omega arith)

  pub place-below : (q : K) (i : ℕ) (es : List (K × X)) (d : K × X) → i < length es → is_gt (R q (get_or es i d).0) ≡ false → place R q es ≤ i
  place-below q i [] d h g = absurd (omega arith)
  place-below q zero (e ∷ es) d h g = rw g (omega arith)
  place-below q (suc i) (e ∷ es) d h g =
      let rest = place-below q i es d (omega arith) g in
      elim (is_gt (R q e.0)) as (λ b. cond b (suc (place R q es)) 0 ≤ suc i) [ true ↦ omega arith | false ↦ omega arith ]

  pub find-at : (q : K) (es : List (K × X)) (d : K × X) → place R q es < length es → (get_or es (place R q es) d).0 ≡ q → find R q es ≡ Some (get_or es (place R q es) d).1
  find-at q [] d h e = absurd (omega arith)
  find-at q (x ∷ es) d h e =
      elim (R q x.0) as (λ o. R q x.0 ≡ o → cond (is_gt o) (suc (place R q es)) 0 < suc (length es) → (get_or (x ∷ es) (cond (is_gt o) (suc (place R q es)) 0) d).0 ≡ q
      → cond (is_eq o) (Some x.1) (find R q es) ≡ Some (get_or (x ∷ es) (cond (is_gt o) (suc (place R q es)) 0) d).1) [
        | Less ↦ λ o h e. absurd (subst (λ (r : Ordering). T (is_lt r)) (sym o ∙ ap (R q) e ∙ tied R total q) tt)
        | Equal ↦ λ o h e. refl
        | Greater ↦ λ o h e. find-at q es d (omega arith) e
      ] refl h e

  below-less : (q x : K) (es : List (K × X)) → R q x ≡ Less → T (below_all R x es) → T (below_all R q es)
  below-less q x [] l s = tt
  below-less q x (e ∷ es) l s =
      both-true _ _ (subst (λ (o : Ordering). T (is_lt o)) (sym (total.trans q x e.0 l (is-less _ (first-true _ _ s)))) tt) (below-less q x es l (second-true (is_lt (R x e.0)) _ s))

  pub find-under : (q : K) (es : List (K × X)) → T (below_all R q es) → find R q es ≡ None
  find-under q [] s = refl
  find-under q (e ∷ es) s = rw (is-less (R q e.0) (first-true _ _ s)) (find-under q es (second-true (is_lt (R q e.0)) _ s))

  pub find-missing : (q : K) (es : List (K × X)) (d : K × X) → T (is_sorted R es) → (place R q es < length es → (get_or es (place R q es) d).0 ≢ q) → find R q es ≡ None
  find-missing q [] d s h = refl
  find-missing q (x ∷ es) d s h =
      elim (R q x.0) as (λ o. R q x.0 ≡ o → (cond (is_gt o) (suc (place R q es)) 0 < suc (length es) → (get_or (x ∷ es) (cond (is_gt o) (suc (place R q es)) 0) d).0 ≢ q) → cond (is_eq o) (Some x.1) (find R q es) ≡ None) [
        | Less ↦ λ o h. find-under q es (below-less q x.0 es o (head-below x es s))
        | Equal ↦ λ o h. absurd (h (omega arith) (sym (same q x.0 o)))
        | Greater ↦ λ o h. find-missing q es d (tail-sorted x es s) (λ l. h (omega arith))
      ] refl h

  pub put-absent : (q : K) (v : X) (es : List (K × X)) → find R q es ≡ None → put R q v es ≡ insert es (place R q es) (q, v)
  put-absent q v [] n = refl
  put-absent q v (e ∷ es) n =
      elim (R q e.0) as (λ o. cond (is_eq o) (Some e.1) (find R q es) ≡ None → by_order o ((q, v) ∷ e ∷ es) ((e.0, v) ∷ es) (e ∷ put R q v es) ≡ insert (e ∷ es) (cond (is_gt o) (suc (place R q es)) 0) (q, v)) [
        | Less ↦ λ n. refl
        | Equal ↦ λ n. absurd (subst (λ o. T (is_some o)) n tt)
        | Greater ↦ λ n. ap (λ t. e ∷ t) (put-absent q v es n)
      ] n

  others : (q : K) (es : List (K × X)) → T (below_all R q es) → where_key R (λ x. not (eq_by_cmp R q x)) es ≡ es
  others q [] s = refl
  others q (e ∷ es) s = rw (is-less (R q e.0) (first-true _ _ s)) (ap (λ t. e ∷ t) (others q es (second-true (is_lt (R q e.0)) _ s)))

  pub without-at : (q : K) (es : List (K × X)) → T (is_sorted R es) → T (is_some (find R q es)) → where_key R (λ x. not (eq_by_cmp R q x)) es ≡ remove es (place R q es)
  without-at q [] s h = absurd h
  without-at q (e ∷ es) s h =
      elim (R q e.0) as (λ o. R q e.0 ≡ o → T (is_some (cond (is_eq o) (Some e.1) (find R q es))) → cond (not (is_eq o)) (e ∷ where_key R (λ x. not (eq_by_cmp R q x)) es) (where_key R (λ x. not (eq_by_cmp R q x)) es) ≡ remove (e ∷ es) (cond (is_gt o) (suc (place R q es)) 0)) [
        | Less ↦ λ o h. absurd (subst (λ o. T (is_some o)) (find-under q es (below-less q e.0 es o (head-below e es s))) h)
        | Equal ↦ λ o h. others q es (subst (λ (j : K). T (below_all R j es)) (sym (same q e.0 o)) (head-below e es s))
        | Greater ↦ λ o h. ap (λ t. e ∷ t) (without-at q es (tail-sorted e es s) h)
      ] refl h

  -- a key that is found stands at its place
  pub found-at : (q : K) (es : List (K × X)) → T (is_sorted R es) → T (is_some (find R q es)) → place R q es < length es
  found-at q [] s h = absurd h
  found-at q (e ∷ es) s h =
      elim (R q e.0) as (λ o. R q e.0 ≡ o → T (is_some (cond (is_eq o) (Some e.1) (find R q es))) → cond (is_gt o) (suc (place R q es)) 0 < suc (length es)) [
        | Less ↦ λ o h. omega arith
        | Equal ↦ λ o h. omega arith
        | Greater ↦ λ o h. omega (arith, found-at q es (tail-sorted e es s) h)
      ] refl h
