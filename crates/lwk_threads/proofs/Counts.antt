-- How many rows of a map pass a test, when a row comes, goes or changes.
use Rattle.key_rows.specs.Laws.{get-removed, insert-removed}
use Rattle.lwk_threads.specs.Threads.{one_if}
use Rattle.mck_word.specs.MapLaws.{at-put, same_rows}
use Rattle.mck_word.specs.Maps.{Map, at, cut, no_rows, put, values, entries}
use Rattle.std.proofs.Common.{◌≡◌, ◌+◌, ℕ, Bool, true, false, cond, List, [], ◌∷◌, length, Some, None, refl, sym, ap, ◌∙◌, inl, inr, arith}
use Rattle.std.proofs.lemmas.Bool.{cases_eq, eq-eqb, ne_eqb, true≢false}
use Rattle.std.specs.Cmp.{nat_cmp_total}
use Rattle.std.specs.FinMap as map
use Rattle.std.specs.FinMap.{find, put as put_entry}
use Rattle.std.specs.FinMap.Entries.{by_order}
use Rattle.std.specs.Ordering.{is_eq, nat_cmp}
use Rattle.std.specs.Prelude.{filter, is_some, map as map_list}
use Rattle.std.specs.declared.cmp.Ordering.TheVariants.{Equal, Greater, Less}

module _ {V : Type 0} (t : V → Bool) where
  abbrev pub passing : List V → ℕ
  passing xs = length (filter t xs)

  passing-cons : (x : V) (xs : List V) → passing (x ∷ xs) ≡ one_if (t x) + passing xs
  passing-cons x xs = elim (t x) as (λ b. length (cond b (x ∷ filter t xs) (filter t xs)) ≡ one_if b + length (filter t xs)) [ true ↦ omega arith | false ↦ omega arith ]

  passing-put_entry : (k : ℕ) (v : V) (es : List (ℕ × V)) → find nat_cmp k es ≡ None → passing (map_list (λ e. e.1) (put_entry nat_cmp k v es)) ≡ passing (map_list (λ e. e.1) es) + one_if (t v)
  passing-put_entry k v [] n = passing-cons v [] ∙ omega arith
  passing-put_entry k v (e ∷ es) n =
      elim (nat_cmp k e.0) as (λ o. cond (is_eq o) (Some e.1) (find nat_cmp k es) ≡ None → passing (map_list (λ e. e.1) (by_order o ((k, v) ∷ e ∷ es) ((e.0, v) ∷ es) (e ∷ put_entry nat_cmp k v es))) ≡ passing (e.1 ∷ map_list (λ e. e.1) es) + one_if (t v)) [
        | Less ↦ λ n. passing-cons v (e.1 ∷ map_list (λ e. e.1) es) ∙ omega arith
        | Equal ↦ λ n. absurd (true≢false (ap is_some n))
        | Greater ↦ λ n. passing-cons e.1 (map_list (λ e. e.1) (put_entry nat_cmp k v es)) ∙ (
            let rest = passing-put_entry k v es n in
            let first = passing-cons e.1 (map_list (λ e. e.1) es) in
            omega arith)
      ] n

  -- a row comes
  pub passing-put : (m : Map V) (k : ℕ) (v : V) → at m k ≡ None → passing (values (put m k v)) ≡ passing (values m) + one_if (t v)
  passing-put m k v n = ap (λ es. passing (map_list (λ e. e.1) es)) (map.entries-insert nat_cmp_total m k v) ∙ passing-put_entry k v (entries m) (sym (map.get-entries m k) ∙ n)

  put-same : (m : Map V) (k : ℕ) (v : V) → at m k ≡ Some v → put m k v ≡ m
  put-same m k v h = same_rows _ _ (λ q. at-put m k v q ∙ elim (cases_eq q k) [
    | inl e ↦ rw (eq-eqb q k e) (sym (ap (at m) e ∙ h))
    | inr o ↦ rw (ne_eqb q k o) refl
  ])

  -- a row goes
  pub passing-cut : (m : Map V) (k : ℕ) (v : V) → at m k ≡ Some v → passing (values (cut m k)) + one_if (t v) ≡ passing (values m)
  passing-cut m k v h = sym (passing-put (cut m k) k v (get-removed m k)) ∙ ap (λ m. passing (values m)) (insert-removed m k v ∙ put-same m k v h)

  -- a row changes
  pub passing-change : (m : Map V) (k : ℕ) (v w : V) → at m k ≡ Some v → t w ≡ t v → passing (values (put m k w)) ≡ passing (values m)
  passing-change m k v w h same =
      ap (λ m. passing (values m)) (sym (insert-removed m k w)) ∙ passing-put (cut m k) k w (get-removed m k)
      ∙ ap (λ b. passing (values (cut m k)) + one_if b) same ∙ passing-cut m k v h

  pub passing-none : passing (values (no_rows {V = V})) ≡ 0
  passing-none = none (entries no_rows) (sym (map.len-entries no_rows) ∙ map.len-empty nat_cmp V)
    where
      none : (es : List (ℕ × V)) → length es ≡ 0 → passing (map_list (λ e. e.1) es) ≡ 0
      none [] h = refl
      none (e ∷ es) h = absurd (omega arith)
