-- The row before a number's place is the last one below it.
use Rattle.isa_model.specs.Memory.{Memory, Page}
use Rattle.key_rows.proofs.Placed.{below-of, find-missing, least-below, place-above, place-below, place-le, tail-of}
use Rattle.key_rows.specs.Places.{place}
use Rattle.mck_word.specs.Maps.{entries}
use Rattle.one_memory.specs.Below.{IsLastBelow, NoneBelow}
use Rattle.std.proofs.Common.{◌≡◌, ℕ, zero, suc, ◌-◌, ◌<◌, ◌≤◌, true, List, [], ◌∷◌, length, get_or, None, refl, sym, ap, ◌∙◌, inl, inr, arith}
use Rattle.std.proofs.lemmas.Bool.{cases_lt, eq-eqb, le-ltb, ne_eqb}
use Rattle.std.specs.FinMap as finmap
use Rattle.std.specs.FinMap.Entries.{find, is_sorted}
use Rattle.std.specs.Ordering.{nat_cmp}
use Rattle.std.specs.Prelude.{T, is_some}

-- a row's key is found
has-row : (es : List (ℕ × Page)) (i : ℕ) (d : ℕ × Page) → T (is_sorted nat_cmp es) → i < length es → is_some (find nat_cmp (get_or es i d).0 es) ≡ true
has-row [] i d s l = absurd (omega arith)
has-row (e ∷ es) zero d s l = rw (le-ltb e.0 e.0 (omega arith), eq-eqb e.0 e.0 refl) refl
has-row (e ∷ es) (suc i) d s l =
    let k : ℕ = (get_or es i d).0 in
    let high = least-below e.0 es i d (below-of e es s) (omega (arith, l)) in
    let rest = has-row es i d (tail-of e es s) (omega (arith, l)) in
    rw (le-ltb k e.0 (omega (arith, high)), ne_eqb k e.0 (omega (arith, high))) rest

module _ (es : List (ℕ × Page)) (end : ℕ) (d : ℕ × Page) (s : T (is_sorted nat_cmp es)) where
  -- no row has the key where none of the first rows has it
  missing : (k i : ℕ) → k < end → place end es ≡ i → (1 ≤ i → (get_or es (i - 1) d).0 < k) → find nat_cmp k es ≡ None
  missing k i l is high = find-missing k es d s (λ within same.
      let before = place-above end (place k es) es d s within (omega (arith, same, l)) in
      let most = place-le end es in
      let after = place-above k (i - 1) es d s (omega (arith, before, most, is)) (high (omega (arith, before, is))) in
      omega (arith, before, after, is))

pub none-below : (m : Memory) (es : List (ℕ × Page)) (end i : ℕ) → es ≡ entries m → T (is_sorted nat_cmp es) → i ≡ place end es → i ≡ 0 → NoneBelow m end
none-below m es end i e s is z k l =
    finmap.get-entries m k ∙ ap (find nat_cmp k) (sym e) ∙ missing es end (0, record { rights = record { 0 = 0 }; bytes = [] }) s k i l (sym is) (λ some. absurd (omega (arith, some, z)))

pub last-below : (m : Memory) (es : List (ℕ × Page)) (end i : ℕ) (d : ℕ × Page) → es ≡ entries m → T (is_sorted nat_cmp es) → i ≡ place end es → i ≤ length es → 1 ≤ i → IsLastBelow m end (get_or es (i - 1) d).0
last-below m es end i d e s is within some = record {
  below = elim (cases_lt (get_or es (i - 1) d).0 end) [
    | inl l ↦ l
    | inr g ↦ absurd (let p = place-below end (i - 1) es d (omega (arith, within, some)) g in omega (arith, p, is, some))
  ];
  there = ap is_some (finmap.get-entries m (get_or es (i - 1) d).0 ∙ ap (find nat_cmp (get_or es (i - 1) d).0) (sym e)) ∙ has-row es (i - 1) d s (omega (arith, within, some));
  last = λ k low high. finmap.get-entries m k ∙ ap (find nat_cmp k) (sym e) ∙ missing es end d s k i high (sym is) (λ _. low);
}
