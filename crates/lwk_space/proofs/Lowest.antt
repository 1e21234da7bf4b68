-- The lowest row of a map stands first among its entries.
use Rattle.hybrid_model.specs.Sides.{Row}
use Rattle.hybrid_model.specs.Spaces.{freed, freed_rows}
use Rattle.lwk_space.proofs.OnePage.{insert-same}
use Rattle.key_rows.specs.Table.{key_from}
use Rattle.mck_word.specs.Lists.{insert_by}
use Rattle.mck_word.specs.MapLaws.{at-cut, at-none, at-put, same_rows}
use Rattle.mck_word.specs.Maps.{Map, at, cut, entries, no_rows, put}
use Rattle.mck_word.specs.declared.Frame.{Frame}
use Rattle.page_map.specs.NextLaws.{next-none}
use Rattle.std.proofs.Common.{ap, arith, inl, inr, refl, sym, ◌∙◌}
use Rattle.std.proofs.lemmas.Bool.{cases_eq, cases_order, eq-eqb, le-ltb, lt-ltb, ne_eqb}
use Rattle.std.specs.Cmp.{nat_cmp_total}
use Rattle.std.specs.FinMap as finmap
use Rattle.std.specs.FinMap.Entries as fin
use Rattle.std.specs.Ordering.{nat_cmp}
use Rattle.std.specs.Prelude.{List, None, Option, Some, [], cond, is_some, length, nat_lt, option_map, ℕ, ◌+◌, ◌<◌, ◌∷◌, ◌≡◌}

module _ {V : Type 0} where
  put-least : (k : ℕ) (v : V) (es : List (ℕ × V)) → ((e : ℕ × V) (rest : List (ℕ × V)) → es ≡ e ∷ rest → k < e.0) → fin.put nat_cmp k v es ≡ (k, v) ∷ es
  put-least k v [] h = refl
  put-least k v (e ∷ es) h = rw (lt-ltb k e.0 (h e es refl)) refl

  find-here : (e : ℕ × V) (es : List (ℕ × V)) → fin.find nat_cmp e.0 (e ∷ es) ≡ Some e.1
  find-here e es = rw (le-ltb e.0 e.0 (omega arith), eq-eqb e.0 e.0 refl) refl

  head-there : (m : Map V) (e : ℕ × V) (es : List (ℕ × V)) → entries m ≡ e ∷ es → at m e.0 ≡ Some e.1
  head-there m e es h = finmap.get-entries m e.0 ∙ ap (fin.find nat_cmp e.0) h ∙ find-here e es

  back : (m : Map V) (k : ℕ) (v : V) → at m k ≡ Some v → put (cut m k) k v ≡ m
  back m k v there = same_rows _ _ (λ j. at-put (cut m k) k v j ∙ elim (cases_eq j k) [
    | inl e ↦ ap (λ b. cond b (Some v) (at (cut m k) j)) (eq-eqb j k e) ∙ sym (ap (at m) e ∙ there)
    | inr o ↦ ap (λ b. cond b (Some v) (at (cut m k) j)) (ne_eqb j k o) ∙ (at-cut m k j ∙ ap (λ b. cond b None (at m j)) (ne_eqb j k o))
  ])

  at-itself : (m : Map V) (k : ℕ) → at (cut m k) k ≡ None
  at-itself m k = at-cut m k k ∙ ap (λ b. cond b None (at m k)) (eq-eqb k k refl)

  above : (m : Map V) (k : ℕ) → ((j : ℕ) → j < k → at m j ≡ None) → (e : ℕ × V) (rest : List (ℕ × V)) → entries (cut m k) ≡ e ∷ rest → k < e.0
  above m k least e rest h =
      let there = head-there (cut m k) e rest h in
      elim (cases_order k e.0) [
        | inl same ↦ absurd (let off = ap (at (cut m k)) (sym same) ∙ at-itself m k in cc)
        | inr (inl low) ↦ low
        | inr (inr high) ↦ absurd (let off = (at-cut m k e.0 ∙ ap (λ b. cond b None (at m e.0)) (ne_eqb e.0 k (λ q. absurd (omega arith)))) ∙ least e.0 high in cc)
      ]

  pub lowest-first : (m : Map V) (k : ℕ) (v : V) → at m k ≡ Some v → ((j : ℕ) → j < k → at m j ≡ None) → entries m ≡ (k, v) ∷ entries (cut m k)
  lowest-first m k v there least =
      ap (λ (n : Map V). entries n) (sym (back m k v there)) ∙ finmap.entries-insert nat_cmp_total (cut m k) k v ∙ put-least k v (entries (cut m k)) (above m k least)

  pub no-key : (m : Map V) → key_from m 0 ≡ None → m ≡ no_rows
  no-key m e = same_rows _ _ (λ q. next-none m 0 e q (omega arith) ∙ sym (at-none q))

  pub fewer : (m : Map V) (k : ℕ) (v : V) → at m k ≡ Some v → finmap.len (cut m k) < finmap.len m
  fewer m k v there =
      let a = finmap.len-insert nat_cmp_total (cut m k) k v in
      let b = ap (λ (n : Map V). finmap.len n) (back m k v there) in
      let c = ap (λ (o : Option V). cond (is_some o) (finmap.len (cut m k)) (finmap.len (cut m k) + 1)) (at-itself m k) in
      omega (arith, a, b, c)

-- the lowest row goes first, and its frame comes free
pub freed-lowest : (rows : Map Row) (page : ℕ) (w : Row) (free : List ℕ) → at rows page ≡ Some w → ((j : ℕ) → j < page → at rows j ≡ None)
    → freed (cut rows page) (insert_by nat_lt w.0.0 free) ≡ freed rows free
freed-lowest rows page w free there least =
    ap (freed_rows (entries (cut rows page))) (insert-same w.0.0 free) ∙ sym (ap (λ es. freed_rows es free) (lowest-first rows page w there least))

without-length : (es : List (ℕ × Row)) → length es ≡ 0 → es ≡ []
without-length [] e = refl
without-length (x ∷ xs) e = absurd (omega (arith, e))

pub freed-none : (free : List ℕ) → freed no_rows free ≡ free
freed-none free = ap (λ es. freed_rows es free) (without-length (entries (no_rows {V = Row})) (sym (finmap.len-entries (no_rows {V = Row})) ∙ finmap.len-empty nat_cmp Row))

-- the row whose frame was answered
pub row-of : (rows : Map Row) (page : ℕ) (f : Frame) → option_map (λ (w : Row). w.0) (at rows page) ≡ Some f → (w : Row) × (at rows page ≡ Some w) × (w.0 ≡ f)
row-of rows page f e = by_row (at rows page) refl e
  where
    by_row : (o : Option Row) → at rows page ≡ o → option_map (λ (w : Row). w.0) o ≡ Some f → (w : Row) × (at rows page ≡ Some w) × (w.0 ≡ f)
    by_row None is e = absurd (cc)
    by_row (Some w) is e = (w, is, cc)

pub no-some : (o : Option ℕ) → ((x : ℕ) → o ≡ Some x → ⊥) → o ≡ None
no-some None h = refl
no-some (Some x) h = absurd (h x refl)
