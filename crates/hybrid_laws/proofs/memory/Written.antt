-- Storing into a process's memory through its table: the frames then show that memory, and the frames of no row keep their bytes.
use Rattle.std.specs.FinMap as finmap
use Rattle.std.specs.FinMap.Entries as fin
use Rattle.hybrid_laws.proofs.maps.Reading.{Each-both, Each-map}
use Rattle.hybrid_laws.proofs.maps.Tests.{both}
use Rattle.hybrid_model.specs.Sides.{Row}
use Rattle.hybrid_model.specs.Spaces.{frame_bytes, shown_row, shown_memory, bytes_in, written_rows, written_back}
use Rattle.hybrid_model.specs.Tallies.{Each}
use Rattle.isa_model.specs.Memory.{Memory, Page}
use Rattle.kernel_model.specs.Pages.{zero_page}
use Rattle.mck_word.specs.MapLaws.{at-collect, at-put, same_rows}
use Rattle.mck_word.specs.Maps.{Map, at, put, entries, and_then}
use Rattle.std.proofs.Common.{ap, arith, refl, sym, ◌∙◌}
use Rattle.std.proofs.lemmas.Bool.Decides.{nat_tests}
use Rattle.std.specs.Cmp.{unsigned_tied}
use Rattle.std.specs.Ordering.{nat_cmp, eq_by_cmp, is_lt}
use Rattle.std.specs.Prelude.{T, Bool, List, None, Option, Some, [], cond, false, nat_lt, true, unwrap_or, ℕ, ◌==◌, ◌∷◌, ◌≡◌}
use Rattle.std.specs.declared.cmp.Ordering.TheVariants.{Less, Equal, Greater}

-- ---- each entry of a map is what the map answers at its key
apart-less : (a b : ℕ) → is_lt (nat_cmp b a) ≡ true → (a == b) ≡ false
apart-less a b e = go (nat_lt b a) refl e
  where
    equal-or : (x : Bool) → is_lt (cond x Equal Greater) ≡ true → ⊥
    equal-or true k = grind (arith, k)
    equal-or false k = grind (arith, k)

    go : (x : Bool) → nat_lt b a ≡ x → is_lt (cond x Less (cond (b == a) Equal Greater)) ≡ true → (a == b) ≡ false
    go true f k = grind (arith, nat_tests, f)
    go false f k = absurd (equal-or (b == a) k)

module _ {V : Type 0} where
  pub below-apart : (k : ℕ) (es : List (ℕ × V)) → fin.below_all nat_cmp k es ≡ true → Each (λ (x : ℕ × V). (x.0 == k) ≡ false) es
  below-apart k [] e = tt
  below-apart k (x ∷ es) e = let a = both (is_lt (nat_cmp k x.0)) (fin.below_all nat_cmp k es) e in (apart-less x.0 k a.0, below-apart k es a.1)

  found-each : (es : List (ℕ × V)) → fin.is_sorted nat_cmp es ≡ true → Each (λ (x : ℕ × V). fin.find nat_cmp x.0 es ≡ Some x.1) es
  found-each [] e = tt
  found-each (x ∷ es) e =
      let a = both (fin.below_all nat_cmp x.0 es) (fin.is_sorted nat_cmp es) e in (
        own x,
        Each-map (λ (y : ℕ × V). ((y.0 == x.0) ≡ false) × (fin.find nat_cmp y.0 es ≡ Some y.1)) (λ (y : ℕ × V). fin.find nat_cmp y.0 (x ∷ es) ≡ Some y.1) es later
            (Each-both (λ (y : ℕ × V). (y.0 == x.0) ≡ false) (λ (y : ℕ × V). fin.find nat_cmp y.0 es ≡ Some y.1) es (below-apart x.0 es a.0) (found-each es a.1)),
      )
    where
      own : (x : ℕ × V) → cond (eq_by_cmp nat_cmp x.0 x.0) (Some x.1) (fin.find nat_cmp x.0 es) ≡ Some x.1
      own x = ap (λ b. cond b (Some x.1) (fin.find nat_cmp x.0 es)) (unsigned_tied x.0 x.0) ∙ (let s : (x.0 == x.0) ≡ true = grind (arith, nat_tests) in rw s refl)

      later : (y : ℕ × V) → ((y.0 == x.0) ≡ false) × (fin.find nat_cmp y.0 es ≡ Some y.1) → cond (eq_by_cmp nat_cmp y.0 x.0) (Some x.1) (fin.find nat_cmp y.0 es) ≡ Some y.1
      later y h = ap (λ b. cond b (Some x.1) (fin.find nat_cmp y.0 es)) (unsigned_tied y.0 x.0 ∙ h.0) ∙ h.1

  pub sorted-true : (m : Map V) → fin.is_sorted nat_cmp (entries m) ≡ true
  sorted-true m = go (fin.is_sorted nat_cmp (entries m)) refl (finmap.entries_sorted m)
    where
      go : (b : Bool) → fin.is_sorted nat_cmp (entries m) ≡ b → T b → fin.is_sorted nat_cmp (entries m) ≡ true
      go true e h = e
      go false e h = absurd h

  pub each-entry : (m : Map V) → Each (λ (x : ℕ × V). at m x.0 ≡ Some x.1) (entries m)
  each-entry m = Each-map (λ (x : ℕ × V). fin.find nat_cmp x.0 (entries m) ≡ Some x.1) (λ (x : ℕ × V). at m x.0 ≡ Some x.1) (entries m) (λ x h. finmap.get-entries m x.0 ∙ h) (found-each (entries m) (sorted-true m))

-- ---- the frames after the stores
pub other-frames : (es : List (ℕ × Row)) (m : Memory) (frames : Map (List ℕ)) (f : ℕ) → Each (λ (e : ℕ × Row). (f == e.1.0.0) ≡ false) es → at (written_rows es m frames) f ≡ at frames f
other-frames [] m frames f h = refl
other-frames (e ∷ es) m frames f h =
    other-frames es m (put frames e.1.0.0 (bytes_in (at m e.0))) f h.1 ∙ at-put frames e.1.0.0 (bytes_in (at m e.0)) f ∙ ap (λ b. cond b (Some (bytes_in (at m e.0))) (at frames f)) h.0

-- a memory with the table's pages and rights
pub record SameShape (table : Map Row) (m : Memory) : Type 0 where
  pub absent : (i : ℕ) → at table i ≡ None → at m i ≡ None
  pub present : (i : ℕ) (r : Row) → at table i ≡ Some r → (y : Page) × (at m i ≡ Some y) × (y.rights ≡ r.1)

module _ (table : Map Row) (m : Memory) (apart : (i j : ℕ) (r t : Row) → at table i ≡ Some r → at table j ≡ Some t → r.0.0 ≡ t.0.0 → i ≡ j) where
  frame-apart : (e : ℕ × Row) → at table e.0 ≡ Some e.1 → (x : ℕ × Row) → ((x.0 == e.0) ≡ false) × (at table x.0 ≡ Some x.1) → (e.1.0.0 == x.1.0.0) ≡ false
  frame-apart e there x h = go (e.1.0.0 == x.1.0.0) refl
    where
      go : (b : Bool) → (e.1.0.0 == x.1.0.0) ≡ b → b ≡ false
      go false k = refl
      go true k = absurd (let a = apart e.0 x.0 e.1 x.1 there h.1 (grind (arith, nat_tests, k)) in grind (arith, nat_tests, a, h.0))

  written-row : (es : List (ℕ × Row)) (frames : Map (List ℕ)) (i : ℕ) (r : Row) → fin.is_sorted nat_cmp es ≡ true → Each (λ (e : ℕ × Row). at table e.0 ≡ Some e.1) es → fin.find nat_cmp i es ≡ Some r
      → frame_bytes (written_rows es m frames) r.0.0 ≡ bytes_in (at m i)
  written-row [] frames i r s h f = absurd (grind (arith, f))
  written-row (e ∷ es) frames i r s h f = go (i == e.0) refl (sym (ap (λ b. cond b (Some e.1) (fin.find nat_cmp i es)) (unsigned_tied i e.0)) ∙ f) (written-row es (put frames e.1.0.0 (bytes_in (at m e.0))) i r a.1 h.1)
    where
      a : (fin.below_all nat_cmp e.0 es ≡ true) × (fin.is_sorted nat_cmp es ≡ true)
      a = both (fin.below_all nat_cmp e.0 es) (fin.is_sorted nat_cmp es) s

      none : Each (λ (x : ℕ × Row). (e.1.0.0 == x.1.0.0) ≡ false) es
      none = Each-map (λ (x : ℕ × Row). ((x.0 == e.0) ≡ false) × (at table x.0 ≡ Some x.1)) (λ (x : ℕ × Row). (e.1.0.0 == x.1.0.0) ≡ false) es (frame-apart e h.0)
          (Each-both (λ (x : ℕ × Row). (x.0 == e.0) ≡ false) (λ (x : ℕ × Row). at table x.0 ≡ Some x.1) es (below-apart e.0 es a.0) h.1)

      kept : frame_bytes (written_rows es m (put frames e.1.0.0 (bytes_in (at m e.0)))) e.1.0.0 ≡ bytes_in (at m e.0)
      kept = ap (λ o. unwrap_or o zero_page) (other-frames es m (put frames e.1.0.0 (bytes_in (at m e.0))) e.1.0.0 none ∙ at-put frames e.1.0.0 (bytes_in (at m e.0)) e.1.0.0)
          ∙ (let z : (e.1.0.0 == e.1.0.0) ≡ true = grind (arith, nat_tests) in rw z refl)

      go : (b : Bool) → (i == e.0) ≡ b → cond b (Some e.1) (fin.find nat_cmp i es) ≡ Some r → (fin.find nat_cmp i es ≡ Some r → frame_bytes (written_rows es m (put frames e.1.0.0 (bytes_in (at m e.0)))) r.0.0 ≡ bytes_in (at m i))
          → frame_bytes (written_rows es m (put frames e.1.0.0 (bytes_in (at m e.0)))) r.0.0 ≡ bytes_in (at m i)
      go true k g rest =
          let x : e.1 ≡ r = cc in
          let y : i ≡ e.0 = grind (arith, nat_tests, k) in
          ap (λ (z : Row). frame_bytes (written_rows es m (put frames e.1.0.0 (bytes_in (at m e.0)))) z.0.0) (sym x) ∙ kept ∙ ap (λ (z : ℕ). bytes_in (at m z)) (sym y)
      go false k g rest = rest g

  pub shown_written : (frames : Map (List ℕ)) → SameShape table m → shown_memory table (written_back table m frames) ≡ m
  unfolding written_back
  shown_written frames h = same_rows (shown_memory table (written_rows (entries table) m frames)) m (λ i. at-collect (λ k v. Some (shown_row (written_rows (entries table) m frames) v)) table i ∙ go i (at table i) refl)
    where
      go : (i : ℕ) (o : Option Row) → at table i ≡ o → and_then o (λ v. Some (shown_row (written_rows (entries table) m frames) v)) ≡ at m i
      go i None e = sym (h.absent i e)
      go i (Some r) e =
          let k = h.present i r e in
          let b = written-row (entries table) frames i r (sorted-true table) (each-entry table) (sym (finmap.get-entries table i) ∙ e) ∙ ap bytes_in k.1 in
          let t = sym k.2 in
          (λ j. Some (record { rights = t j; bytes = b j })) ∙ sym k.1
