-- No description is held by too many calls: each is of a caller, a process has fewer callers than numbers were given, and there are few processes.
use Rattle.std.specs.FinMap as finmap
use Rattle.file_calls.specs.FileSteps.{FewCalls}
use Rattle.hybrid_laws.proofs.maps.Reading.{Each-map}
use Rattle.hybrid_laws.proofs.memory.Written.{each-entry}
use Rattle.hybrid_model.specs.Coherence.{OfProcess}
use Rattle.hybrid_model.specs.Globals.{Coherent, description_held, holders, is_number, ring_number}
use Rattle.hybrid_model.specs.Pairs.{Pair}
use Rattle.hybrid_model.specs.Shown.{status_of}
use Rattle.hybrid_model.specs.Sides.{Caller, Side, new_side}
use Rattle.hybrid_model.specs.Tallies.{Each}
use Rattle.mck_word.specs.MapLaws.{at-put}
use Rattle.mck_word.specs.Maps.{Map, at, count, entries, no_rows, put}
use Rattle.offer_laws.proofs.Rows.{count-fewer, count-none, count-put, count-same}
use Rattle.offer_laws.specs.Small.{Small}
use Rattle.std.proofs.Common.{ap, arith, refl, subst, sym, ◌∙◌}
use Rattle.std.proofs.lemmas.Bool.Decides.{nat_tests}
use Rattle.std.proofs.lemmas.List.Sums.{count_by-le-length, sum_by-cons}
use Rattle.std.specs.Prelude.{Bool, List, None, Option, Some, [], cond, false, is_some, length, sum_by, suc, true, unwrap_or, zero, ℕ, ◌*◌, ◌<◌, ◌==◌, ◌∷◌, ◌≡◌, ◌≤◌}

-- a row at each of the first n numbers
abbrev filled : ℕ → Map ℕ
filled zero = no_rows
filled (suc n) = put (filled n) n n

filled-count : (n : ℕ) → count (filled n) ≤ n
filled-count zero = let a = count-none ℕ in omega (arith, a)
filled-count (suc n) = let a = count-put (filled n) n n in let b = filled-count n in omega (arith, a, b)

filled-at : (n k : ℕ) → k < n → is_some (at (filled n) k) ≡ true
filled-at zero k l = absurd (omega (arith, l))
filled-at (suc n) k l = ap is_some (at-put (filled n) n n k) ∙ go (k == n) refl (filled-at n k)
  where
    go : (b : Bool) → (k == n) ≡ b → (k < n → is_some (at (filled n) k) ≡ true) → is_some (cond b (Some n) (at (filled n) k)) ≡ true
    go true e other = refl
    go false e other = let less : k < n = grind (arith, nat_tests, e, l) in other less

-- as many callers as numbers that were given, at most
callers-few : {V : Type 0} (m : Map V) (n : ℕ) → ((k : ℕ) (v : V) → at m k ≡ Some v → k < n) → count m ≤ n
callers-few {V = V} m n below = let a = count-fewer m (filled n) there in let b = filled-count n in omega (arith, a, b)
  where
    there : (k : ℕ) → is_some (at m k) ≡ true → is_some (at (filled n) k) ≡ true
    there k e = go (at m k) refl e
      where
        go : (o : Option V) → at m k ≡ o → is_some o ≡ true → is_some (at (filled n) k) ≡ true
        go (Some v) f e = filled-at n k (below k v f)
        go None f e = absurd (grind (arith, e))

-- a sum of numbers of which none is above 4,000,017
sum-most : {V : Type 0} (f : V → ℕ) (es : List (ℕ × V)) → Each (λ (e : ℕ × V). f e.1 ≤ 4_000_017) es → sum_by (λ (e : ℕ × V). f e.1) es ≤ length es * 4_000_017
sum-most {V = V} f [] h = omega arith
sum-most {V = V} f (e ∷ es) h = let a = sum_by-cons (λ (x : ℕ × V). f x.1) e es in let b = sum-most f es h.1 in let c = h.0 in omega (arith, a, b, c)

module _ (pair : Pair) (c : Coherent pair) (small : Small pair) where
  number-small : pair.node.next_number ≤ 4_000_017
  number-small = let a = c.numbers.paid in let b = c.numbers.limit in let d = small.limit in omega (arith, a, b, d)

  own-few : (p d : ℕ) (s : Side) → at pair.sides p ≡ Some s → holders d s ≤ 4_000_017
  own-few p d s there =
      let whole : OfProcess p s pair.node pair.workers (ring_number pair) = subst (λ (o : Option Side). OfProcess p (unwrap_or o (new_side 0)) pair.node pair.workers (ring_number pair)) there (c.whole p) in
      let a = count_by-le-length (λ (x : ℕ × Caller). is_number d (description_held (status_of s x.1.request))) (entries s.lwk.callers) in
      let b = callers-few s.lwk.callers pair.node.next_number (λ t x e. (let y = whole.calls.there t x e in c.known.threads_below t y.0 y.1)) in
      let e = finmap.len-entries s.lwk.callers in
      let n = number-small in
      omega (arith, a, b, e, n)

  pub few-calls : FewCalls pair.node.files
  few-calls d =
      let a = sum-most (holders d) (entries pair.sides) (Each-map (λ (x : ℕ × Side). at pair.sides x.0 ≡ Some x.1) (λ (x : ℕ × Side). holders d x.1 ≤ 4_000_017) (entries pair.sides) (λ x e. own-few x.0 d x.1 e) (each-entry pair.sides)) in
      let b = count-same pair.node.processes pair.sides (λ k. sym (c.known.sides_are k)) in
      let e = small.processes in
      let n = finmap.len-entries pair.sides in
      let h = c.held d in
      omega (arith, a, b, e, n, h)
