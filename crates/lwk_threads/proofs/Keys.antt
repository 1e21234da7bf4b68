-- A key that is found stands in the map.
use Rattle.key_rows.specs.Table.{key_from}
use Rattle.mck_word.specs.Maps.{Map, at, keys}
use Rattle.std.proofs.Common.{◌≡◌, ℕ, Bool, true, false, cond, List, [], ◌∷◌, Some, refl, sym, ap, ◌∙◌}
use Rattle.std.proofs.lemmas.Bool.{eq-eqb, or_right, true≢false}
use Rattle.std.specs.Cmp.{unsigned_tied}
use Rattle.std.specs.FinMap as map
use Rattle.std.specs.List.{list_any}
use Rattle.std.specs.Ordering.{eq_by_cmp, nat_cmp}
use Rattle.std.specs.Prelude.{IsSome, find, is_some, nat_le, ◌||◌}

find-member : (p : ℕ → Bool) (k : ℕ) (xs : List ℕ) → find p xs ≡ Some k → list_any (eq_by_cmp nat_cmp k) xs ≡ true
find-member p k [] h = absurd (true≢false (sym (ap is_some h)))
find-member p k (x ∷ xs) h =
    elim (p x) as (λ b. cond b (Some x) (find p xs) ≡ Some k → (eq_by_cmp nat_cmp k x || list_any (eq_by_cmp nat_cmp k) xs) ≡ true) [
      | true ↦ λ h. let same : k ≡ x = cc in rw (unsigned_tied k x, eq-eqb k x same) refl
      | false ↦ λ h. or_right (eq_by_cmp nat_cmp k x) (list_any (eq_by_cmp nat_cmp k) xs) (find-member p k xs h)
    ] h

pub key_from-stands : {V : Type 0} (m : Map V) (from k : ℕ) → key_from m from ≡ Some k → IsSome (at m k)
key_from-stands m from k h = map.contains_key-keys m k ∙ find-member (λ j. nat_le from j) k (keys m) h
