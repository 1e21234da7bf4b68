-- How many rows a map has after a change.
use Rattle.mck_word.specs.MapLaws.{at-put}
use Rattle.mck_word.specs.Maps.{Map, at, count, entries, no_rows, put}
use Rattle.std.proofs.Common.{◌≡◌, ◌≤◌, ◌+◌, ◌-◌, ◌∙◌, ℕ, Bool, true, false, cond, Option, Some, None, ap, arith, length, refl}
use Rattle.std.proofs.lemmas.Bool.{eq-eqb}
use Rattle.std.specs.Cmp.{nat_cmp_total}
use Rattle.std.specs.FinMap as finmap
use Rattle.std.specs.Ordering.{nat_cmp}
use Rattle.std.specs.Prelude.{is_some, min, unwrap_or}

pub count-none : (V : Type 0) → count (no_rows {V = V}) ≡ 0
count-none V = finmap.len-empty nat_cmp V

module _ {V : Type 0} where
  pub count-put : (m : Map V) (k : ℕ) (v : V) → count (put m k v) ≤ count m + 1
  count-put m k v =
      let is = finmap.len-insert nat_cmp_total m k v in
      let most = either (finmap.contains_key m k) in
      omega arith
    where
      either : (b : Bool) → cond b (count m) (count m + 1) ≤ count m + 1
      either true = omega arith
      either false = omega arith

  pub count-there : (m : Map V) (k : ℕ) (v w : V) → at m k ≡ Some w → count (put m k v) ≡ count m
  count-there m k v w h = finmap.len-insert nat_cmp_total m k v ∙ ap (λ o. cond (is_some o) (count m) (count m + 1)) h

  pub count-entries : (m : Map V) → count m ≡ length (entries m)
  count-entries m = finmap.len-entries m

-- a row that was put in, and one that is not there, in a map of maps
pub count-row : (m n : Map (Map ℕ)) (k : ℕ) (v : Map ℕ) → n ≡ put m k v → count (unwrap_or (at n k) no_rows) ≡ count v
count-row m n k v is = ap (λ (n : Map (Map ℕ)). count (unwrap_or (at n k) no_rows)) is ∙ ap (λ o. count (unwrap_or o no_rows)) (at-put m k v k) ∙ ap (λ b. count (unwrap_or (cond b (Some v) (at m k)) no_rows)) (eq-eqb k k refl)

pub count-no-row : (m : Map (Map ℕ)) (k : ℕ) → at m k ≡ None → count (unwrap_or (at m k) no_rows) ≡ 0
count-no-row m k h = ap (λ (o : Option (Map ℕ)). count (unwrap_or o no_rows)) h ∙ count-none ℕ

-- room that is one less
pub one-less : (a b n a' b' n' : ℕ) → a ≤ a' + 1 → b ≤ b' + 1 → n' ≤ n + 1 → min (min a b) (4_294_967_296 - n) ≤ min (min a' b') (4_294_967_296 - n') + 1
one-less a b n a' b' n' ha hb hn = omega arith
