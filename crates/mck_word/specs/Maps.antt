-- Finite maps from whole numbers, in std's words and a few more.
-- Source: this project's own, over std's finite maps.
use Rattle.std.specs.Prelude.{ℕ, Bool, List, [], ◌∷◌, Option, Some, None, sum_by}
use Rattle.std.specs.List.{list_any, list_all}
use Rattle.std.specs.Ordering.{nat_cmp}
use Rattle.std.specs.FinMap as finmap
use Rattle.std.specs.FinMap.{FinMap}

abbrev pub Map : Type 0 → Type 0
Map V = FinMap nat_cmp V

abbrev pub and_then : {V W : Type 0} → Option V → (V → Option W) → Option W
and_then None f = None
and_then (Some v) f = f v

module _ {V : Type 0} where
  abbrev pub at : Map V → ℕ → Option V
  at m k = finmap.get m k

  abbrev pub put : Map V → ℕ → V → Map V
  put m k v = finmap.insert m k v

  abbrev pub cut : Map V → ℕ → Map V
  cut m k = finmap.remove m k

  abbrev pub no_rows : Map V
  no_rows = finmap.empty

  -- the rows whose keys pass
  abbrev pub keep : Map V → (ℕ → Bool) → Map V
  keep m test = finmap.retain_keys m test

  abbrev pub entries : Map V → List (ℕ × V)
  entries m = finmap.entries m

  abbrev pub keys : Map V → List ℕ
  keys m = finmap.keys m

  abbrev pub values : Map V → List V
  values m = finmap.values m

  abbrev pub count : Map V → ℕ
  count m = finmap.len m

  -- one key with a value or without one
  abbrev pub set_or_cut : Map V → ℕ → Option V → Map V
  set_or_cut m k None = cut m k
  set_or_cut m k (Some v) = put m k v

  -- a row changed, where there is one
  abbrev pub change_row : Map V → ℕ → (V → V) → Option V → Map V
  change_row m k f None = m
  change_row m k f (Some v) = put m k (f v)

  abbrev pub change : Map V → ℕ → (V → V) → Map V
  change m k f = change_row m k f (at m k)

  -- whether a row passes, and whether each does
  abbrev pub some_row : (ℕ → V → Bool) → Map V → Bool
  some_row test m = list_any (λ e. test e.0 e.1) (finmap.entries m)

  abbrev pub each_row : (ℕ → V → Bool) → Map V → Bool
  each_row test m = list_all (λ e. test e.0 e.1) (finmap.entries m)

  abbrev pub total : (V → ℕ) → Map V → ℕ
  total f m = sum_by (λ e. f e.1) (finmap.entries m)

module _ {V W : Type 0} where
  unfoldable pub collect_entries : (ℕ → V → Option W) → List (ℕ × V) → Map W
  collect_entries f [] = finmap.empty
  collect_entries f (e ∷ es) = set_or_cut (collect_entries f es) e.0 (f e.0 e.1)

  -- what f makes of each row, where it makes something
  unfoldable pub collect : (ℕ → V → Option W) → Map V → Map W
  collect f m = collect_entries f (finmap.entries m)

  abbrev pub each : (V → W) → Map V → Map W
  each f m = collect (λ k v. Some (f v)) m
