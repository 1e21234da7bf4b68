-- Sums over the rows of a map, after a row is put.
use Rattle.kernel_tables.specs.Totals.{IsProcesses, counted, instructions_in}
use Rattle.kernel_tables.specs.declared.process_rows.Process.{Process}
use Rattle.mck_word.specs.MapLaws.{at-none, at-put}
use Rattle.mck_word.specs.Maps.{Map, at, entries, no_rows, put, total}
use Rattle.std.proofs.Common.{ap, arith, inl, inr, refl, ◌∙◌, sym}
use Rattle.std.proofs.lemmas.Bool.Decides.{nat_tests}
use Rattle.std.proofs.lemmas.Bool.{cases_lt}
use Rattle.std.proofs.lemmas.List.Sums.{sum_by-cons}
use Rattle.std.specs.Cmp.{nat_cmp_total, unsigned_tied}
use Rattle.std.specs.FinMap as finmap
use Rattle.std.specs.FinMap.Entries as fin
use Rattle.std.specs.Ordering.{is_lt, nat_cmp}
use Rattle.std.specs.Prelude.{Bool, List, None, Option, Some, T, [], cond, false, length, nat_lt, sum_by, true, ℕ, ◌&&◌, ◌+◌, ◌-◌, ◌<◌, ◌^◌, ◌==◌, ◌∷◌, ◌≡◌, ◌≤◌}
use Rattle.std.specs.declared.cmp.Ordering.TheVariants.{Less, Equal, Greater}

both : (a b : Bool) → (a && b) ≡ true → (a ≡ true) × (b ≡ true)
both true b e = (refl, e)
both false b e = absurd (grind (arith, e))

sorted-true : {V : Type 0} (m : Map V) → fin.is_sorted nat_cmp (entries m) ≡ true
sorted-true m = go (fin.is_sorted nat_cmp (entries m)) refl (finmap.entries_sorted m)
  where
    go : (b : Bool) → fin.is_sorted nat_cmp (entries m) ≡ b → T b → fin.is_sorted nat_cmp (entries m) ≡ true
    go true e h = e
    go false e h = absurd h

-- what a row counts, where there is one
abbrev pub counted_in : {V : Type 0} → (V → ℕ) → Option V → ℕ
counted_in f None = 0
counted_in f (Some v) = f v

-- with its key
abbrev pub counted_at : {V : Type 0} → (ℕ × V → ℕ) → ℕ → Option V → ℕ
counted_at f k None = 0
counted_at f k (Some v) = f (k, v)

module _ {V : Type 0} (f : ℕ × V → ℕ) where
  abbrev pub sum_of : List (ℕ × V) → ℕ
  sum_of es = sum_by f es

  sum-cons : (e : ℕ × V) (es : List (ℕ × V)) → sum_of (e ∷ es) ≡ f e + sum_of es
  sum-cons e es = sum_by-cons f e es

  less-apart : (a b : ℕ) → is_lt (nat_cmp a b) ≡ true → a < b
  less-apart a b e = go (nat_lt a b) refl e
    where
      equal-or : (x : Bool) → is_lt (cond x Equal Greater) ≡ true → ⊥
      equal-or true k = grind (arith, k)
      equal-or false k = grind (arith, k)

      go : (x : Bool) → nat_lt a b ≡ x → is_lt (cond x Less (cond (a == b) Equal Greater)) ≡ true → a < b
      go true f k = grind (arith, nat_tests, f)
      go false f k = absurd (equal-or (a == b) k)

  -- below all keys there is nothing
  pub none-below : (k x : ℕ) (es : List (ℕ × V)) → k ≤ x → fin.below_all nat_cmp x es ≡ true → fin.find nat_cmp k es ≡ None
  none-below k x [] l e = refl
  none-below k x (y ∷ es) l e =
      let a = both (is_lt (nat_cmp x y.0)) (fin.below_all nat_cmp x es) e in
      let b = less-apart x y.0 a.0 in
      ap (λ c. cond c (Some y.1) (fin.find nat_cmp k es)) (unsigned_tied k y.0 ∙ differ k y.0 (omega (arith, l, b))) ∙ none-below k x es l a.1
    where
      differ : (k n : ℕ) → k < n → (k == n) ≡ false
      differ k n h = grind (arith, nat_tests, h)

  sum-put : (k : ℕ) (v : V) (es : List (ℕ × V)) → fin.is_sorted nat_cmp es ≡ true → sum_of (fin.put nat_cmp k v es) + counted_at f k (fin.find nat_cmp k es) ≡ sum_of es + f (k, v)
  sum-put k v [] s = omega (arith, sum-cons (k, v) [])
  sum-put k v (e ∷ es) s = go (nat_lt k e.0) refl (k == e.0) refl (sum-put k v es a.1)
    where
      a : (fin.below_all nat_cmp e.0 es ≡ true) × (fin.is_sorted nat_cmp es ≡ true)
      a = both (fin.below_all nat_cmp e.0 es) (fin.is_sorted nat_cmp es) s

      tied : fin.find nat_cmp k (e ∷ es) ≡ cond (k == e.0) (Some e.1) (fin.find nat_cmp k es)
      tied = ap (λ c. cond c (Some e.1) (fin.find nat_cmp k es)) (unsigned_tied k e.0)

      go : (b : Bool) → nat_lt k e.0 ≡ b → (d : Bool) → (k == e.0) ≡ d → sum_of (fin.put nat_cmp k v es) + counted_at f k (fin.find nat_cmp k es) ≡ sum_of es + f (k, v)
          → sum_of (fin.by_order (cond b Less (cond d Equal Greater)) ((k, v) ∷ e ∷ es) ((e.0, v) ∷ es) (e ∷ fin.put nat_cmp k v es)) + counted_at f k (fin.find nat_cmp k (e ∷ es)) ≡ sum_of (e ∷ es) + f (k, v)
      go true l d q i =
          let n = none-below k e.0 es (grind (arith, nat_tests, l)) a.0 in
          let m : (k == e.0) ≡ false = grind (arith, nat_tests, l) in
          let z = ap (counted_at f k) (tied ∙ ap (λ c. cond c (Some e.1) (fin.find nat_cmp k es)) m ∙ n) in
          omega (arith, sum-cons (k, v) (e ∷ es), z)
      go false l true q i =
          let z = ap (counted_at f k) (tied ∙ ap (λ c. cond c (Some e.1) (fin.find nat_cmp k es)) q) in
          let g : e.0 ≡ k = (let h : k ≡ e.0 = grind (arith, nat_tests, q) in sym h) in
          let y = ap (λ (n : ℕ). f (n, v)) g in
          let y' = ap (λ (n : ℕ). f (n, e.1)) g in
          omega (arith, sum-cons (e.0, v) es, sum-cons e es, z, y, y')
      go false l false q i =
          let z = ap (counted_at f k) (tied ∙ ap (λ c. cond c (Some e.1) (fin.find nat_cmp k es)) q) in
          omega (arith, sum-cons e (fin.put nat_cmp k v es), sum-cons e es, z, i)

  pub total-put-by : (m : Map V) (k : ℕ) (v : V) → sum_of (entries (put m k v)) + counted_at f k (at m k) ≡ sum_of (entries m) + f (k, v)
  total-put-by m k v =
      let s = sum-put k v (entries m) (sorted-true m) in
      let a = ap sum_of (finmap.entries-insert nat_cmp_total m k v) in
      let b = ap (counted_at f k) (finmap.get-entries m k) in
      omega (arith, s, a, b)

module _ {V : Type 0} (f : V → ℕ) where
  at-value : (k : ℕ) (o : Option V) → counted_at (λ (e : ℕ × V). f e.1) k o ≡ counted_in f o
  at-value k None = refl
  at-value k (Some v) = refl

  pub total-put : (m : Map V) (k : ℕ) (v : V) → total f (put m k v) + counted_in f (at m k) ≡ total f m + f v
  total-put m k v = let a = total-put-by (λ (e : ℕ × V). f e.1) m k v in let b = at-value k (at m k) in omega (arith, a, b)

-- the instructions of all processes, when one process changes
module _ (m : Map Process) (k : ℕ) (x : Process) (there : at m k ≡ Some x) where
  sum_with : (w : Process) → instructions_in (put m k w) + x.instructions ≡ instructions_in m + w.instructions
  sum_with w = let a = total-put (λ (p : Process). p.instructions) m k w in let b = ap (counted_in (λ (p : Process). p.instructions)) there in omega (arith, a, b)

  pub within : x.instructions ≤ instructions_in m
  within = let a = sum_with (record x { instructions = 0 }) in omega (arith, a)

  kept : (w : Process) → w.instructions ≡ x.instructions → instructions_in m ≡ instructions_in (put m k w)
  kept w e = let a = sum_with w in omega (arith, a, e)

  grown : (w : Process) (n : ℕ) → w.instructions ≡ x.instructions + n → instructions_in m + n ≡ instructions_in (put m k w)
  grown w n e = let a = sum_with w in omega (arith, a, e)

at_process : (o : Option Process) → counted_in (λ (p : Process). p.instructions) o ≡ counted o
at_process None = refl
at_process (Some x) = refl

pub counted_within : (m : Map Process) (k : ℕ) → counted (at m k) ≤ instructions_in m
counted_within m k = go (at m k) refl
  where
    go : (o : Option Process) → at m k ≡ o → counted o ≤ instructions_in m
    go None e = omega arith
    go (Some x) e = within m k x e

-- a process put in, where there may be another
replaced : (m : Map Process) (k : ℕ) (w : Process) → instructions_in m + w.instructions - counted (at m k) ≡ instructions_in (put m k w)
replaced m k w = let a = total-put (λ (p : Process). p.instructions) m k w in let b = at_process (at m k) in omega (arith, a, b)

none_in : instructions_in no_rows ≡ 0
none_in = go (entries no_rows) (sym (finmap.len-entries (no_rows {V = Process})) ∙ finmap.len-empty nat_cmp Process)
  where
    go : (es : List (ℕ × Process)) → length es ≡ 0 → sum_by (λ (e : ℕ × Process). e.1.instructions) es ≡ 0
    go [] e = refl
    go (x ∷ es) e = absurd (grind (arith, e))

-- what each kind of move keeps
pub IsProcesses-none : IsProcesses 0 no_rows
IsProcesses-none = record { kept = sym none_in; small = λ k _. at-none k }

module _ (i : ℕ) (m : Map Process) (h : IsProcesses i m) where
  pub IsProcesses-put : (k : ℕ) (w : Process) → k < 2 ^ 32 → IsProcesses (i + w.instructions - counted (at m k)) (put m k w)
  IsProcesses-put k w fits = record {
    kept = (λ j. h.kept j + w.instructions - counted (at m k)) ∙ replaced m k w;
    small = λ q up. (let e : (q == k) ≡ false = grind (arith, nat_tests, up, fits) in at-put m k w q ∙ ap (λ b. cond b (Some w) (at m q)) e ∙ h.small q up);
  }

  module _ (k : ℕ) (x : Process) (there : at m k ≡ Some x) where
    below : k < 2 ^ 32
    below = elim (cases_lt k (2 ^ 32)) [
      | inl l ↦ l
      | inr u ↦ absurd (let bad = sym (h.small k u) ∙ there in cc)
    ]

    small_put : (w : Process) (q : ℕ) → 2 ^ 32 ≤ q → at (put m k w) q ≡ None
    small_put w q up = let e : (q == k) ≡ false = grind (arith, nat_tests, up, below) in at-put m k w q ∙ ap (λ b. cond b (Some w) (at m q)) e ∙ h.small q up

    pub IsProcesses-set : (w : Process) → w.instructions ≡ x.instructions → IsProcesses i (put m k w)
    IsProcesses-set w e = record { kept = h.kept ∙ kept m k x there w e; small = small_put w }

    pub IsProcesses-grown : (w : Process) (n : ℕ) → w.instructions ≡ x.instructions + n → IsProcesses (i + n) (put m k w)
    IsProcesses-grown w n e = record { kept = ap (λ j. j + n) h.kept ∙ grown m k x there w n e; small = small_put w }
