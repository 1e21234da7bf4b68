-- Where a number stands among the keys of a map.
use Rattle.ihk_parts.specs.Passing.{numbers_behind}
use Rattle.mck_word.specs.Maps.{Map, entries, keys}
use Rattle.mck_word.specs.declared.Pid.{Pid}
use Rattle.std.proofs.Common.{◌≡◌, ◌≢◌, ℕ, zero, suc, ◌+◌, ◌-◌, ◌<◌, List, [], ◌∷◌, length, map, take, drop, get_or, Some, None, refl, sym, ◌∙◌, ap, subst, arith, Bool, true, false, cond, eqb, ◌&&◌, inl, inr}
use Rattle.std.proofs.lemmas.Bool.{cases_lt, eq-eqb, le-ltb, ne_eqb}
use Rattle.std.proofs.lemmas.Cmp.{nat_cmp_total, ranked}
use Rattle.std.proofs.lemmas.List.{drop-map, get_or-map, length-map, take_rest}
use Rattle.std.proofs.lemmas.List.Sorted.{searchable_from_sorted}
use Rattle.std.specs.FinMap as finmap
use Rattle.std.specs.FinMap.Entries.{below_all}
use Rattle.std.specs.FinMap.{is_sorted}
use Rattle.std.specs.List.Sorted.{IsNonDecreasingBy, IsPartitionPoint}
use Rattle.std.specs.Ordering.{is_lt, nat_cmp, ordering_index}
use Rattle.std.specs.Prelude.{T}
use Rattle.std.specs.declared.cmp.Ordering.TheVariants.{Less, Equal, Greater}

-- each number is below all that come after it
abbrev pub Rises : List ℕ → Type 0
Rises ns = (i j : ℕ) → i < j → j < length ns → get_or ns i 0 < get_or ns j 0

-- ---- the keys of a map rise

first-part : (a b : Bool) → T (a && b) → T a
first-part true b h = tt
first-part false b h = h

second-part : (a b : Bool) → T (a && b) → T b
second-part true b h = h
second-part false b h = absurd h

lower : (x y : ℕ) → T (is_lt (nat_cmp x y)) → x < y
lower x y h = elim (cases_lt x y) [
  | inl l ↦ l
  | inr g ↦
      let past : T (is_lt (cond (eqb x y) Equal Greater)) = subst (λ b. T (is_lt (cond b Less (cond (eqb x y) Equal Greater)))) (le-ltb x y g) h in
      elim (eqb x y) as (λ b. T (is_lt (cond b Equal Greater)) → x < y) [ true ↦ λ q. absurd q | false ↦ λ q. absurd q ] past
]

not-lower : (x y : ℕ) → y < x → is_lt (nat_cmp x y) ≡ false
not-lower x y h = rw (le-ltb x y (omega arith), ne_eqb x y (omega arith)) refl

module _ {V : Type 0} where
  below-get : (x : ℕ) (es : List (ℕ × V)) (i : ℕ) → T (below_all nat_cmp x es) → i < length (map (λ (e : ℕ × V). e.0) es) → x < get_or (map (λ (e : ℕ × V). e.0) es) i 0
  below-get x [] i h l = absurd (omega arith)
  below-get x (e ∷ es) zero h l = lower x e.0 (first-part (is_lt (nat_cmp x e.0)) (below_all nat_cmp x es) h)
  below-get x (e ∷ es) (suc i) h l = below-get x es i (second-part (is_lt (nat_cmp x e.0)) (below_all nat_cmp x es) h) (omega arith)

  sorted-rise : (es : List (ℕ × V)) → T (is_sorted nat_cmp es) → Rises (map (λ (e : ℕ × V). e.0) es)
  sorted-rise [] h i j l m = absurd (omega arith)
  sorted-rise (e ∷ es) h i zero l m = absurd (omega arith)
  sorted-rise (e ∷ es) h zero (suc j) l m = below-get e.0 es j (first-part (below_all nat_cmp e.0 es) (is_sorted nat_cmp es) h) (omega arith)
  sorted-rise (e ∷ es) h (suc i) (suc j) l m = sorted-rise es (second-part (below_all nat_cmp e.0 es) (is_sorted nat_cmp es) h) i j (omega arith) (omega arith)

  pub keys-rise : (m : Map V) → Rises (keys m)
  keys-rise m = sorted-rise (entries m) (finmap.entries_sorted m)

-- ---- the numbers behind one

behind-at : (p : ℕ) (ns : List ℕ) (i : ℕ) → Rises ns → i < length ns → get_or ns i 0 ≡ p → numbers_behind p ns ≡ Some (drop (suc i) ns)
behind-at p [] i r h e = absurd (omega arith)
behind-at p (n ∷ ns) zero r h e = ap (λ b. cond b (Some ns) (numbers_behind p ns)) (eq-eqb p n (sym e))
behind-at p (n ∷ ns) (suc i) r h e =
    let less = r 0 (suc i) (omega arith) h in
    let other : eqb p n ≡ false = ne_eqb p n (λ same. omega (arith, less, same, e)) in
    ap (λ b. cond b (Some ns) (numbers_behind p ns)) other ∙ behind-at p ns i (λ j k l m. r (suc j) (suc k) (omega arith) (omega arith)) (omega arith) e

behind-none : (p : ℕ) (ns : List ℕ) → ((i : ℕ) → i < length ns → get_or ns i 0 ≢ p) → numbers_behind p ns ≡ None
behind-none p [] h = refl
behind-none p (n ∷ ns) h =
    let other : eqb p n ≡ false = ne_eqb p n (λ same. h 0 (omega arith) (sym same)) in
    ap (λ b. cond b (Some ns) (numbers_behind p ns)) other ∙ behind-none p ns (λ i l. h (suc i) (omega arith))

-- ---- what a search among processes finds

abbrev pub pid_numbers : List Pid → List ℕ
pid_numbers pids = map (λ (p : Pid). p.0) pids

module _ {V : Type 0} (m : Map V) (pids : List Pid) (p : ℕ) (e : pid_numbers pids ≡ keys m) where
  rising : Rises (pid_numbers pids)
  rising = subst Rises (sym e) (keys-rise m)

  number-at : (i : ℕ) (d : Pid) → i < length pids → get_or (pid_numbers pids) i 0 ≡ (get_or pids i d).0
  number-at i d h = get_or-map (λ (q : Pid). q.0) pids i d 0 h

  pub found_behind : (i : ℕ) → i < length pids → ((d : Pid) → nat_cmp (get_or pids i d).0 p ≡ Equal)
      → Some (pid_numbers (take (length pids - (i + 1)) (drop (i + 1) pids))) ≡ numbers_behind p (keys m)
  found_behind i h q =
      let d : Pid = record { 0 = 0 } in
      let here : get_or (pid_numbers pids) i 0 ≡ p = number-at i d h ∙ ranked (get_or pids i d).0 p Equal (sym (q d)) in
      let within : i < length (pid_numbers pids) = omega (arith, length-map pids (λ (q : Pid). q.0)) in
      let next : i + 1 ≡ suc i = omega arith in
      ap (λ ps. Some (pid_numbers ps)) (take_rest pids (i + 1))
      ∙ (ap Some (sym (drop-map (λ (q : Pid). q.0) (i + 1) pids)) ∙ (ap (λ k. Some (drop k (pid_numbers pids))) next
      ∙ (sym (behind-at p (pid_numbers pids) i rising within here) ∙ ap (numbers_behind p) e)))

  -- the answers of a search for p rise
  answers-rise : IsNonDecreasingBy (λ (q : Pid). ordering_index (nat_cmp q.0 p)) pids
  answers-rise = searchable_from_sorted nat_cmp_total (λ (q : Pid). q.0) pids p (λ k d low h.
      let less = rising k (k + 1) (omega arith) (omega (arith, h, length-map pids (λ (q : Pid). q.0))) in
      let a = number-at k d (omega (arith, h)) in
      let b = number-at (k + 1) d h in
      not-lower (get_or pids (k + 1) d).0 (get_or pids k d).0 (omega (arith, less, a, b)))

  pub missed_behind : (i : ℕ) → (IsNonDecreasingBy (λ (q : Pid). ordering_index (nat_cmp q.0 p)) pids → IsPartitionPoint (λ (q : Pid). nat_cmp q.0 p ≡ Less) (λ (q : Pid). nat_cmp q.0 p ≡ Greater) pids i)
      → None ≡ numbers_behind p (keys m)
  missed_behind i parted =
      let d : Pid = record { 0 = 0 } in
      let parts = parted answers-rise in
      let other : (k : ℕ) → k < length (pid_numbers pids) → get_or (pid_numbers pids) k 0 ≢ p = λ k h same.
      let within : k < length pids = omega (arith, h, length-map pids (λ (q : Pid). q.0)) in
      let at = number-at k d within in
      elim (cases_lt k i) [
        | inl l ↦ let less = ranked (get_or pids k d).0 p Less (sym (parts.0 k d (omega arith) l)) in omega (arith, less, at, same)
        | inr g ↦ let more = ranked (get_or pids k d).0 p Greater (sym (parts.1 k d g within)) in omega (arith, more, at, same)
      ] in
      sym (ap (numbers_behind p) (sym e) ∙ behind-none p (pid_numbers pids) other)
