-- Slots turn one after another.
use Rattle.node_parts.specs.Partitions.{Booted}
use Rattle.node_parts.specs.Slotted.{turned_from, turned_slot, turned_slots}
use Rattle.std.proofs.Common.{Bool, List, None, Option, Some, [], ap, arith, false, length, refl, suc, sym, true, zero}
use Rattle.std.proofs.Common.{ℕ, ◌+◌, ◌<◌, ◌∙◌, ◌∷◌, ◌≡◌, ◌≤◌}
use Rattle.std.proofs.lemmas.Bool.Decides.{nat_tests}
use Rattle.std.proofs.lemmas.List.{get_or_default}
use Rattle.std.specs.Prelude.{nat_lt, slice_index_or, slice_set}

abbrev Slots : Type 0
Slots = List (Option (Option Booted))

below : ℕ → ℕ → Bool
below n i = nat_lt i n

is-below : (n i : ℕ) → i < n → below n i ≡ true
unfolding below
is-below n i h = grind (arith, nat_tests)

is-above : (n i : ℕ) → n ≤ i → below n i ≡ false
unfolding below
is-above n i h = grind (arith, nat_tests)

kept-slot : (slot : Option (Option Booted)) → turned_slot false slot ≡ slot
kept-slot None = refl
kept-slot (Some booted) = refl

joined : (x y : Option (Option Booted)) (xs ys : Slots) → x ≡ y → xs ≡ ys → x ∷ xs ≡ y ∷ ys
joined x y xs ys head tail = cc

-- none has turned below a number that comes before them
none-turned : (n k : ℕ) (slots : Slots) → n ≤ k → turned_from (below n) k slots ≡ slots
none-turned n k [] h = refl
none-turned n k (slot ∷ slots) h =
    joined (turned_slot (below n k) slot) slot (turned_from (below n) (suc k) slots) slots
    (ap (λ t. turned_slot t slot) (is-above n k h) ∙ kept-slot slot) (none-turned n (suc k) slots (omega arith))

-- all have turned below a number that comes behind them
all-turned : (n k : ℕ) (slots : Slots) → k + length slots ≤ n
    → turned_from (below n) k slots ≡ turned_from (λ i. true) k slots
all-turned n k [] h = refl
all-turned n k (slot ∷ slots) h =
    joined (turned_slot (below n k) slot) (turned_slot true slot) (turned_from (below n) (suc k) slots)
    (turned_from (λ i. true) (suc k) slots)
    (ap (λ t. turned_slot t slot) (is-below n k (omega arith))) (all-turned n (suc k) slots (omega arith))

one-turned : (n k j : ℕ) (slots : Slots) → n ≡ k + j
    → slice_set (turned_from (below n) k slots) j
    (turned_slot true (slice_index_or (turned_from (below n) k slots) j None)) ≡ turned_from (below (suc n)) k slots
one-turned n k j [] e = refl
one-turned n k zero (slot ∷ slots) e =
    joined (turned_slot true (turned_slot (below n k) slot)) (turned_slot (below (suc n) k) slot)
    (turned_from (below n) (suc k) slots) (turned_from (below (suc n)) (suc k) slots)
    (ap (λ t. turned_slot true (turned_slot t slot)) (is-above n k (omega arith))
    ∙ (ap (turned_slot true) (kept-slot slot) ∙ ap (λ t. turned_slot t slot) (sym (is-below (suc n) k (omega arith)))))
    (none-turned n (suc k) slots (omega arith) ∙ sym (none-turned (suc n) (suc k) slots (omega arith)))
one-turned n k (suc j) (slot ∷ slots) e =
    joined (turned_slot (below n k) slot) (turned_slot (below (suc n) k) slot)
    (slice_set (turned_from (below n) (suc k) slots) j
    (turned_slot true (slice_index_or (turned_from (below n) (suc k) slots) j None)))
    (turned_from (below (suc n)) (suc k) slots)
    (ap (λ t. turned_slot t slot) (is-below n k (omega arith) ∙ sym (is-below (suc n) k (omega arith))))
    (one-turned n (suc k) j slots (omega arith))

-- ---- a turn so far

pub begins-turn : (slots : Slots) → slots ≡ turned_slots (λ i. nat_lt i 0) slots
unfolding below
begins-turn slots = sym (none-turned 0 0 slots (omega arith))

-- `was` is the slot at k
pub goes-on-turn : (k : ℕ) (slots now : Slots) (slot was : Option (Option Booted)) → k < length now
    → now ≡ turned_slots (λ i. nat_lt i k) slots → slot ≡ turned_slot true (slice_index_or now k was)
    → slice_set now k slot ≡ turned_slots (λ i. nat_lt i (k + 1)) slots
unfolding below
goes-on-turn k slots now slot was less is turned =
    ap (slice_set now k) (turned ∙ ap (turned_slot true) (get_or_default now k was None less))
    ∙ (ap (λ xs. slice_set xs k (turned_slot true (slice_index_or xs k None))) is
    ∙ (one-turned k 0 k slots (omega arith)
    ∙ (let e : suc k ≡ k + 1 = omega arith in ap (λ n. turned_slots (λ i. nat_lt i n) slots) e)))

pub ends-turn : (k : ℕ) (slots now : Slots) → now ≡ turned_slots (λ i. nat_lt i k) slots → length slots ≤ k
    → now ≡ turned_slots (λ i. true) slots
unfolding below
ends-turn k slots now is all = is ∙ all-turned k 0 slots (omega arith)
