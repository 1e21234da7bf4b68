-- Instances in slots, as the map from their numbers.
use Rattle.mck_word.specs.MapLaws.{at-collect, at-cut, at-none, same_rows}
use Rattle.mck_word.specs.Maps.{Map, and_then, at, cut, no_rows, set_or_cut}
use Rattle.mck_word.specs.Slots.{at-slots, by_place, slots-set}
use Rattle.node_parts.specs.Partitions.{Booted, gone_on}
use Rattle.node_parts.specs.Slotted.{rows_turned, turned_from, turned_slot, turned_slots}
use Rattle.std.proofs.Common.{Bool, List, None, Option, Some, [], ap, arith, cond, false, length, refl, suc, sym, true}
use Rattle.std.proofs.Common.{zero, ℕ, ◌+◌, ◌<◌, ◌==◌, ◌∙◌, ◌∷◌, ◌≡◌}
use Rattle.std.proofs.lemmas.Bool.Decides.{nat_tests}
use Rattle.std.proofs.lemmas.List.{get_or_default}
use Rattle.std.specs.Option.{option_map}
use Rattle.std.specs.Prelude.{replicate, slice_index_or, slice_set}

abbrev pub Row : Type 0
Row = Option (Option Booted)

abbrev pub Rows : Type 0
Rows = Map (Option Booted)

-- ---- one slot

-- a slot is the row of its number
pub row-is : (slots : List Row) (rows : Rows) (i : ℕ) (slot : Row) → by_place slots ≡ rows → i < length slots
    → slot ≡ slice_index_or slots i slot → at rows i ≡ slot
row-is slots rows i slot is less read =
    ap (λ m. at m i) (sym is) ∙ (at-slots slots i ∙ (get_or_default slots i None slot less ∙ sym read))

pub row-set : (slots : List Row) (rows : Rows) (i : ℕ) (slot new : Row) → by_place slots ≡ rows → i < length slots
    → slot ≡ new → by_place (slice_set slots i slot) ≡ set_or_cut rows i new
row-set slots rows i slot new is less same =
    slots-set slots i slot less ∙ (ap (λ m. set_or_cut m i slot) is ∙ ap (set_or_cut rows i) same)

-- a number that no instance has
cut-nothing : (rows : Rows) (i : ℕ) → at rows i ≡ None → cut rows i ≡ rows
cut-nothing rows i none = same_rows (cut rows i) rows (λ q. at-cut rows i q ∙ by_number q (q == i) refl)
  where
    by_number : (q : ℕ) (t : Bool) → (q == i) ≡ t → cond t None (at rows q) ≡ at rows q
    by_number q true is = (let same : q ≡ i = grind (arith, nat_tests) in sym (ap (at rows) same ∙ none))
    by_number q false is = refl

pub row-none : (slots : List Row) (rows : Rows) (i : ℕ) (slot : Row) → by_place slots ≡ rows → i < length slots
    → slot ≡ None → at rows i ≡ None → by_place (slice_set slots i slot) ≡ rows
row-none slots rows i slot is less same none = row-set slots rows i slot None is less same ∙ cut-nothing rows i none

nobody : (n q : ℕ) → slice_index_or {A = Row} (replicate n None) q None ≡ None
nobody zero q = refl
nobody (suc n) zero = refl
nobody (suc n) (suc q) = nobody n q

-- empty slots are no rows
pub empty-slots : (n : ℕ) → by_place {V = Option Booted} (replicate n None) ≡ no_rows
empty-slots n = same_rows _ _ (λ q. at-slots (replicate n None) q ∙ (nobody n q ∙ sym (at-none q)))

-- ---- turns

turned-place : (passes : ℕ → Bool) (k : ℕ) (slots : List Row) (q : ℕ)
    → slice_index_or (turned_from passes k slots) q None ≡ turned_slot (passes (k + q)) (slice_index_or slots q None)
turned-place passes k [] q = refl
turned-place passes k (slot ∷ slots) zero = (let e : k ≡ k + 0 = omega arith in ap (λ n. turned_slot (passes n) slot) e)
turned-place passes k (slot ∷ slots) (suc q) =
    turned-place passes (suc k) slots q
    ∙ (let e : suc k + q ≡ k + suc q = omega arith in ap (λ n. turned_slot (passes n) (slice_index_or slots q None)) e)

as-row : (t : Bool) (slot : Row)
    → turned_slot t slot ≡ and_then slot (λ booted. Some (cond t (option_map gone_on booted) booted))
as-row t None = refl
as-row t (Some booted) = refl

-- slots that turn are the map whose rows turn
turned-slots : (passes : ℕ → Bool) (slots : List Row)
    → by_place (turned_slots passes slots) ≡ rows_turned passes (by_place slots)
turned-slots passes slots = same_rows _ _ (λ q.
    at-slots (turned_slots passes slots) q
    ∙ (turned-place passes 0 slots q
    ∙ ((let e : 0 + q ≡ q = omega arith in ap (λ n. turned_slot (passes n) (slice_index_or slots q None)) e)
    ∙ (ap (turned_slot (passes q)) (sym (at-slots slots q))
    ∙ (as-row (passes q) (at (by_place slots) q)
    ∙ sym (at-collect (λ i booted. Some (cond (passes i) (option_map gone_on booted) booted)) (by_place slots) q))))))

pub turned-rows : (passes : ℕ → Bool) (slots was now kept : List Row) (rows : Rows) → by_place slots ≡ rows
    → was ≡ slots → now ≡ turned_slots passes was → kept ≡ now → by_place kept ≡ rows_turned passes rows
turned-rows passes slots was now kept rows is same turned keeps =
    ap (λ os. by_place os) (keeps ∙ (turned ∙ ap (turned_slots passes) same))
    ∙ (turned-slots passes slots ∙ ap (rows_turned passes) is)
