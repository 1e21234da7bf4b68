-- Who has what after a call, place by place.
use Rattle.node_parts.specs.Partitions.{given_back, has_it, lowest_given}
use Rattle.std.proofs.Common.{Bool, List, None, Option, Some, [], arith, cond, false, inl, inr, refl, suc, true, zero}
use Rattle.std.proofs.Common.{ℕ, ◌==◌, ◌∷◌, ◌≡◌, ◌≢◌, ◌⊎◌}
use Rattle.std.proofs.lemmas.Bool.Decides.{nat_tests}
use Rattle.std.specs.Prelude.{replicate, slice_set, slice_index_or}

other : (i j : ℕ) → j ≢ i → (i == j) ≡ false
other i j differ = grind (arith, nat_tests)

-- ---- what another instance has stays

-- a free place given to i
pub given-keeps : (i j : ℕ) (owners : List (Option ℕ)) (at place : ℕ) → j ≢ i → slice_index_or owners at None ≡ None
    → has_it j (slice_index_or (slice_set owners at (Some i)) place None) ≡ has_it j (slice_index_or owners place None)
given-keeps i j [] at place differ free = refl
given-keeps i j (None ∷ owners) zero zero differ free = other i j differ
given-keeps i j (Some k ∷ owners) zero zero differ free = cc
given-keeps i j (o ∷ owners) zero (suc place) differ free = refl
given-keeps i j (o ∷ owners) (suc at) zero differ free = refl
given-keeps i j (o ∷ owners) (suc at) (suc place) differ free = given-keeps i j owners at place differ free

pub lowest-keeps : (i j n : ℕ) (owners : List (Option ℕ)) (place : ℕ) → j ≢ i
    → has_it j (slice_index_or (lowest_given i n owners) place None) ≡ has_it j (slice_index_or owners place None)
lowest-keeps i j n [] place differ = refl
lowest-keeps i j n (Some k ∷ owners) zero differ = refl
lowest-keeps i j n (Some k ∷ owners) (suc place) differ = lowest-keeps i j n owners place differ
lowest-keeps i j zero (None ∷ owners) place differ = refl
lowest-keeps i j (suc n) (None ∷ owners) zero differ = other i j differ
lowest-keeps i j (suc n) (None ∷ owners) (suc place) differ = lowest-keeps i j n owners place differ

back-one : (i j k : ℕ) (t : Bool) → (k == i) ≡ t → j ≢ i → has_it j (cond t None (Some k)) ≡ (k == j)
back-one i j k true is differ = grind (arith, nat_tests)
back-one i j k false is differ = refl

pub back-keeps : (i j : ℕ) (owners : List (Option ℕ)) (place : ℕ) → j ≢ i
    → has_it j (slice_index_or (given_back i owners) place None) ≡ has_it j (slice_index_or owners place None)
back-keeps i j [] place differ = refl
back-keeps i j (None ∷ owners) zero differ = refl
back-keeps i j (Some k ∷ owners) zero differ = back-one i j k (k == i) refl differ
back-keeps i j (o ∷ owners) (suc place) differ = back-keeps i j owners place differ

-- ---- who can be an owner

pub given-owner : (i k : ℕ) (owners : List (Option ℕ)) (at place : ℕ)
    → slice_index_or (slice_set owners at (Some i)) place None ≡ Some k
    → (k ≡ i) ⊎ (slice_index_or owners place None ≡ Some k)
given-owner i k [] at place is = inr is
given-owner i k (o ∷ owners) zero zero is = inl cc
given-owner i k (o ∷ owners) zero (suc place) is = inr is
given-owner i k (o ∷ owners) (suc at) zero is = inr is
given-owner i k (o ∷ owners) (suc at) (suc place) is = given-owner i k owners at place is

pub lowest-owner : (i k n : ℕ) (owners : List (Option ℕ)) (place : ℕ)
    → slice_index_or (lowest_given i n owners) place None ≡ Some k
    → (k ≡ i) ⊎ (slice_index_or owners place None ≡ Some k)
lowest-owner i k n [] place is = inr is
lowest-owner i k n (Some h ∷ owners) zero is = inr is
lowest-owner i k n (Some h ∷ owners) (suc place) is = lowest-owner i k n owners place is
lowest-owner i k zero (None ∷ owners) place is = inr is
lowest-owner i k (suc n) (None ∷ owners) zero is = inl cc
lowest-owner i k (suc n) (None ∷ owners) (suc place) is = lowest-owner i k n owners place is

-- the owner was one before, and another than i
abbrev pub IsStill : ℕ → ℕ → Option ℕ → Type 0
IsStill i k o = (o ≡ Some k) × ((k == i) ≡ false)

still-one : (i k h : ℕ) (t : Bool) → (h == i) ≡ t → cond t None (Some h) ≡ Some k → IsStill i k (Some h)
still-one i k h true is got = cc
still-one i k h false is got = (got, (let same : h ≡ k = cc in grind (arith, nat_tests)))

pub back-owner : (i k : ℕ) (owners : List (Option ℕ)) (place : ℕ)
    → slice_index_or (given_back i owners) place None ≡ Some k
    → IsStill i k (slice_index_or owners place None)
back-owner i k [] place is = cc
back-owner i k (None ∷ owners) zero is = cc
back-owner i k (Some h ∷ owners) zero is = still-one i k h (h == i) refl is
back-owner i k (o ∷ owners) (suc place) is = back-owner i k owners place is

pub nobody : (n place : ℕ) → slice_index_or {A = Option ℕ} (replicate n None) place None ≡ None
nobody zero place = refl
nobody (suc n) zero = refl
nobody (suc n) (suc place) = nobody n place
