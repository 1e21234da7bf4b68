-- A node that counts its entries has one, or none.
use Rattle.std.proofs.Common.{◌≡◌, ℕ, zero, suc, ◌+◌, ◌<◌, Bool, true, false, cond, eqb, List, [], ◌∷◌, length, get_or, ap, inl, inr, arith}
use Rattle.std.proofs.lemmas.Bool.{cases_Bool, eqb-false, eqb-true}
use Rattle.std.proofs.lemmas.List.Sums.{sum_by-cons}
use Rattle.std.specs.Prelude.{count_by, slice_index}
use Rattle.sv_table.specs.Words.{HasEntry, is_present}

count_by-cons : (p : ℕ → Bool) (x : ℕ) (xs : List ℕ) → count_by p (x ∷ xs) ≡ cond (p x) 1 0 + count_by p xs
count_by-cons p x xs = sum_by-cons (λ o. cond (p o) 1 0) x xs

found : (p : ℕ → Bool) (xs : List ℕ) → 0 < count_by p xs → (i : ℕ) × (i < length xs) × (p (get_or xs i 0) ≡ true)
found p [] h = absurd (omega arith)
found p (x ∷ xs) h = elim (cases_Bool (p x)) [
  | inl yes_ ↦ (0, omega arith, yes_)
  | inr no_ ↦
      let less : 0 < count_by p xs = (let c = count_by-cons p x xs in let z : cond {A = ℕ} (p x) 1 0 ≡ 0 = ap {B = ℕ} (λ b. cond b 1 0) no_ in omega arith) in
      let rest = found p xs less in
      (suc rest.0, omega (arith, rest.1), rest.2)
]

none_found : (p : ℕ → Bool) (xs : List ℕ) → count_by p xs ≡ 0 → (i : ℕ) → i < length xs → p (get_or xs i 0) ≡ false
none_found p [] h i l = absurd (omega arith)
none_found p (x ∷ xs) h zero l = elim (cases_Bool (p x)) [
  | inl yes_ ↦ absurd (let c = count_by-cons p x xs in let z : cond {A = ℕ} (p x) 1 0 ≡ 1 = ap {B = ℕ} (λ b. cond b 1 0) yes_ in omega arith)
  | inr no_ ↦ no_
]
none_found p (x ∷ xs) h (suc i) l = none_found p xs (let c = count_by-cons p x xs in omega arith) i (omega arith)

pub has_entry : (words : List ℕ) → length words ≡ 512 → eqb (count_by is_present words) 0 ≡ false → HasEntry words
has_entry words long e =
    let differs = eqb-false (count_by is_present words) 0 e in
    let there = found is_present words (omega (arith, differs)) in
    (there.0, omega (arith, there.1), there.2)

pub no_entry : (words : List ℕ) → length words ≡ 512 → eqb (count_by is_present words) 0 ≡ true → (i : ℕ) → i < 512 → is_present (slice_index words i) ≡ false
no_entry words long e i l = none_found is_present words (eqb-true (count_by is_present words) 0 e) i (omega arith)
