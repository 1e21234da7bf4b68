-- Which pages the bytes of an access lie in.
use Rattle.std.proofs.Common.{◌≡◌, ℕ, ◌+◌, ◌-◌, ◌/◌, ◌%◌, ◌^◌, ◌<◌, ◌≤◌, ◌⊎◌, inl, inr, ap, subst, arith}
use Rattle.std.proofs.lemmas.Bool.{cases_lt}
use Rattle.rv64i_user.specs.Places.{Within}

in-pages-by : (a n i : ℕ) → a < 2 ^ 64 → n ≤ 8 → i < n → (a % 4096 + i < 4096) ⊎ (4096 ≤ a % 4096 + i) → ((a + i) % 2 ^ 64 / 4096 ≡ a / 4096) ⊎ ((a + i) % 2 ^ 64 / 4096 ≡ (a + n - 1) % 2 ^ 64 / 4096)
in-pages-by a n i h few k (inl lt) = inl (omega arith)
in-pages-by a n i h few k (inr ge) = inr (omega arith)

-- the bytes of an access lie in its first and its last page
pub within : (a n : ℕ) → a < 2 ^ 64 → n ≤ 8 → Within (a / 4096) ((a + n - 1) % 2 ^ 64 / 4096) a n
unfolding Within
within a n h few = λ i k. in-pages-by a n i h few k (cases_lt (a % 4096 + i) 4096)

pub within-here : (p q a n : ℕ) → a < 2 ^ 64 → 0 < n → Within p q a n → (a / 4096 ≡ p) ⊎ (a / 4096 ≡ q)
unfolding Within
within-here p q a n h some k =
    let same : (a + 0) % 2 ^ 64 / 4096 ≡ a / 4096 = omega arith in
    subst (λ x. (x ≡ p) ⊎ (x ≡ q)) same (k 0 some)

pub within-next : (p q a n : ℕ) → Within p q a n → Within p q ((a + 1) % 2 ^ 64) (n - 1)
unfolding Within
within-next p q a n k = λ i h.
    let same : (a + (i + 1)) % 2 ^ 64 / 4096 ≡ ((a + 1) % 2 ^ 64 + i) % 2 ^ 64 / 4096 = ap (λ x. x / 4096) (omega arith) in
    subst (λ x. (x ≡ p) ⊎ (x ≡ q)) same (k (i + 1) (omega arith))
