-- Facts that are had from there being some proof of them.
use Rattle.std.proofs.Math.Logic.{∥∥₁_elim}
use Rattle.std.specs.Coded.{Coded-set, coded_bool, coded_ℕ, le_prop}
use Rattle.std.specs.Prelude.{Bool, ℕ, ◌<◌, ◌≡◌, ◌≤◌}

pub bool-told : {A : Type 0} {a b : Bool} → ∥ A ∥₁ → (A → a ≡ b) → a ≡ b
bool-told {a = a} {b = b} t f = ∥∥₁_elim t (Coded-set coded_bool a b) f

pub nat-told : {A : Type 0} {m n : ℕ} → ∥ A ∥₁ → (A → m ≡ n) → m ≡ n
nat-told {m = m} {n = n} t f = ∥∥₁_elim t (Coded-set coded_ℕ m n) f

pub le-told : {A : Type 0} {m n : ℕ} → ∥ A ∥₁ → (A → m ≤ n) → m ≤ n
le-told t f = ∥∥₁_elim t le_prop f

pub lt-told : {A : Type 0} {m n : ℕ} → ∥ A ∥₁ → (A → m < n) → m < n
lt-told t f = ∥∥₁_elim t le_prop f
