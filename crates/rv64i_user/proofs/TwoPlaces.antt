-- Two pages with their places, and a byte in one of them.
use Rattle.std.proofs.Common.{◌≡◌, ℕ, ◌/◌, ◌%◌, ◌==◌, ◌⊎◌, inl, inr, if◌then◌else◌, Bool, true, false, ap, ◌∙◌, refl, arith}
use Rattle.std.proofs.lemmas.Bool.Decides.{nat_tests}
use Rattle.isa_model.specs.Memory.{Memory, put_byte}
use Rattle.rv64i_user.specs.Places.{put_in}

-- the place of one of two pages holds it
pub place-held : (holds : ℕ → ℕ → Bool) (p f at s next : ℕ) → (p ≡ f) ⊎ (p ≡ s) → holds at f ≡ true → holds next s ≡ true → holds (if p == f then at else next) p ≡ true
place-held holds p f at s next e a b = by-test (p == f) refl
  where
    other : (p ≡ f) ⊎ (p ≡ s) → (p == f) ≡ false → p ≡ s
    other (inl e) t = absurd (grind (arith, nat_tests, e, t))
    other (inr e) t = e

    by-test : (t : Bool) → (p == f) ≡ t → holds (if t then at else next) p ≡ true
    by-test true t = let same : p ≡ f = grind (arith, nat_tests, t) in ap (holds at) same ∙ a
    by-test false t = ap (holds next) (other e t) ∙ b

-- one byte put into a page
pub one-byte : (m : Memory) (a v : ℕ) → put_in m (a / 4096) (a % 4096) 1 v ≡ put_byte m a (v % 256)
one-byte m a v = refl
