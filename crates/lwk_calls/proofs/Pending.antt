-- rt_sigpending: refused, or told.
use Rattle.file_model.specs.Errno.{EFAULT, EINVAL}
use Rattle.isa_model.specs.Memory.{may_access}
use Rattle.kernel_model.specs.LocalCalls.{answers, refuses}
use Rattle.kernel_model.specs.SignalCalls.{pending_and_masked, sigpending}
use Rattle.kernel_model.specs.Signals.{View, store}
use Rattle.mck_word.specs.Words.{little_endian}
use Rattle.mck_word.specs.declared.Access.TheVariants.{Write}
use Rattle.std.proofs.Common.{ap, arith, refl, sym, ◌∙◌}
use Rattle.std.proofs.lemmas.Bool.Decides.{nat_tests}
use Rattle.std.specs.Prelude.{Bool, cond, false, length, nat_lt, not, pos, suc, true, zero, ℕ, ◌/◌, ◌<◌, ◌≡◌, ◌≤◌}

pub length_little : (n word : ℕ) → length (little_endian n word) ≡ n
length_little zero word = refl
length_little (suc n) word = ap suc (length_little n (word / 256))

module _ (t address size : ℕ) (v : View) where
  abbrev told : ℕ → View
  told set = answers t (pos 0) (store address (little_endian size set) v)

  abbrev pending_by : Bool → Bool → View
  pending_by large may = cond large (refuses t EINVAL v) (cond (not may) (refuses t EFAULT v) (told (pending_and_masked v.node t)))

  pub pending_large : 8 < size → sigpending t address size v ≡ refuses t EINVAL v
  pending_large e = let large : nat_lt 8 size ≡ true = grind (arith, nat_tests, e) in ap (λ b. pending_by b (may_access v.memory Write address size)) large

  small : size ≤ 8 → nat_lt 8 size ≡ false
  small e = grind (arith, nat_tests, e)

  pub pending_not : size ≤ 8 → may_access v.memory Write address size ≡ false → sigpending t address size v ≡ refuses t EFAULT v
  pending_not e may = λ i. pending_by (small e i) (may i)

  pub pending_told : (set : ℕ) → size ≤ 8 → may_access v.memory Write address size ≡ true → set ≡ pending_and_masked v.node t → sigpending t address size v ≡ answers t (pos 0) (store address (little_endian size set) v)
  pending_told set e may is = (λ i. pending_by (small e i) (may i)) ∙ ap told (sym is)
