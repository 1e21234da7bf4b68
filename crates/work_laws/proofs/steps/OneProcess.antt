-- One process of the one-kernel machine: what is left to do in it, and the step to the whole state.
use Rattle.hybrid_laws.proofs.boot.Coherent.{zero-total}
use Rattle.hybrid_laws.proofs.maps.Sums.{counted_in, total-put}
use Rattle.hybrid_laws.proofs.memory.NewSide.{no-at}
use Rattle.kernel_model.specs.OneKernel.{Call, OneHere, OneKernel, Own, no_own, one_here, put_one_here, with_born}
use Rattle.mck_word.specs.Maps.{Map, at, no_rows, put, total}
use Rattle.std.proofs.Common.{ap, arith, refl, ◌∙◌}
use Rattle.std.proofs.Math.Nat.{mul-le-mul_left}
use Rattle.std.specs.Prelude.{None, Option, Some, unwrap_or, ℕ, ◌*◌, ◌+◌, ◌≡◌, ◌≤◌}
use Rattle.work_laws.specs.KernelLeft.{Prices, calls_left, files_left, kernel_left, node_left, of_mark, own_calls_left, own_marks_left, status_left}

abbrev pub here_left : Prices → OneHere → ℕ
here_left k h = k.step * (files_left h.node.files + own_calls_left h.own) + own_marks_left h.own + node_left k h.node

-- from one state to another: less by the gain, where it may be more by the cost
abbrev pub OnePays : Prices → OneHere → OneHere → ℕ → ℕ → Type 0
OnePays k h now gain cost = here_left k now + gain ≤ here_left k h + cost

abbrev pub KernelPays : Prices → OneKernel → OneKernel → ℕ → ℕ → Type 0
KernelPays k one now gain cost = kernel_left k now + gain ≤ kernel_left k one + cost

-- ---- no rows
pub total-none : {V : Type 0} (f : V → ℕ) → total f no_rows ≡ 0
total-none {V} f = zero-total f no_rows (λ j v e. absurd (no-at j v e))

pub none-left : own_calls_left no_own ≡ 0
none-left = total-none (λ (c : Call). status_left c.status)

pub none-marked : own_marks_left no_own ≡ 0
none-marked = total-none (λ (c : Call). of_mark c.marked)

-- ---- the process that is born has no call
abbrev pub IsNew : Option (ℕ × Own) → Type 0
IsNew None = Unit {0}
IsNew (Some b) = b.1.calls ≡ no_rows

born-less : (f : Own → ℕ) → ((o : Own) → o.calls ≡ no_rows → f o ≡ 0) → (m : Map Own) (b : Option (ℕ × Own)) → IsNew b → total f (with_born m b) ≤ total f m
born-less f z m None n = omega arith
born-less f z m (Some b) n = let a = total-put f m b.0 b.1 in let e = z b.1 n in omega (arith, a, e)

module _ (k : Prices) (one : OneKernel) (p : ℕ) (now : OneHere) where
  abbrev h : OneHere
  h = one_here one p

  -- a row that isn't there counts as one with no calls
  row : (f : Own → ℕ) → f no_own ≡ 0 → (o : Option Own) → counted_in f o ≡ f (unwrap_or o no_own)
  row f z None = omega (arith, z)
  row f z (Some x) = refl

  all-less : (f : Own → ℕ) → f no_own ≡ 0 → ((o : Own) → o.calls ≡ no_rows → f o ≡ 0) → IsNew now.born → total f (put_one_here one p now).own + f h.own ≤ total f one.own + f now.own
  all-less f z y n =
      let a = total-put f one.own p now.own in
      let b = row f z (at one.own p) in
      let c = born-less f y (put one.own p now.own) now.born n in
      omega (arith, a, b, c)

  pub whole-pays : (gain cost : ℕ) → IsNew now.born → OnePays k h now gain cost → KernelPays k one (put_one_here one p now) gain cost
  whole-pays gain cost n l =
      let a = all-less own_calls_left none-left (λ o e. ap (λ (m : Map Call). total (λ (c : Call). status_left c.status) m) e ∙ none-left) n in
      let b = all-less own_marks_left none-marked (λ o e. ap (λ (m : Map Call). total (λ (c : Call). of_mark c.marked) m) e ∙ none-marked) n in
      let s : calls_left (put_one_here one p now) + (files_left h.node.files + own_calls_left h.own) ≤ calls_left one + (files_left now.node.files + own_calls_left now.own) = omega (arith, a) in
      let d = mul-le-mul_left k.step s in
      omega (arith, b, d, l)
