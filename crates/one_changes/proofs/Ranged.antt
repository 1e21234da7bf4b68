-- Pages of a range, and pages that are there.
use Rattle.isa_model.specs.Memory.{Memory, Page}
use Rattle.kernel_model.specs.Pages.{range}
use Rattle.mck_word.specs.Maps.{at}
use Rattle.mck_word.specs.Pages.{in_range}
use Rattle.std.proofs.Common.{arith, refl}
use Rattle.std.proofs.lemmas.Bool.Decides.{nat_tests}
use Rattle.std.specs.Prelude.{None, Option, Some, is_some, true, ℕ, ◌<◌, ◌≡◌, ◌≤◌}

-- a page of a range lies from its first page on, and below the end
pub from-there : (lo hi j : ℕ) → in_range (range lo hi) j ≡ true → (lo ≤ j) × (j < hi)
from-there lo hi j e = (grind (arith, nat_tests, e), grind (arith, nat_tests, e))

pub inside-is : (lo hi k : ℕ) → lo ≤ k → k < hi → in_range (range lo hi) k ≡ true
inside-is lo hi k a b = grind (arith, nat_tests, a, b)

pub no-some : (o : Option ℕ) → ((x : ℕ) → o ≡ Some x → ⊥) → o ≡ None
no-some None h = refl
no-some (Some x) h = absurd (h x refl)

pub there-is : (m : Memory) (k : ℕ) → is_some (at m k) ≡ true → (x : Page) × (at m k ≡ Some x)
there-is m k e = go (at m k) e
  where
    go : (o : Option Page) → is_some o ≡ true → (x : Page) × (o ≡ Some x)
    go None f = absurd (cc)
    go (Some x) f = (x, refl)
