-- Each page that is shown has its 4,096 bytes.
use Rattle.hybrid_model.specs.Pairs.{Pair}
use Rattle.hybrid_model.specs.Shown.{one}
use Rattle.isa_model.specs.Memory.{Memory, Page}
use Rattle.kernel_model.specs.OneKernel.{OneKernel, Own}
use Rattle.kernel_model.specs.Pages.{page_size}
use Rattle.mck_word.specs.Maps.{at}
use Rattle.std.specs.Prelude.{None, Option, Some, length, ℕ, ◌≡◌}

abbrev pub IsFull : Option Page → Type 0
IsFull None = Unit {0}
IsFull (Some x) = length x.bytes ≡ page_size

abbrev pub Full : Memory → Type 0
Full m = (i : ℕ) → IsFull (at m i)

abbrev pub AllFull : OneKernel → Type 0
AllFull one = (p : ℕ) (o : Own) → at one.own p ≡ Some o → Full o.memory

abbrev pub WholePages : Pair → Type 0
WholePages pair = AllFull (one pair)
