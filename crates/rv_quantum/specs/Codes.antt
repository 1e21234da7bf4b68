-- Facts of images and quanta have one proof at most.
use Rattle.isa_model.specs.Memory.{Memory, Page}
use Rattle.isa_model.specs.contracts.stops.Stop as stop
use Rattle.isa_model.specs.declared.stops.Stop.{Stop}
use Rattle.mck_flags.specs.contracts.rights.Rights as rights
use Rattle.mck_word.specs.contracts.Regs as regs
use Rattle.mck_word.specs.declared.Regs.{Regs}
use Rattle.rv_quantum.specs.Images.{AreClean, Seen}
use Rattle.rv_quantum.specs.Promised.{Led, Promised}
use Rattle.rv_quantum.specs.declared.image.Image.{Image}
use Rattle.std.specs.Coded.{Coded, Coded-set, Unit-prop, codes, coded_list, coded_ℕ, Π_prop, →_prop, ×_prop}
use Rattle.std.specs.Prelude.{List, Option, [], ℕ, ◌∷◌, ◌≡◌}

coded-seen : Coded (List Seen)
coded-seen = hlevel (codes, rights.the_row.coded)

coded-page : Coded (Option Page)
coded-page = hlevel (codes, rights.the_row.coded)

pub seen-prop : (a b : List Seen) → IsProp (a ≡ b)
seen-prop = Coded-set coded-seen

bytes-prop : (a b : List ℕ) → IsProp (a ≡ b)
bytes-prop = Coded-set (coded_list coded_ℕ)

regs-prop : (a b : Regs) → IsProp (a ≡ b)
regs-prop = Coded-set regs.the_row.coded

stop-prop : (a b : Stop) → IsProp (a ≡ b)
stop-prop = Coded-set stop.the_row.coded

number-prop : (a b : ℕ) → IsProp (a ≡ b)
number-prop = Coded-set coded_ℕ

page-prop : (a b : Option Page) → IsProp (a ≡ b)
page-prop = Coded-set coded-page

pub clean-prop : (is : List Image) → IsProp (AreClean is)
clean-prop [] = Unit-prop
clean-prop (i ∷ is) = ×_prop (→_prop (bytes-prop i.last i.first)) (clean-prop is)

led-prop : (n : ℕ) (r : Regs) (m : Memory) (is : List Image) (q : Regs) (s : Stop) → IsProp (Led n r m is q s)
led-prop n r m is q s = hlevel (regs-prop, stop-prop, number-prop, page-prop)

pub promised-prop : (r : Regs) (n : ℕ) (is : List Image) (q : Regs) (s : Stop) → IsProp (Promised r n is q s)
promised-prop r n is q s = Π_prop (λ m. →_prop (led-prop n r m is q s))
