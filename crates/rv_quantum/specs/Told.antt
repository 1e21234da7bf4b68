-- What is told of quanta.
use Rattle.isa_model.specs.declared.stops.Stop.{Stop}
use Rattle.mck_word.specs.declared.Regs.{Regs}
use Rattle.rv_quantum.specs.Images.{Seen, seen}
use Rattle.rv_quantum.specs.declared.image.Image.{Image}
use Rattle.rv_quantum.specs.declared.quanta.Quanta.{Quanta}
use Rattle.std.specs.Prelude.{List, map, sum, ℕ}

-- the registers that they began with
abbrev pub first_regs : Quanta → Regs
first_regs q = q.batch.first

-- the registers and the stop that they came to
abbrev pub last_regs : Quanta → Regs
last_regs q = q.batch.regs

abbrev pub last_stop : Quanta → Stop
last_stop q = q.batch.stop

-- how many instructions each has, and all of them
abbrev pub counts : Quanta → List ℕ
counts q = q.counts.items

abbrev pub total : Quanta → ℕ
total q = sum (counts q)

abbrev pub images : Quanta → List Image
images q = q.batch.images.rows.items

-- the pages as they were seen
abbrev pub pages_seen : Quanta → List Seen
pages_seen q = map seen (images q)
