-- What quanta come to in the frames of a space.
use Rattle.hybrid_model.specs.Sides.{Row}
use Rattle.isa_model.specs.Instr.{outcome}
use Rattle.lwk_run.specs.Counts.{executed_count}
use Rattle.lwk_run.specs.Lent.{Stays, StoredTo}
use Rattle.lwk_space.specs.Lacks.{memory}
use Rattle.mck_word.specs.Maps.{Map}
use Rattle.mck_word.specs.declared.Regs.{Regs}
use Rattle.rv64i_user.specs.Runs.{instrs}
use Rattle.rv_quantum.specs.Promised.{Agrees}
use Rattle.rv_quantum.specs.Told.{first_regs, last_regs, last_stop, pages_seen, total}
use Rattle.rv_quantum.specs.declared.quanta.Quanta.{Quanta}
use Rattle.std.specs.Prelude.{List, ℕ, ◌≡◌}

-- The registers and the pages are those that the quanta saw, and so many instructions from there, all of them executed,
-- come to what the quanta came to.
pub record Took (q : Quanta) (now : Regs) (rows : Map Row) (before after : List (List ℕ)) : Type 0 where
  pub regs : now ≡ first_regs q
  pub pages : Agrees (pages_seen q) (memory rows before)
  pub did : outcome (last_regs q) (memory rows after) (last_stop q) ≡ instrs (total q) now (memory rows before)
  pub count : total q ≡ executed_count (total q) now (memory rows before)
  pub stays : Stays rows before after
  pub stored : StoredTo rows before after
