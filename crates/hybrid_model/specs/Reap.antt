-- Reap: a process whose threads are gone ends, and gives its frames back.
-- Source: this project's own, after the idea of IHK/McKernel.
use Rattle.hybrid_model.specs.Pairs.{Here, with_node, with_side}
use Rattle.hybrid_model.specs.Rings.{all_empty}
use Rattle.hybrid_model.specs.Sides.{Side}
use Rattle.hybrid_model.specs.Spaces.{freed}
use Rattle.kernel_model.specs.Steps.{may_end}
use Rattle.kernel_model.specs.Traps.{process_ended}
use Rattle.mck_word.specs.Maps.{no_rows}
use Rattle.std.specs.Prelude.{Bool, is_none, length, ℕ, ◌&&◌, ◌==◌}

abbrev pub may_reap : ℕ → Here → Bool
may_reap p h = may_end h.node p && is_none h.side.round && all_empty h.side.to_linux && length h.side.to_lwk == 0

-- the process has no table and no mirror
abbrev pub emptied : Side → Side
emptied s = record s { lwk = record s.lwk { table = no_rows }; linux = record s.linux { mirror = no_rows } }

unfoldable pub reap : ℕ → Here → Here
reap p h = record (with_node (with_side h (emptied h.side)) (process_ended p h.node)) { free = freed h.side.lwk.table h.free }
