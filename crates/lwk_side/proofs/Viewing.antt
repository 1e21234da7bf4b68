-- A step on a view is the event's step on its process.
use Rattle.hybrid_model.specs.OneProcess.{view_here, with_view}
use Rattle.hybrid_model.specs.Sides.{Row}
use Rattle.ikc_channel.specs.declared.Channel.{Channel}
use Rattle.kernel_model.specs.Signals.{View}
use Rattle.kernel_tables.specs.declared.tables.KernelTables.{KernelTables}
use Rattle.lwk_side.specs.Shown.{Rest, here_of, side_of}
use Rattle.lwk_side.specs.declared.kernel.Lwk.{Lwk}
use Rattle.lwk_side.specs.declared.task.Task.{Task}
use Rattle.lwk_views.specs.Views.{Did}
use Rattle.mck_word.specs.Maps.{Map}
use Rattle.std.specs.Prelude.{List, None, ℕ, ◌≡◌}

module _ {T : Type 0} where
  pub did-is : (lwk : Lwk) (node : KernelTables) (frames : List (List ℕ)) (rows : Map Row) (t : Task T) (c : Channel) (r : Rest) (word : View → View) → Did rows lwk.node lwk.frames node frames word
      → here_of (record lwk { node = node; frames = frames }) rows t c r ≡ with_view (word (view_here (here_of lwk rows t c r))) (here_of lwk rows t c r)
  did-is lwk node frames rows t c r word d = λ j. record {
    side = side_of rows t c r.linux;
    node = d.node r.files j;
    frames = d.frames r.files j;
    free = lwk.pool.free;
    turns = r.turns;
    last = lwk.last;
    cores = lwk.cores;
    workers = r.workers;
    rings = lwk.rings;
    born = None;
  }
