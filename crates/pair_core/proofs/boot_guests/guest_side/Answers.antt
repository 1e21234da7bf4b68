use Rattle.key_rows.specs.Table.{Table}
use Rattle.lwk_side.specs.Shown.{shown_caller}
use Rattle.lwk_side.specs.declared.task.Caller.{Caller}
use Rattle.mck_word.specs.EachLaws.{each-none}
use Rattle.mck_word.specs.Maps.{each}
use Rattle.pair_core.proofs.boot_guests.guest_side.Goals as goal
use Rattle.std.proofs.Common.{None, ap, ◌∙◌}

pub returns-clause-side : goal.returns-clause-side
returns-clause-side g c =
    let callers = ap (λ (t : Table Caller). each shown_caller t.map) c.new-3.ensures ∙ each-none shown_caller in
    let channel = c.in_ok-channel.ensures in
    λ i. record {
      lwk = record { table = g.T.PageTable.rows c.args.space.table; noted = c.new-2.ensures i; begun = 0; changing = None; callers = callers i };
      linux = c.new-4.ensures i;
      book = (channel i).book.requests;
      round = (channel i).round;
      to_linux = (channel i).to_linux.messages;
      to_lwk = (channel i).to_lwk.items;
    }
