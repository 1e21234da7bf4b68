use Rattle.key_rows.specs.Table.{Table}
use Rattle.kernel_tables.specs.Shown.{node_of}
use Rattle.mck_word.specs.EachLaws.{each-none}
use Rattle.mck_word.specs.MapLaws.{at-none}
use Rattle.mck_word.specs.Maps.{at, each}
use Rattle.pair_core.proofs.parts.Parts.without_guests.Goals as goal
use Rattle.pair_core.specs.Shown.{pair_of, shown_side}
use Rattle.pair_core.specs.declared.parts.Side.{Side}
use Rattle.std.proofs.Common.{ap, arith, sym, ◌∙◌}

pub returns-clause-state : goal.returns-clause-state
unfolding pair_of
returns-clause-state g c =
    let shown = shown_side g.T.PageTable.rows in
    let lwk = c.in_ok-lwk.ensures in
    let node = ap (node_of c.in_ok-lwk.lwk.node) c.in_ok-files.ensures ∙ lwk.node in
    let sides = ap (λ (t : Table (Side g.row.T.Denot)). each shown t.map) c.new-2.ensures ∙ each-none shown in
    λ i. record {
      node = node i;
      sides = sides i;
      frames = lwk.frames i;
      free = lwk.free i;
      turns = c.new-3.ensures i;
      last = lwk.last i;
      cores = lwk.cores i;
      workers = c.args.job.now.workers;
      rings = lwk.rings i;
    }

pub returns-clause-kept : goal.returns-clause-kept
returns-clause-kept g c = record {
  rings = λ p s e. absurd (let a = sym (ap (λ (t : Table (Side g.row.T.Denot)). at t.map p) c.new-2.ensures ∙ at-none p) ∙ e in grind (arith, a));
  pages = c.in_ok-lwk.ensures.pages;
  pool = c.in_ok-lwk.ensures.pool;
}
