use Rattle.pair_core.specs.Shown.{pair_of}
use Rattle.std.proofs.Common.{sym, ◌∙◌}
use Rattle.pair_quanta.proofs.lending.regs.Goals as goal

pub returns-then-has_thread : goal.returns-then-has_thread
unfolding pair_of
returns-then-has_thread g c =
    let files = g.F.FileStore.files c.args.parts.now.files in
    (sym (c.has_thread.ensures files) ∙ c.if-has_thread.true, c.process_of_thread.ensures files, c.regs.ensures files)

pub returns-else-has_thread : goal.returns-else-has_thread
unfolding pair_of
returns-else-has_thread g c = sym (c.has_thread.ensures (g.F.FileStore.files c.args.parts.now.files)) ∙ c.if-has_thread.false
