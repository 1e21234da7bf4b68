use Rattle.kernel_model.specs.declared.Does.{Does}
use Rattle.kernel_model.specs.declared.Does.TheVariants.{Ready}
use Rattle.kernel_tables.proofs.Twice.{change_put}
use Rattle.lwk_threads.specs.Threads.{Spared, Threads, changed, first_thread}
use Rattle.lwk_threads.specs.declared.Thread.{Thread}
use Rattle.mck_word.specs.Maps.{Map}
use Rattle.std.proofs.Common.{ap, max, ◌+◌, ◌∙◌}
use Rattle.kernel_tables.proofs.thread_rows.begin.Goals as goal

pub returns-clause-threads : goal.returns-clause-threads
returns-clause-threads c =
    let x = first_thread c.args.p c.args.t c.args.regs c.args.mask Ready in
    let f = λ (x : Thread Does). record x { clear = c.args.clear } in
    ap (λ (t : Spared Does). t.threads) c.set_clear.ensures ∙ ap (λ (t : Threads Does). changed c.args.t.0 f t) c.first.ensures.threads
    ∙ ap (λ (m : Map (Thread Does)). record { next = max c.args.threads.now.threads.next (c.args.t.0 + 1); rows = m }) (change_put c.args.threads.now.threads.rows c.args.t.0 x f)
