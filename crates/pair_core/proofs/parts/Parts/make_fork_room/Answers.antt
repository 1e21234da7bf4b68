use Rattle.kernel_model.specs.Nodes.{thread_of}
use Rattle.kernel_tables.specs.Shown.{node_of}
use Rattle.lwk_side.specs.declared.kernel.Lwk.{Lwk}
use Rattle.mck_word.specs.Maps.{at}
use Rattle.pair_core.proofs.parts.Parts.make_fork_room.Goals as goal
use Rattle.std.proofs.Common.{ap, arith, subst, sym, ◌∙◌}
use Rattle.std.proofs.lemmas.Result.{on_ok_weaker}
use Rattle.std.specs.Prelude.{◌≤◌}

pub returns-clause-room : goal.returns-clause-room
returns-clause-room g c =
    let y = c.make_newborn.new.self in
    let t = c.args.t.0 in
    let lwk = c.make_newborn.ensures.lwk ∙ c.make_share_room.ensures.lwk ∙ c.make_side_room.ensures.lwk in
    let sides = c.make_newborn.ensures.sides ∙ c.make_share_room.ensures.sides in
    on_ok_weaker c.make_newborn.result (λ born files. record {
      newborn = λ s there. born s (ap (at y.sides.map) (c.process_of_thread-p.ensures files ∙ ap (λ (l : Lwk). (thread_of (node_of l.node files) t).process) (sym c.make_newborn.ensures.lwk)) ∙ there);
      sides = (let a = c.in_ok-make_side_room.ensures.room in let b = ap (λ r. r.spare) sides in omega (arith, a, b));
      process = (let a = c.in_ok-make_process_room.ensures.room in let b = c.make_thread_room.ensures.processes in let d = ap (λ (l : Lwk). l.node.processes.spare) lwk in omega (arith, a, b, d));
      thread = (let a = c.in_ok-make_thread_room.ensures.room in let d = ap (λ (l : Lwk). l.node.threads.spare) lwk in omega (arith, a, d));
      files = subst (λ f. 1 ≤ (g.F.FileStore.room f).shares) (sym c.make_newborn.ensures.files) c.in_ok-make_share_room.ensures.room;
    }) c.make_newborn.ensures.newborn
