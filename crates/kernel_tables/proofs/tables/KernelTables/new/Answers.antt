use Rattle.futex_queues.specs.Sleep.{Queue}
use Rattle.key_rows.specs.Table.{Table}
use Rattle.kernel_model.specs.Nodes.{Process as KernelProcess, Thread as KernelThread}
use Rattle.kernel_model.specs.declared.Does.{Does}
use Rattle.kernel_tables.proofs.Rows.{shown_thread}
use Rattle.kernel_tables.specs.Shown.{node_of, shown_line, shown_process}
use Rattle.kernel_tables.specs.declared.process_rows.Process.{Process}
use Rattle.kernel_tables.specs.declared.script_lines.ScriptLine.{ScriptLine}
use Rattle.lwk_threads.specs.Threads.{Spared}
use Rattle.mck_word.specs.EachLaws.{each-none}
use Rattle.mck_word.specs.Maps.{each, no_rows}
use Rattle.std.proofs.Common.{ap, List, [], map, ◌∙◌, ◌≡◌}
use Rattle.kernel_tables.proofs.tables.KernelTables.new.Goals as goal

pub returns : goal.returns
unfolding node_of
returns c =
    let ps : each shown_process c.new.result.map ≡ no_rows {V = KernelProcess} = ap (λ (t : Table Process). each shown_process t.map) c.new.ensures ∙ each-none shown_process in
    let ts : each shown_thread c.new-2.result.threads.rows ≡ no_rows {V = KernelThread} = ap (λ (t : Spared Does). each shown_thread t.threads.rows) c.new-2.ensures ∙ each-none shown_thread in
    let ss : c.new-3.result.list ≡ [] = ap (λ (q : Queue). q.list) c.new-3.ensures in
    let us : map shown_line c.new-4.result.items ≡ [] = ap (λ (xs : List ScriptLine). map shown_line xs) c.new-4.ensures.items in
    let next : c.new-2.result.threads.next ≡ 17 = ap (λ (t : Spared Does). t.threads.next) c.new-2.ensures in
    λ files. λ i. record { processes = ps i; threads = ts i; sleepers = ss i; files = files; unsent = us i; next_number = next i; frame_count = c.args.frame_count; limit = c.args.limit }
