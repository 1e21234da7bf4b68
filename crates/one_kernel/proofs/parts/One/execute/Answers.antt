use Rattle.isa_model.specs.Instr.{Outcome}
use Rattle.isa_model.specs.Memory.{Page}
use Rattle.key_rows.specs.Table.{Table}
use Rattle.kernel_model.specs.Nodes.{thread_of}
use Rattle.kernel_model.specs.Steps.{after_all}
use Rattle.kernel_model.specs.declared.steps.Step.TheVariants.{Instr}
use Rattle.kernel_tables.specs.Shown.{node_of}
use Rattle.kernel_tables.specs.Steps.{ran_over}
use Rattle.one_files.specs.Seen.{seen}
use Rattle.one_kernel.proofs.After.{process-is, regs-is}
use Rattle.one_kernel.proofs.Executing.{has-own, leaves, runs}
use Rattle.one_kernel.proofs.Facts.{limit-small}
use Rattle.one_kernel.proofs.InstrRuns.{ran}
use Rattle.one_kernel.proofs.parts.One.execute.Goals as goal
use Rattle.one_kernel.specs.Parts.{one_of, shown_own}
use Rattle.one_memory.specs.Counts.{executed_count}
use Rattle.rv64i_user.specs.Runs.{instrs}
use Rattle.std.proofs.Common.{ap, arith, refl, sym, ◌∙◌, ◌≤◌, ◌≡◌}
use Rattle.std.specs.Prelude.{replicate}

pub returns-then-count-eq0 : goal.returns-then-count-eq0
returns-then-count-eq0 c = sym (ap (λ n. after_all (one_of c.args.self.now) (replicate n (Instr c.args.t))) c.if-count-eq0.true)

pub row_mut-own-requires : goal.row_mut-own-requires
row_mut-own-requires c =
    let x = c.args.self.now in
    let p = c.process_of_thread-p.result.0 in
    let some : 1 ≤ c.args.count = omega arith in
    has-own x p c.args.count c.args.t c.requires.shown (process-is x c.args.t.0 p c.process_of_thread-p.ensures) some c.requires.may

pub overflow_cast-count : goal.overflow_cast-count
overflow_cast-count c =
    let x = c.args.self.now in
    let p = c.process_of_thread-p.result.0 in
    let some : 1 ≤ c.args.count = omega arith in
    let r = runs x p c.args.count c.args.t c.requires.shown (process-is x c.args.t.0 p c.process_of_thread-p.ensures) some c.requires.may c.row_mut-own.result.now c.row_mut-own.ensures.value in
    let within = r.limit in
    let small = limit-small (one_of x) c.requires.shown in
    omega (arith, within, small)

pub run_over-requires : goal.run_over-requires
unfolding one_of
run_over-requires c =
    let x = c.args.self.now in
    let p = c.process_of_thread-p.result.0 in
    let some : 1 ≤ c.args.count = omega arith in
    let r = runs x p c.args.count c.args.t c.requires.shown (process-is x c.args.t.0 p c.process_of_thread-p.ensures) some c.requires.may c.row_mut-own.result.now c.row_mut-own.ensures.value in
    let within = r.limit in
    let left = c.left_of_limit-left.ensures.is (seen x.files) in
    let fits = c.left_of_limit-left.ensures.fits in
    let most = c.run-memory.ensures.most in
    let went = c.from.ensures in
    omega (arith, within, left, fits, most, went)

pub returns : goal.returns
returns c =
    let x = c.args.self.now in
    let p = c.process_of_thread-p.result.0 in
    let n = c.args.count in
    let w = c.row_mut-own.result.now in
    let some : 1 ≤ c.args.count = omega arith in
    let r = runs x p n c.args.t c.requires.shown (process-is x c.args.t.0 p c.process_of_thread-p.ensures) some c.requires.may w c.row_mut-own.ensures.value in
    let regs : c.regs-regs.result ≡ (thread_of (one_of x).node c.args.t.0).regs = regs-is x c.args.t.0 c.regs-regs.result c.regs-regs.ensures in
    let memory : c.replace-memory.result.map ≡ w.memory.map = ap (λ (t : Table Page). t.map) c.replace-memory.ensures.value in
    let e : Outcome = record { regs = c.run-memory.new.regs; memory = c.run-memory.result.0.map; stop = c.run-memory.new.stop } in
    let did : e ≡ instrs n (thread_of (one_of x).node c.args.t.0).regs w.memory.map = c.run-memory.ensures.did ∙ (λ i. instrs n (regs i) (memory i)) in
    let went : c.from.result ≡ n = c.from.ensures ∙ c.run-memory.ensures.count ∙ (λ i. executed_count n (regs i) (memory i)) ∙ r.count in
    let node = c.run_over.ensures.node (seen x.files) ∙ ap (λ d. ran_over c.args.t.0 e.regs d c.from.result (node_of x.node (seen x.files))) c.does_after.ensures in
    leaves x _ p n c.from.result c.args.t w _ e node went refl refl refl refl
    ∙ ap (λ f. ran c.args.t p (one_of x) (shown_own w) f n) did ∙ sym r.state
