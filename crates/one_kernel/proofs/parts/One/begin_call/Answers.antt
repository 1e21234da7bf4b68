use Rattle.kernel_model.specs.Nodes.{Node, set_does, stop_in, thread_of}
use Rattle.kernel_model.specs.CallPhases.{phases_of}
use Rattle.kernel_model.specs.Progress.{starting}
use Rattle.kernel_model.specs.Traps.{call_named}
use Rattle.kernel_model.specs.declared.Does.TheVariants.{Called}
use Rattle.kernel_model.specs.declared.steps.Step.TheVariants.{Trap}
use Rattle.mck_word.specs.Maps.{at, put}
use Rattle.kernel_tables.specs.Shown.{node_of}
use Rattle.mck_word.specs.declared.Regs.{Regs}
use Rattle.one_files.specs.Seen.{seen}
use Rattle.one_kernel.specs.Trapping.{is_delegated}
use Rattle.one_kernel.proofs.After.{after-is, process-is}
use Rattle.one_kernel.proofs.BegunParts.{begins-seen, begun-here, names-delegated}
use Rattle.one_kernel.proofs.Calling.{both}
use Rattle.one_kernel.proofs.Viewing.{own-thread}
use Rattle.one_kernel.proofs.parts.One.begin_call.Goals as goal
use Rattle.one_kernel.specs.declared.calls.Call.{Call}
use Rattle.one_kernel.specs.declared.calls.Standing.TheVariants.{Active}
use Rattle.one_kernel.specs.declared.parts.One.{One}
use Rattle.one_kernel.specs.declared.parts.Own.{Own}
use Rattle.std.proofs.Common.{ap, refl, ◌∙◌}
use Rattle.std.specs.Prelude.{false}

pub delegated_call-call-requires : goal.delegated_call-call-requires
delegated_call-call-requires c =
    let x = c.args.self.now in
    let t = c.args.t.0 in
    let files = seen x.files in
    let thread = thread_of (node_of x.node files) t in
    ap (λ (r : Regs). is_delegated (call_named r)) (c.regs-regs.ensures files)
    ∙ names-delegated thread.regs (stop_in thread.does) (begins-seen x t c.requires.delegated)

pub row_mut-own-requires : goal.row_mut-own-requires
row_mut-own-requires c =
    let x = c.args.self.now in
    let p = c.process_of_thread-p.result.0 in
    own-thread x p c.args.t.0 c.requires.ready.shown (process-is x c.args.t.0 p c.process_of_thread-p.ensures) (both _ _ (both _ _ c.requires.ready.may).0).0

pub put-requires : goal.put-requires
put-requires c =
    let x = c.args.self.now in
    let p = c.process_of_thread-p.result.0 in
    c.requires.room c.row_mut-own.result.now (ap (λ q. at x.own.map q) (process-is x c.args.t.0 p c.process_of_thread-p.ensures) ∙ c.row_mut-own.ensures.value)

pub returns : goal.returns
returns c =
    let x = c.args.self.now in
    let t = c.args.t.0 in
    let p = c.process_of_thread-p.result.0 in
    let w = c.row_mut-own.result.now in
    let r = c.regs-regs.result in
    let o : Own = record { memory = w.memory; calls = c.put.new.self } in
    let y : One = record x { node = c.set_does.new.self; own = record x.own { map = put x.own.map p o } } in
    let d : Call = record { marked = false; standing = Active; progress = c.of_call-progress.result } in
    let files = seen x.files in
    after-is x y p w o (Trap c.args.t) c.row_mut-own.ensures.value refl (process-is x t p c.process_of_thread-p.ensures)
    (begun-here x y p t w o r c.delegated_call-call.result d refl refl refl c.put.ensures.row refl refl
    (c.of_call-progress.ensures ∙ (λ i. starting c.delegated_call-call.result (c.arguments_of.ensures i) (phases_of c.delegated_call-call.result (c.arguments_of.ensures i))))
    (c.set_does.ensures.node files ∙ ap (λ (k : Node). set_does t Called k) (c.past_ecall.ensures.node files))
    (c.regs-regs.ensures files) c.delegated_call-call.ensures (begins-seen x t c.requires.delegated))
