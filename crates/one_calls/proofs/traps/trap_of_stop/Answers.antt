use Rattle.file_model.specs.Files.{root_only}
use Rattle.isa_model.specs.declared.stops.Stop.{Stop}
use Rattle.kernel_model.specs.Nodes.{thread_of}
use Rattle.kernel_model.specs.Signals.{on_node, raised, signal_of_stop}
use Rattle.kernel_model.specs.Steps.{one_trapped, one_view}
use Rattle.kernel_model.specs.Traps.{Trapped, call_named, called, past_ecall, trap_of_stop}
use Rattle.kernel_tables.specs.Shown.{node_of}
use Rattle.mck_word.specs.declared.Regs.{Regs}
use Rattle.one_calls.proofs.Trapping.{alone-here, raises-signal}
use Rattle.one_calls.proofs.traps.trap_of_stop.Goals as goal
use Rattle.one_calls.specs.Here.{here}
use Rattle.one_calls.specs.LocalTraps.{names_local, stops_locally}
use Rattle.std.proofs.Common.{ap, sym, ◌∙◌}
use Rattle.std.specs.Prelude.{Some}

pub call-requires-clause-local : goal.call-requires-clause-local
call-requires-clause-local c =
    ap names_local (c.regs-regs.ensures root_only)
    ∙ ap (λ (s : Stop). stops_locally (thread_of (node_of c.args.node.now root_only) c.args.t.0).regs (Some s)) (sym c.in-Ecall.is) ∙ c.requires.local root_only

pub call-requires-clause-rest : goal.call-requires-clause-rest
call-requires-clause-rest c = λ e. c.requires.rest root_only (ap (λ (x : Regs). call_named x) (sym (c.regs-regs.ensures root_only)) ∙ e)

pub call-requires-clause-clone : goal.call-requires-clause-clone
call-requires-clause-clone c = λ e. c.requires.clone root_only (ap (λ (x : Regs). call_named x) (sym (c.regs-regs.ensures root_only)) ∙ e)

pub returns-in-Ecall : goal.returns-in-Ecall
returns-in-Ecall c = λ p r.
    let h = here c.args.node.now c.args.memory.now.map r in
    let t = c.args.t.0 in
    c.call.ensures p r
    ∙ ap (λ (x : Regs). one_trapped p t (called t h.free x (past_ecall t (one_view h)) (call_named x)) h) (c.regs-regs.ensures r.files)
    ∙ ap (λ (s : Stop). one_trapped p t (trap_of_stop t h.free (one_view h) (Some s)) h) (sym c.in-Ecall.is)

pub returns-in_default : goal.returns-in_default
returns-in_default c = λ p r.
    let n = c.args.node.now in
    let m = c.args.memory.now.map in
    let h = here n m r in
    let t = c.args.t.0 in
    alone-here n m c.raises.new.node (on_node (raised t (signal_of_stop c.args.stop))) c.raises.ensures r
    ∙ ap (λ (x : Trapped). one_trapped p t x h) (sym (raises-signal t h.free (one_view h) c.args.stop (λ e. absurd (c.in_default.not-Ecall e))))
