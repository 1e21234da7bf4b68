use Rattle.file_model.specs.Errno.{ENOSYS}
use Rattle.kernel_model.specs.CloneCalls.{are_fork_flags, clone}
use Rattle.kernel_model.specs.LocalCalls.{answers}
use Rattle.kernel_model.specs.Signals.{View}
use Rattle.kernel_model.specs.Steps.{one_trapped, one_view}
use Rattle.kernel_model.specs.Traps.{Trapped, arguments_of, called, past_ecall}
use Rattle.mck_word.specs.Words.{refused}
use Rattle.one_calls.proofs.Trapping.{alone-here, clone-done, did-here}
use Rattle.one_calls.proofs.traps.call.Goals as goal
use Rattle.one_calls.specs.Here.{here}
use Rattle.one_calls.specs.LocalTraps.{is_local}
use Rattle.std.proofs.Common.{ap, arith, false, not, sym, true, ◌∙◌, ◌≡◌}
use Rattle.std.specs.Prelude.{List, Option, get_or, ℕ}
use Rattle.system_calls.specs.declared.SystemCall.{SystemCall}

pub returns-in-None : goal.returns-in-None
returns-in-None c = λ p r.
    let n = c.args.node.now in
    let m = c.args.memory.now.map in
    let t = c.args.t.0 in
    let h = here n m r in
    let word : View → View = λ v. answers t (refused ENOSYS) (past_ecall t v) in
    alone-here n m c.refuses_call.new.node word c.refuses_call.ensures r
    ∙ ap (λ (o : Option SystemCall). one_trapped p t (called t h.free c.args.regs.now (past_ecall t (one_view h)) o) h) (sym c.in-None.is ∙ c.call_named.ensures)

pub returns-in-Some-Clone : goal.returns-in-Some-Clone
returns-in-Some-Clone c = λ p r.
    let n = c.args.node.now in
    let m = c.args.memory.now.map in
    let t = c.args.t.0 in
    let regs = c.args.regs.now in
    let h = here n m r in
    let v = past_ecall t (one_view h) in
    let named = ap (λ x. Option.Some x) (sym c.in-Some-Clone.field-0-is) ∙ sym c.in-Some-Clone.is ∙ c.call_named.ensures in
    let local : not (are_fork_flags (get_or (arguments_of regs) 0 0)) ≡ true = ap (λ (o : Option SystemCall). is_local o (get_or (arguments_of regs) 0 0)) named ∙ c.requires.local in
    let other : are_fork_flags (get_or (arguments_of regs) 0 0) ≡ false = grind (arith, local) in
    let word : List ℕ → View → View = λ xs v. clone t (get_or xs 0 0) (get_or xs 1 0) (get_or xs 2 0) (get_or xs 3 0) (get_or xs 4 0) (past_ecall t v) in
    did-here n m c.calls_clone.new.node c.calls_clone.new.memory.map (word c.arguments_of.result) c.calls_clone.ensures r
    ∙ ap (λ (xs : List ℕ). one_trapped p t (Trapped.Done (word xs (one_view h))) h) c.arguments_of.ensures
    ∙ ap (λ (x : Trapped). one_trapped p t x h) (sym (clone-done t h.free (arguments_of regs) v other))
    ∙ ap (λ (o : Option SystemCall). one_trapped p t (called t h.free regs v o) h) named
