use Rattle.pair_core.proofs.parts.Parts.may_in.Goals as goal
use Rattle.hybrid_laws.specs.EventKinds.{is_of_linux}
use Rattle.hybrid_model.specs.Events.{may_here}
use Rattle.hybrid_model.specs.Workers.{has_worker}
use Rattle.hybrid_model.specs.Answer.{may_answer}
use Rattle.hybrid_model.specs.Pairs.{Here}
use Rattle.hybrid_model.specs.declared.events.Event.{Event}
use Rattle.pair_core.specs.Shown.{here_in, rest_of}
use Rattle.std.proofs.Common.{ap, arith, sym, ◌∙◌}
use Rattle.std.proofs.lemmas.Bool.Decides.{nat_tests}
use Rattle.std.specs.Prelude.{Bool, not, true, ◌&&◌, ◌≡◌}

pub returns-then-w-self : goal.returns-then-w-self
returns-then-w-self g c =
    let h : Here = here_in g.T.PageTable.rows g.F.FileStore.files c.args.self.now c.args.side.now in
    let below = c.if-w-self.true in
    let worker : has_worker h c.in-Answer.w ≡ true = grind (arith, nat_tests, below) in
    c.may_answer.ensures h.side.linux ∙ ap (λ (b : Bool). b && may_answer h.side c.in-Answer.w) (sym worker) ∙ sym (ap (λ (e : Event). not (is_of_linux e) && may_here e h) c.in-Answer.is)

pub returns-in-BeginVm : goal.returns-in-BeginVm
returns-in-BeginVm g c =
    let h : Here = here_in g.T.PageTable.rows g.F.FileStore.files c.args.self.now c.args.side.now in
    c.may_begin_vm.ensures (rest_of g.T.PageTable.rows g.F.FileStore.files c.args.self.now c.args.side.now) ∙ sym (ap (λ (e : Event). not (is_of_linux e) && may_here e h) c.in-BeginVm.is)

pub returns-in-Interrupt : goal.returns-in-Interrupt
returns-in-Interrupt g c =
    let h : Here = here_in g.T.PageTable.rows g.F.FileStore.files c.args.self.now c.args.side.now in
    c.may_interrupt.ensures (rest_of g.T.PageTable.rows g.F.FileStore.files c.args.self.now c.args.side.now) ∙ sym (ap (λ (e : Event). not (is_of_linux e) && may_here e h) c.in-Interrupt.is)
