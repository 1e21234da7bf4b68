use Rattle.hybrid_model.specs.declared.events.Event.{Event}
use Rattle.mcexec_run.proofs.Called.{called}
use Rattle.mcexec_run.proofs.calls.mcexec.Goals as goal
use Rattle.mcexec_run.specs.Calls.{CallCompletes, CallGiven, CallOutcome, names_to_fetch}
use Rattle.mcexec_run.specs.Chain.{RoseAmong}
use Rattle.mcexec_run.specs.Commands.{command_of, second_word, third_word}
use Rattle.mcexec_run.specs.declared.command.Command.TheVariants.{Audit, Check, Grow, Replay, Run, Walk}
use Rattle.mck_report.specs.declared.status.Status.TheVariants.{HostFault}
use Rattle.std.proofs.Common.{List, Some, ap, refl, sym, ℕ, ◌∙◌, ◌≡◌}
use Rattle.std.specs.Option.{option_map}

pub returns-in-Some-Walk-clause-outcome : goal.returns-in-Some-Walk-clause-outcome
returns-in-Some-Walk-clause-outcome g c held told =
    let third = third_word c.args.words.now in
    let asked : Some (Walk c.in-Some-Walk.order c.in-Some-Walk.form) ≡ command_of c.args.words.now = sym (ap (λ x. Some x) c.in-Some-Walk.field-0-is) ∙ c.in-Some-Walk.ensures.value in
    called (λ x a b s j. CallOutcome x a b held s j (g.S.Sink.taken c.args.sink.now) (g.S.Sink.taken c.walk.new.sink)) _ _ _ _ third third c.walk.result.status c.alone.result.status c.walk.result.journal c.alone.result.journal asked c.second_word.ensures refl c.alone.ensures.status c.alone.ensures.journal (c.walk.ensures.outcome held told)

pub returns-in-Some-Walk-clause-host_fault : goal.returns-in-Some-Walk-clause-host_fault
returns-in-Some-Walk-clause-host_fault g c held told =
    let third = third_word c.args.words.now in
    let asked : Some (Walk c.in-Some-Walk.order c.in-Some-Walk.form) ≡ command_of c.args.words.now = sym (ap (λ x. Some x) c.in-Some-Walk.field-0-is) ∙ c.in-Some-Walk.ensures.value in
    called (λ x a b s (j : List Event). s ≡ HostFault → RoseAmong g.H.Host.faults c.args.host.now c.walk.new.host (names_to_fetch x a b held)) _ _ _ _ third third c.walk.result.status c.alone.result.status c.walk.result.journal c.alone.result.journal asked c.second_word.ensures refl c.alone.ensures.status c.alone.ensures.journal (c.walk.ensures.host_fault held told)

pub returns-in-Some-Walk-clause-complete : goal.returns-in-Some-Walk-clause-complete
returns-in-Some-Walk-clause-complete g c held told =
    let third = third_word c.args.words.now in
    let asked : Some (Walk c.in-Some-Walk.order c.in-Some-Walk.form) ≡ command_of c.args.words.now = sym (ap (λ x. Some x) c.in-Some-Walk.field-0-is) ∙ c.in-Some-Walk.ensures.value in
    called (λ x a b s j. CallCompletes x a b held s j) _ _ _ _ third third c.walk.result.status c.alone.result.status c.walk.result.journal c.alone.result.journal asked c.second_word.ensures refl c.alone.ensures.status c.alone.ensures.journal (c.walk.ensures.complete held told)

pub returns-in-Some-Check-clause-outcome : goal.returns-in-Some-Check-clause-outcome
returns-in-Some-Check-clause-outcome g c held told =
    let third = third_word c.args.words.now in
    let asked : Some Check ≡ command_of c.args.words.now = sym (ap (λ x. Some x) c.in-Some-Check.field-0-is) ∙ c.in-Some-Check.ensures.value in
    called (λ x a b s j. CallOutcome x a b held s j (g.S.Sink.taken c.args.sink.now) (g.S.Sink.taken c.check.new.sink)) _ _ _ _ third third c.check.result.status c.alone-in-Some-Check.result.status c.check.result.journal c.alone-in-Some-Check.result.journal asked c.second_word-in-Some-Check.ensures refl
    c.alone-in-Some-Check.ensures.status c.alone-in-Some-Check.ensures.journal (c.check.ensures.outcome held told)

pub returns-in-Some-Replay-clause-outcome : goal.returns-in-Some-Replay-clause-outcome
returns-in-Some-Replay-clause-outcome g c held told =
    let asked : Some Replay ≡ command_of c.args.words.now = sym (ap (λ x. Some x) c.in-Some-Replay.field-0-is) ∙ c.in-Some-Replay.ensures.value in
    called (λ x a b s j. CallOutcome x a b held s j (g.S.Sink.taken c.args.sink.now) (g.S.Sink.taken c.replay.new.sink)) _ _ _ _ _ _ c.replay.result.status c.alone-in-Some-Replay.result.status c.replay.result.journal c.alone-in-Some-Replay.result.journal asked c.second_word-job.ensures c.third_word-trace.ensures
    c.alone-in-Some-Replay.ensures.status c.alone-in-Some-Replay.ensures.journal (c.replay.ensures.outcome held told)

pub returns-in-Some-Grow-clause-outcome : goal.returns-in-Some-Grow-clause-outcome
returns-in-Some-Grow-clause-outcome g c held told =
    let second = second_word c.args.words.now in
    let third = third_word c.args.words.now in
    let asked : Some (Grow c.in-Some-Grow.guests c.in-Some-Grow.order) ≡ command_of c.args.words.now = sym (ap (λ x. Some x) c.in-Some-Grow.field-0-is) ∙ c.in-Some-Grow.ensures.value in
    called (λ x a b s j. CallOutcome x a b held s j (g.S.Sink.taken c.args.sink.now) (g.S.Sink.taken c.grow.new.sink)) _ _ second second third third c.grow.result.status c.alone-in-Some-Grow.result.status c.grow.result.journal c.alone-in-Some-Grow.result.journal asked refl refl
    c.alone-in-Some-Grow.ensures.status c.alone-in-Some-Grow.ensures.journal c.grow.ensures.outcome

pub returns-in-Some-Grow-clause-complete : goal.returns-in-Some-Grow-clause-complete
returns-in-Some-Grow-clause-complete g c held told =
    let second = second_word c.args.words.now in
    let third = third_word c.args.words.now in
    let asked : Some (Grow c.in-Some-Grow.guests c.in-Some-Grow.order) ≡ command_of c.args.words.now = sym (ap (λ x. Some x) c.in-Some-Grow.field-0-is) ∙ c.in-Some-Grow.ensures.value in
    called (λ x a b s j. CallCompletes x a b held s j) _ _ second second third third c.grow.result.status c.alone-in-Some-Grow.result.status c.grow.result.journal c.alone-in-Some-Grow.result.journal asked refl refl c.alone-in-Some-Grow.ensures.status c.alone-in-Some-Grow.ensures.journal c.grow.ensures.complete

pub returns-in-Some-Audit-clause-outcome : goal.returns-in-Some-Audit-clause-outcome
returns-in-Some-Audit-clause-outcome g c held told =
    let asked : Some Audit ≡ command_of c.args.words.now = sym (ap (λ x. Some x) c.in-Some-Audit.field-0-is) ∙ c.in-Some-Audit.ensures.value in
    called (λ x a b s j. CallOutcome x a b held s j (g.S.Sink.taken c.args.sink.now) (g.S.Sink.taken c.audit.new.sink)) _ _ _ _ _ _ c.audit.result.status c.audit.result.status c.audit.result.journal c.audit.result.journal asked c.second_word-in-Some-Audit.ensures c.third_word.ensures
    refl refl (c.audit.ensures.outcome held told)

pub returns-in-Some-Walk-clause-given : goal.returns-in-Some-Walk-clause-given
returns-in-Some-Walk-clause-given g c =
    let second = second_word c.args.words.now in
    let third = third_word c.args.words.now in
    let machine = option_map g.O.SingleKernel.one c.alone.result.machine in
    let asked : Some (Walk c.in-Some-Walk.order c.in-Some-Walk.form) ≡ command_of c.args.words.now = sym (ap (λ x. Some x) c.in-Some-Walk.field-0-is) ∙ c.in-Some-Walk.ensures.value in
    called (λ x (a b : List ℕ) s j. CallGiven x s j machine (g.S.Sink.taken c.args.sink.now) (g.S.Sink.taken c.walk.new.sink)) _ _ second second third third c.walk.result.status c.alone.result.status c.walk.result.journal c.alone.result.journal asked refl refl c.alone.ensures.status c.alone.ensures.journal c.walk.ensures.given

pub returns-in-Some-Check-clause-given : goal.returns-in-Some-Check-clause-given
returns-in-Some-Check-clause-given g c =
    let second = second_word c.args.words.now in
    let third = third_word c.args.words.now in
    let machine = option_map g.O.SingleKernel.one c.alone-in-Some-Check.result.machine in
    let asked : Some Check ≡ command_of c.args.words.now = sym (ap (λ x. Some x) c.in-Some-Check.field-0-is) ∙ c.in-Some-Check.ensures.value in
    called (λ x (a b : List ℕ) s j. CallGiven x s j machine (g.S.Sink.taken c.args.sink.now) (g.S.Sink.taken c.check.new.sink)) _ _ second second third third c.check.result.status c.alone-in-Some-Check.result.status c.check.result.journal c.alone-in-Some-Check.result.journal asked refl refl c.alone-in-Some-Check.ensures.status c.alone-in-Some-Check.ensures.journal c.check.ensures.given

pub returns-in-Some-Replay-clause-given : goal.returns-in-Some-Replay-clause-given
returns-in-Some-Replay-clause-given g c =
    let second = second_word c.args.words.now in
    let third = third_word c.args.words.now in
    let machine = option_map g.O.SingleKernel.one c.alone-in-Some-Replay.result.machine in
    let asked : Some Replay ≡ command_of c.args.words.now = sym (ap (λ x. Some x) c.in-Some-Replay.field-0-is) ∙ c.in-Some-Replay.ensures.value in
    called (λ x (a b : List ℕ) s j. CallGiven x s j machine (g.S.Sink.taken c.args.sink.now) (g.S.Sink.taken c.replay.new.sink)) _ _ second second third third c.replay.result.status c.alone-in-Some-Replay.result.status c.replay.result.journal c.alone-in-Some-Replay.result.journal asked refl refl c.alone-in-Some-Replay.ensures.status c.alone-in-Some-Replay.ensures.journal c.replay.ensures.given

pub returns-in-Some-Grow-clause-given : goal.returns-in-Some-Grow-clause-given
returns-in-Some-Grow-clause-given g c =
    let second = second_word c.args.words.now in
    let third = third_word c.args.words.now in
    let machine = option_map g.O.SingleKernel.one c.alone-in-Some-Grow.result.machine in
    let asked : Some (Grow c.in-Some-Grow.guests c.in-Some-Grow.order) ≡ command_of c.args.words.now = sym (ap (λ x. Some x) c.in-Some-Grow.field-0-is) ∙ c.in-Some-Grow.ensures.value in
    called (λ x (a b : List ℕ) s j. CallGiven x s j machine (g.S.Sink.taken c.args.sink.now) (g.S.Sink.taken c.grow.new.sink)) _ _ second second third third c.grow.result.status c.alone-in-Some-Grow.result.status c.grow.result.journal c.alone-in-Some-Grow.result.journal asked refl refl c.alone-in-Some-Grow.ensures.status c.alone-in-Some-Grow.ensures.journal (c.grow.ensures.outcome, c.grow.ensures.complete)

pub returns-in-Some-Audit-clause-given : goal.returns-in-Some-Audit-clause-given
returns-in-Some-Audit-clause-given g c =
    let second = second_word c.args.words.now in
    let third = third_word c.args.words.now in
    let machine = option_map g.O.SingleKernel.one c.audit.result.machine in
    let asked : Some Audit ≡ command_of c.args.words.now = sym (ap (λ x. Some x) c.in-Some-Audit.field-0-is) ∙ c.in-Some-Audit.ensures.value in
    called (λ x (a b : List ℕ) s j. CallGiven x s j machine (g.S.Sink.taken c.args.sink.now) (g.S.Sink.taken c.audit.new.sink)) _ _ second second third third c.audit.result.status c.audit.result.status c.audit.result.journal c.audit.result.journal asked refl refl refl refl c.audit.ensures.given

pub returns-in-Some-Check-clause-host_fault : goal.returns-in-Some-Check-clause-host_fault
returns-in-Some-Check-clause-host_fault g c held told =
    let third = third_word c.args.words.now in
    let asked : Some Check ≡ command_of c.args.words.now = sym (ap (λ x. Some x) c.in-Some-Check.field-0-is) ∙ c.in-Some-Check.ensures.value in
    called (λ x a b s (j : List Event). s ≡ HostFault → RoseAmong g.H.Host.faults c.args.host.now c.check.new.host (names_to_fetch x a b held)) _ _ _ _ third third c.check.result.status c.alone-in-Some-Check.result.status c.check.result.journal c.alone-in-Some-Check.result.journal asked c.second_word-in-Some-Check.ensures refl c.alone-in-Some-Check.ensures.status c.alone-in-Some-Check.ensures.journal (c.check.ensures.host_fault held told)

pub returns-in-Some-Replay-clause-host_fault : goal.returns-in-Some-Replay-clause-host_fault
returns-in-Some-Replay-clause-host_fault g c held told =
    let asked : Some Replay ≡ command_of c.args.words.now = sym (ap (λ x. Some x) c.in-Some-Replay.field-0-is) ∙ c.in-Some-Replay.ensures.value in
    called (λ x a b s (j : List Event). s ≡ HostFault → RoseAmong g.H.Host.faults c.args.host.now c.replay.new.host (names_to_fetch x a b held)) _ _ _ _ _ _ c.replay.result.status c.alone-in-Some-Replay.result.status c.replay.result.journal c.alone-in-Some-Replay.result.journal asked c.second_word-job.ensures c.third_word-trace.ensures c.alone-in-Some-Replay.ensures.status c.alone-in-Some-Replay.ensures.journal (c.replay.ensures.host_fault held told)

pub returns-in-Some-Audit-clause-host_fault : goal.returns-in-Some-Audit-clause-host_fault
returns-in-Some-Audit-clause-host_fault g c held told =
    let asked : Some Audit ≡ command_of c.args.words.now = sym (ap (λ x. Some x) c.in-Some-Audit.field-0-is) ∙ c.in-Some-Audit.ensures.value in
    called (λ x a b s (j : List Event). s ≡ HostFault → RoseAmong g.H.Host.faults c.args.host.now c.audit.new.host (names_to_fetch x a b held)) _ _ _ _ _ _ c.audit.result.status c.audit.result.status c.audit.result.journal c.audit.result.journal asked c.second_word-in-Some-Audit.ensures c.third_word.ensures refl refl (c.audit.ensures.host_fault held told)

pub returns-in-Some-Run-clause-outcome : goal.returns-in-Some-Run-clause-outcome
returns-in-Some-Run-clause-outcome g c held told =
    let third = third_word c.args.words.now in
    let asked : Some (Run c.in-Some-Run.form) ≡ command_of c.args.words.now = sym (ap (λ x. Some x) c.in-Some-Run.field-0-is) ∙ c.in-Some-Run.ensures.value in
    called (λ x a b s j. CallOutcome x a b held s j (g.S.Sink.taken c.args.sink.now) (g.S.Sink.taken c.run.new.sink)) _ _ _ _ third third c.run.result.status c.alone-in-Some-Run.result.status c.run.result.journal c.alone-in-Some-Run.result.journal asked c.second_word-job-in-Some-Run.ensures refl c.alone-in-Some-Run.ensures.status c.alone-in-Some-Run.ensures.journal (c.run.ensures.outcome held told)

pub returns-in-Some-Run-clause-host_fault : goal.returns-in-Some-Run-clause-host_fault
returns-in-Some-Run-clause-host_fault g c held told =
    let third = third_word c.args.words.now in
    let asked : Some (Run c.in-Some-Run.form) ≡ command_of c.args.words.now = sym (ap (λ x. Some x) c.in-Some-Run.field-0-is) ∙ c.in-Some-Run.ensures.value in
    called (λ x a b s (j : List Event). s ≡ HostFault → RoseAmong g.H.Host.faults c.args.host.now c.run.new.host (names_to_fetch x a b held)) _ _ _ _ third third c.run.result.status c.alone-in-Some-Run.result.status c.run.result.journal c.alone-in-Some-Run.result.journal asked c.second_word-job-in-Some-Run.ensures refl c.alone-in-Some-Run.ensures.status c.alone-in-Some-Run.ensures.journal (c.run.ensures.host_fault held told)

pub returns-in-Some-Run-clause-complete : goal.returns-in-Some-Run-clause-complete
returns-in-Some-Run-clause-complete g c held told =
    let third = third_word c.args.words.now in
    let asked : Some (Run c.in-Some-Run.form) ≡ command_of c.args.words.now = sym (ap (λ x. Some x) c.in-Some-Run.field-0-is) ∙ c.in-Some-Run.ensures.value in
    called (λ x a b s j. CallCompletes x a b held s j) _ _ _ _ third third c.run.result.status c.alone-in-Some-Run.result.status c.run.result.journal c.alone-in-Some-Run.result.journal asked c.second_word-job-in-Some-Run.ensures refl c.alone-in-Some-Run.ensures.status c.alone-in-Some-Run.ensures.journal (c.run.ensures.complete held told)

pub returns-in-Some-Run-clause-given : goal.returns-in-Some-Run-clause-given
returns-in-Some-Run-clause-given g c =
    let second = second_word c.args.words.now in
    let third = third_word c.args.words.now in
    let machine = option_map g.O.SingleKernel.one c.alone-in-Some-Run.result.machine in
    let asked : Some (Run c.in-Some-Run.form) ≡ command_of c.args.words.now = sym (ap (λ x. Some x) c.in-Some-Run.field-0-is) ∙ c.in-Some-Run.ensures.value in
    called (λ x (a b : List ℕ) s j. CallGiven x s j machine (g.S.Sink.taken c.args.sink.now) (g.S.Sink.taken c.run.new.sink)) _ _ second second third third c.run.result.status c.alone-in-Some-Run.result.status c.run.result.journal c.alone-in-Some-Run.result.journal asked refl refl c.alone-in-Some-Run.ensures.status c.alone-in-Some-Run.ensures.journal c.run.ensures.given
