use Rattle.mck_word.specs.Maps.{at}
use Rattle.node_parts.proofs.Kept.{boot-gives, boot-lacks, boot-short, put-is, put-kept}
use Rattle.node_parts.proofs.parts.Parts.boot.Goals as goal
use Rattle.node_parts.specs.Partitions.{Partitions}
use Rattle.std.proofs.Common.{None, Ok, Some, ap, sym, ◌∙◌, ◌≡◌}
use Rattle.std.proofs.lemmas.Result.{err_from_is_err_and}

pub returns-in_err-check_held-clause-refused : goal.returns-in_err-check_held-clause-refused
returns-in_err-check_held-clause-refused g c =
    let p = err_from_is_err_and c.from_residual-in_err-check_held.result c.from_residual-in_err-check_held.ensures.1 in
    let idle : at c.args.self.now.instances c.args.i ≡ Some None = sym
    (ap (λ (t : Partitions). at t.instances c.args.i) c.self.view_is) ∙ c.in_ok-check_idle.ensures in
    rw (p.1, p.2) (boot-lacks c.args.i c.args.order c.args.job.now c.args.images.now c.args.self.now
    c.in_err-check_held.field-0.0 idle c.in_err-check_held.ensures)

pub returns-in_err-instance-clause-refused : goal.returns-in_err-instance-clause-refused
returns-in_err-instance-clause-refused g c =
    let p = err_from_is_err_and c.from_residual-in_err-instance.result c.from_residual-in_err-instance.ensures.1 in
    let idle : at c.args.self.now.instances c.args.i ≡ Some None = sym
    (ap (λ (t : Partitions). at t.instances c.args.i) c.self.view_is) ∙ c.in_ok-check_idle.ensures in
    rw (p.1, p.2)
    (boot-short c.args.i c.args.order c.args.job.now c.args.images.now c.args.self.now c.in_err-instance.field-0.0 idle
    c.in_ok-check_held.ensures (c.in_err-instance.ensures.refused c.args.i c.args.self.now))

pub invariant_of-self : goal.invariant_of-self
invariant_of-self g c =
    let s = c.self.inside in put-kept s.cores s.frames s.instances c.boot-2.new.self c.args.i
    (Some c.in_ok-instance.instance) c.self.invariant c.boot-2.ensures

pub returns-clause-ok : goal.returns-clause-ok
returns-clause-ok g c =
    let s = c.self.inside in
    let idle : at c.args.self.now.instances c.args.i ≡ Some None = sym
    (ap (λ (t : Partitions). at t.instances c.args.i) c.self.view_is) ∙ c.in_ok-check_idle.ensures in
    boot-gives c.args.i c.args.order c.args.job.now c.args.images.now c.args.self.now c.in_ok-instance.instance idle
    c.in_ok-check_held.ensures c.in_ok-instance.ensures.value c.in_ok-instance.ensures.frames
    ∙ ap (λ t. Ok t) (put-is s.cores s.frames s.instances c.boot-2.new.self c.args.i (Some c.in_ok-instance.instance)
    c.args.self.now c.self.view_is c.boot-2.ensures)
