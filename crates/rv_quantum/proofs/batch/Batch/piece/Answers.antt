use Rattle.isa_model.specs.declared.stops.Lack.{Lack}
use Rattle.isa_model.specs.declared.stops.Stop.TheVariants.{Fault, On}
use Rattle.rv_quantum.proofs.Grown.{all-went, few, grown, kept-same, missing-none, stopped-piece, went-piece}
use Rattle.rv_quantum.specs.Images.{is_kept}
use Rattle.rv_quantum.specs.Promised.{Promised, stopped_one}
use Rattle.std.proofs.Common.{ap, arith, rules, subst, sym, ◌+◌, ◌<◌, ◌^◌, ◌∙◌, ◌≡◌, ◌≤◌, true}
use Rattle.rv_quantum.proofs.batch.Batch.piece.Goals as goal

pub overflow_add-self : goal.overflow_add-self
overflow_add-self c =
    let s = c.args.self.now in
    let run = c.run-went in
    let few : run.result + stopped_one run.new.stop ≤ c.args.most = few c.args.most s.regs run.new.regs s.images.rows.items run.new.images.rows.items run.new.stop run.result run.ensures.did run.ensures.count run.ensures.seen in
    let room = c.requires.room in
    let l : s.done + run.result < 2 ^ 32 = omega (arith, few, room) in
    search rules

pub returns-in-Some-clause-most : goal.returns-in-Some-clause-most
returns-in-Some-clause-most c =
    let s = c.args.self.now in
    let run = c.run-went in
    let few : run.result + stopped_one run.new.stop ≤ c.args.most = few c.args.most s.regs run.new.regs s.images.rows.items run.new.images.rows.items run.new.stop run.result run.ensures.did run.ensures.count run.ensures.seen in
    omega (arith, few)

pub invariant_of-self : goal.invariant_of-self
invariant_of-self c =
    let s = c.args.self.now in
    let run = c.run-went in
    let piece = went-piece c.args.most s.regs run.new.regs s.images.rows.items run.new.images.rows.items run.new.stop run.result run.ensures.did run.ensures.count run.ensures.seen in
    let before = subst (Promised s.first s.done s.images.rows.items s.regs) c.requires.on s.promised in
    record {
      promised = subst (Promised s.first (s.done + run.result) run.new.images.rows.items run.new.regs) (sym c.requires.on)
          (grown s.first s.done s.regs run.result s.images.rows.items run.new.images.rows.items run.new.regs On c.fits.ensures before piece);
    }

pub overflow_add-count : goal.overflow_add-count
overflow_add-count c =
    let s = c.args.self.now in
    let run = c.run-went in
    let few : run.result + stopped_one run.new.stop ≤ c.args.most = few c.args.most s.regs run.new.regs s.images.rows.items run.new.images.rows.items run.new.stop run.result run.ensures.did run.ensures.count run.ensures.seen in
    let room = c.requires.room in
    let one = c.stopped.ensures in
    let l : run.result + c.stopped.result < 2 ^ 32 = omega (arith, few, room, one) in
    search rules

pub overflow_add-self-2 : goal.overflow_add-self-2
overflow_add-self-2 c =
    let s = c.args.self.now in
    let run = c.run-went in
    let few : run.result + stopped_one run.new.stop ≤ c.args.most = few c.args.most s.regs run.new.regs s.images.rows.items run.new.images.rows.items run.new.stop run.result run.ensures.did run.ensures.count run.ensures.seen in
    let room = c.requires.room in
    let one = c.stopped.ensures in
    let l : s.done + (run.result + c.stopped.result) < 2 ^ 32 = omega (arith, few, room, one) in
    search rules

pub returns-clause-most : goal.returns-clause-most
returns-clause-most c =
    let s = c.args.self.now in
    let run = c.run-went in
    let few : run.result + stopped_one run.new.stop ≤ c.args.most = few c.args.most s.regs run.new.regs s.images.rows.items run.new.images.rows.items run.new.stop run.result run.ensures.did run.ensures.count run.ensures.seen in
    let one = c.stopped.ensures in
    omega (arith, few, one)

pub invariant_of-self-2 : goal.invariant_of-self-2
invariant_of-self-2 c =
    let s = c.args.self.now in
    let run = c.run-went in
    let fault : (l : Lack) → run.new.stop ≡ Fault l → is_kept s.images.rows.items l.page ≡ true = λ l e.
    sym (kept-same s.images.rows.items run.new.images.rows.items l.page run.ensures.seen) ∙ missing-none run.new.images.rows.items run.new.stop (sym c.missing.ensures ∙ c.in_default.is) l e in
    let piece = stopped-piece c.args.most s.regs run.new.regs s.images.rows.items run.new.images.rows.items run.new.stop run.result run.ensures.did run.ensures.count run.ensures.seen fault in
    let before = subst (Promised s.first s.done s.images.rows.items s.regs) c.requires.on s.promised in
    record {
      promised = subst (λ n. Promised s.first (s.done + (run.result + n)) run.new.images.rows.items run.new.regs run.new.stop) (sym c.stopped.ensures)
          (grown s.first s.done s.regs (run.result + stopped_one run.new.stop) s.images.rows.items run.new.images.rows.items run.new.regs run.new.stop c.fits.ensures before piece);
    }

pub returns-clause-all : goal.returns-clause-all
returns-clause-all c = λ _ on.
    let s = c.args.self.now in
    let run = c.run-went in
    let all = all-went c.args.most s.regs run.new.regs s.images.rows.items run.new.images.rows.items run.new.stop run.result run.ensures.did run.ensures.count run.ensures.seen on in
    let one = c.stopped.ensures ∙ ap stopped_one on in
    omega (arith, all, one)
