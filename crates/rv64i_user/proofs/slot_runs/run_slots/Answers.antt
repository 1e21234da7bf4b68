use Rattle.std.proofs.Common.{◌≡◌, ◌+◌, ◌-◌, ◌*◌, ◌^◌, ◌<◌, suc, false, sym, ap, ◌∙◌, refl, subst, arith}
use Rattle.mck_word.specs.declared.Access.TheVariants.{Exec}
use Rattle.isa_model.specs.Memory.{lacks}
use Rattle.rv64i_user.specs.Places.{bytes_of, word_in}
use Rattle.rv64i_user.specs.Runs.{Leads}
use Rattle.rv64i_user.specs.Slots.{at_pc}
use Rattle.rv64i_user.proofs.Leading.{leads-none, step-on, step-any}
use Rattle.rv64i_user.proofs.SlotSteps.{does-here}
use Rattle.rv64i_user.proofs.slot_runs.run_slots.Goals as goal

pub loop-k-init : goal.loop-k-init
loop-k-init g c =
    let none : c.args.left.now - (c.args.from - c.args.from) ≡ c.args.left.now = omega arith in
    let place = c.requires.place in
    let low = c.requires.low in
    let some = c.requires.some in
    let inside = c.requires.inside in
    let r = at_pc c.args.pc.now c.args.x.now in
    let m = g.P.PageMem.memory c.args.mem.now.mem in
    record {
      on = c.requires.on;
      leads = subst (λ k. Leads c.args.left.now r m k r m c.args.stop.now) (sym none) (leads-none c.args.left.now r m c.args.stop.now c.requires.on);
      left = refl;
      place = omega arith;
      zero = c.requires.zero;
      page = refl;
      code = refl;
    }

pub returns-in-Elsewhere-clause-leads : goal.returns-in-Elsewhere-clause-leads
returns-in-Elsewhere-clause-leads g c =
    let l = c.loop-k in
    let i = l.invariant in
    let s = c.index-slots-k.result in
    let m = g.P.PageMem.memory l.mem.mem in
    let o = g.P.PageMem.memory c.args.mem.now.mem in
    let p = c.args.mem.now.page in
    let low = c.requires.low in
    let inside = c.requires.inside in
    let few = c.requires.few in
    let below = c.loop-k-test.true in
    let kept : l.mem.page < 2 ^ 52 = subst (λ x. x < 2 ^ 52) (sym i.page) low in
    let may : lacks m Exec p ≡ false = subst (λ x. lacks m Exec x ≡ false) i.page (l.mem.may kept) in
    let word : s.word ≡ word_in (bytes_of o p) (4 * l.k) = ap (λ d. d.word) c.index-slots-k.is ∙ c.requires.words l.k s (omega arith) below in
    let here = does-here m o p l.k l.pc l.x s may low (omega arith) i.place word i.code in
    let left = i.left in
    let one : c.args.left.now - (l.k - c.args.from) ≡ suc (l.left - (l.k - c.args.from + 1)) = omega arith in
    step-on c.args.left.now (c.args.left.now - (l.k - c.args.from)) (l.left - (l.k - c.args.from + 1)) (at_pc c.args.pc.now c.args.x.now) (at_pc l.pc l.x) (at_pc c.one.new.pc c.one.new.x)
    o m (g.P.PageMem.memory c.one.new.mem.mem) l.stop c.one.new.stop i.on i.leads one (c.one.ensures.did ∙ sym here) c.in-Elsewhere.ensures.ends.1

pub returns-in-Leave-clause-leads : goal.returns-in-Leave-clause-leads
returns-in-Leave-clause-leads g c =
    let l = c.loop-k in
    let i = l.invariant in
    let s = c.index-slots-k.result in
    let m = g.P.PageMem.memory l.mem.mem in
    let o = g.P.PageMem.memory c.args.mem.now.mem in
    let p = c.args.mem.now.page in
    let low = c.requires.low in
    let inside = c.requires.inside in
    let few = c.requires.few in
    let below = c.loop-k-test.true in
    let kept : l.mem.page < 2 ^ 52 = subst (λ x. x < 2 ^ 52) (sym i.page) low in
    let may : lacks m Exec p ≡ false = subst (λ x. lacks m Exec x ≡ false) i.page (l.mem.may kept) in
    let word : s.word ≡ word_in (bytes_of o p) (4 * l.k) = ap (λ d. d.word) c.index-slots-k.is ∙ c.requires.words l.k s (omega arith) below in
    let here = does-here m o p l.k l.pc l.x s may low (omega arith) i.place word i.code in
    let left = i.left in
    let one : c.args.left.now - (l.k - c.args.from) ≡ suc (l.left - (l.k - c.args.from + 1)) = omega arith in
    let rest : l.left - (l.k - c.args.from + c.gone.result) ≡ c.args.left.now - (l.k - c.args.from) - c.gone.result = omega arith in
    step-any c.args.left.now (c.args.left.now - (l.k - c.args.from)) (l.left - (l.k - c.args.from + 1)) c.gone.result (l.left - (l.k - c.args.from + c.gone.result)) (at_pc c.args.pc.now c.args.x.now) (at_pc l.pc l.x) (at_pc c.one.new.pc c.one.new.x)
    o m (g.P.PageMem.memory c.one.new.mem.mem) l.stop c.one.new.stop i.on i.leads one (c.one.ensures.did ∙ sym here) c.gone.ensures rest

pub loop-k-preserved : goal.loop-k-preserved
loop-k-preserved g c =
    let l = c.loop-k in
    let i = l.invariant in
    let s = c.index-slots-k.result in
    let m = g.P.PageMem.memory l.mem.mem in
    let w = g.P.PageMem.memory c.one.new.mem.mem in
    let o = g.P.PageMem.memory c.args.mem.now.mem in
    let p = c.args.mem.now.page in
    let low = c.requires.low in
    let inside = c.requires.inside in
    let few = c.requires.few in
    let below = c.loop-k-test.true in
    let kept : l.mem.page < 2 ^ 52 = subst (λ x. x < 2 ^ 52) (sym i.page) low in
    let may : lacks m Exec p ≡ false = subst (λ x. lacks m Exec x ≡ false) i.page (l.mem.may kept) in
    let word : s.word ≡ word_in (bytes_of o p) (4 * l.k) = ap (λ d. d.word) c.index-slots-k.is ∙ c.requires.words l.k s (omega arith) below in
    let here = does-here m o p l.k l.pc l.x s may low (omega arith) i.place word i.code in
    let one : c.args.left.now - (l.k - c.args.from) ≡ suc (c.args.left.now - (l.k + 1 - c.args.from)) = omega arith in
    let next = c.in-Straight.ensures.ends.0 in
    let place = i.place in
    let same = c.in-Straight.ensures.code refl in
    record {
      on = c.in-Straight.ensures.ends.1;
      leads = step-on c.args.left.now (c.args.left.now - (l.k - c.args.from)) (c.args.left.now - (l.k + 1 - c.args.from)) (at_pc c.args.pc.now c.args.x.now) (at_pc l.pc l.x) (at_pc c.one.new.pc c.one.new.x)
          o m w l.stop c.one.new.stop i.on i.leads one (c.one.ensures.did ∙ sym here) c.in-Straight.ensures.ends.1;
      left = i.left;
      place = omega arith;
      zero = c.in-Straight.ensures.zero refl;
      page = c.in-Straight.ensures.page refl ∙ i.page;
      code = subst (λ x. bytes_of w x ≡ bytes_of m x) i.page same ∙ i.code;
    }
