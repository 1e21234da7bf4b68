use Rattle.std.proofs.Common.{◌≢◌, ◌+◌, ◌/◌, ◌%◌, ◌≤◌, ◌∙◌, arith}
use Rattle.std.proofs.lemmas.Bool.Decides.{nat_tests}
use Rattle.mck_word.specs.declared.Access.TheVariants.{Exec}
use Rattle.rv64i_user.proofs.Aside.{store-aside}
use Rattle.rv64i_user.proofs.StoreRights.{lacks-stopped}
use Rattle.rv64i_user.proofs.kept.Kept.store_aside.Goals as goal

pub invariant_of-self : goal.invariant_of-self
invariant_of-self g c =
    let s = c.args.self.now in
    let m = g.P.PageMem.memory s.mem in
    let w = g.P.PageMem.memory c.store_to-went.new.m in
    record {
      held = λ h. c.store_to-went.ensures.held s.place s.page (s.held h);
      may = λ h. lacks-stopped m w c.store_to-went.new.stop c.args.addr c.args.size c.args.v Exec s.page c.store_to-went.ensures.stored ∙ s.may h;
    }

pub returns-then-inside-clause-aside : goal.returns-then-inside-clause-aside
returns-then-inside-clause-aside g c = λ h.
    let s = c.args.self.now in
    let m = g.P.PageMem.memory s.mem in
    let w = g.P.PageMem.memory c.store_to-went.new.m in
    let t = c.if-inside.true in
    let inside : c.args.addr % 4096 + c.args.size ≤ 4096 = grind (arith, nat_tests, t) in
    let other : s.page ≢ c.args.addr / 4096 = grind (arith, nat_tests, h) in
    store-aside m w c.store_to-went.new.stop c.args.addr c.args.size c.args.v s.page c.store_to-went.ensures.stored c.requires.size c.ranges.addr.fits inside other
