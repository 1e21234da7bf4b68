use Rattle.std.proofs.Common.{◌∙◌}
use Rattle.mck_word.specs.declared.Access.TheVariants.{Exec}
use Rattle.rv64i_user.proofs.StoreRights.{lacks-stored}
use Rattle.rv64i_user.proofs.kept.KeptUserMem.store.Goals as goal

pub invariant_of-self : goal.invariant_of-self
invariant_of-self g c =
    let s = c.args.self.now in
    let m = g.P.PageMem.memory s.mem in
    let w = g.P.PageMem.memory c.store.new.m in
    record {
      held = λ h. c.store.ensures.held s.place s.page (s.held h);
      may = λ h. lacks-stored m w c.store.result c.args.addr c.args.size c.args.v Exec s.page c.store.ensures.stored ∙ s.may h;
    }
