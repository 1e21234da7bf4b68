use Rattle.std.proofs.Common.{◌∙◌}
use Rattle.mck_word.specs.declared.Access.TheVariants.{Exec}
use Rattle.rv64i_user.proofs.StoreRights.{lacks-stopped}
use Rattle.rv64i_user.proofs.kept.KeptUserMem.store_to.Goals as goal

pub invariant_of-self : goal.invariant_of-self
invariant_of-self g c =
    let s = c.args.self.now in
    let m = g.P.PageMem.memory s.mem in
    let w = g.P.PageMem.memory c.store_to.new.m in
    record {
      held = λ h. c.store_to.ensures.held s.place s.page (s.held h);
      may = λ h. lacks-stopped m w c.store_to.new.stop c.args.addr c.args.size c.args.v Exec s.page c.store_to.ensures.stored ∙ s.may h;
    }
