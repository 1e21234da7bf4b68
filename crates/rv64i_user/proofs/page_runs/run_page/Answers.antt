use Rattle.std.proofs.Common.{◌≡◌, false, replicate, get_or, refl, inr}
use Rattle.std.proofs.lemmas.List.{get_or-replicate}
use Rattle.rv64i_user.proofs.Leading.{leads-none}
use Rattle.rv64i_user.proofs.page_runs.run_page.Goals as goal

pub loop-left-init : goal.loop-left-init
loop-left-init g c = record {
  on = c.requires.on;
  leads = leads-none c.args.most c.args.r.now (g.P.PageMem.memory c.args.mem.now.mem) c.args.stop.now c.requires.on;
  started = inr (refl, refl);
  aligned = c.requires.aligned;
  zero = c.requires.zero;
  page = c.requires.page;
  marked = λ l small is. let none : get_or (replicate 64 false) l false ≡ false = get_or-replicate 64 l false false small in absurd (cc (is, none));
}
