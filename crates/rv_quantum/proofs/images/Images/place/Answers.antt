use Rattle.isa_model.specs.Memory.{lacks_in}
use Rattle.rv_quantum.proofs.Rows.{at-there, has-inside, lacks-at, lacks-out}
use Rattle.rv_quantum.specs.Images.{is_kept, is_there, page_with}
use Rattle.std.proofs.Common.{Bool, ap, false, length, not, refl, rules, sym, true, ◌<◌, ◌∙◌, ◌≡◌}
use Rattle.rv_quantum.proofs.images.Images.place.Goals as goal

pub index-requires : goal.index-requires
index-requires c =
    let is = c.args.self.now.rows.items in
    let l : c.in-Some.k < length is = has-inside is c.in-Some.k c.args.page c.in-Some.ensures.found in
    search rules

pub returns-then-allows-clause-held : goal.returns-then-allows-clause-held
returns-then-allows-clause-held c =
    at-there c.args.self.now.rows.items c.in-Some.k c.args.page c.index.result.now c.in-Some.ensures.found c.index.ensures (ap is_there c.in-Some-rights.is)

pub returns-then-allows-clause-lacks : goal.returns-then-allows-clause-lacks
returns-then-allows-clause-lacks c =
    let s = c.args.self.now in
    let row = c.index.result.now in
    sym (lacks-at s.rows.items c.in-Some.k c.args.page row c.args.access s.apart c.in-Some.ensures.found c.index.ensures
    ∙ ap (λ r. lacks_in c.args.access (page_with r row.last)) c.in-Some-rights.is ∙ ap not (sym c.allows.ensures ∙ c.if-allows.true))

pub returns-else-allows-clause-lacks : goal.returns-else-allows-clause-lacks
returns-else-allows-clause-lacks c =
    let s = c.args.self.now in
    let row = c.index.result.now in
    sym (lacks-at s.rows.items c.in-Some.k c.args.page row c.args.access s.apart c.in-Some.ensures.found c.index.ensures
    ∙ ap (λ r. lacks_in c.args.access (page_with r row.last)) c.in-Some-rights.is ∙ ap not (sym c.allows.ensures ∙ c.if-allows.false))

pub returns-in-None-rights-clause-lacks : goal.returns-in-None-rights-clause-lacks
returns-in-None-rights-clause-lacks c =
    let s = c.args.self.now in
    let row = c.index.result.now in
    sym (lacks-at s.rows.items c.in-Some.k c.args.page row c.args.access s.apart c.in-Some.ensures.found c.index.ensures
    ∙ ap (λ r. lacks_in c.args.access (page_with r row.last)) c.in-None-rights.is)

pub returns-in-None-clause-lacks : goal.returns-in-None-clause-lacks
returns-in-None-clause-lacks c =
    let is = c.args.self.now.rows.items in
    sym (lacks-out is c.args.page c.args.access (out (is_kept is c.args.page) c.in-None.ensures.none))
  where
    out : (b : Bool) → true ≡ not b → b ≡ false
    out true e = absurd (cc)
    out false e = refl
