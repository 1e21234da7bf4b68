use Rattle.rv_quantum.proofs.Rows.{has-there, kept-true, none-kept}
use Rattle.std.proofs.Common.{ap, arith, length, not, rules, sym, ◌<◌, ◌≡◌, ◌≤◌}
use Rattle.std.proofs.lemmas.Bool.Decides.{nat_tests}
use Rattle.rv_quantum.proofs.images.Images.scan.Goals as goal

pub returns-then-index-page-clause-found : goal.returns-then-index-page-clause-found
returns-then-index-page-clause-found c =
    let is = c.args.self.now.rows.items in
    let inside : c.loop-k.k < length is = search rules in
    let same : c.index.result.now.page ≡ c.args.page = let t = c.if-index-page.true in grind (arith, nat_tests, t) in
    has-there is c.loop-k.k c.args.page c.index.result.now inside c.index.ensures same

pub returns-then-index-page-clause-none : goal.returns-then-index-page-clause-none
returns-then-index-page-clause-none c =
    let is = c.args.self.now.rows.items in
    let inside : c.loop-k.k < length is = search rules in
    let same : c.index.result.now.page ≡ c.args.page = let t = c.if-index-page.true in grind (arith, nat_tests, t) in
    sym (ap not (kept-true is c.loop-k.k c.args.page (has-there is c.loop-k.k c.args.page c.index.result.now inside c.index.ensures same)))

pub returns-clause-none : goal.returns-clause-none
returns-clause-none c =
    let is = c.args.self.now.rows.items in
    let all : length is ≤ c.loop-k.k = search rules in
    sym (ap not (none-kept is c.args.page (λ j d l. c.loop-k.invariant j d (omega (arith, l, all)))))
