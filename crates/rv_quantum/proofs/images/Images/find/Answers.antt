use Rattle.rv_quantum.proofs.Rows.{has-there, kept-true}
use Rattle.std.proofs.Common.{ap, arith, length, not, rules, slice_index_or, sym, ◌%◌, ◌<◌, ◌≡◌}
use Rattle.std.proofs.lemmas.Bool.Decides.{nat_tests}
use Rattle.rv_quantum.proofs.images.Images.find.Goals as goal

pub returns-then-index-page-clause-found : goal.returns-then-index-page-clause-found
returns-then-index-page-clause-found c =
    let is = c.args.self.now.rows.items in
    let k = slice_index_or c.args.self.now.guesses (c.args.page % 64) 0 in
    let inside : k < length is = search rules in
    let same : c.index.result.now.page ≡ c.args.page = let t = c.if-index-page.true in grind (arith, nat_tests, t) in
    has-there is k c.args.page c.index.result.now inside c.index.ensures same

pub returns-then-index-page-clause-none : goal.returns-then-index-page-clause-none
returns-then-index-page-clause-none c =
    let is = c.args.self.now.rows.items in
    let k = slice_index_or c.args.self.now.guesses (c.args.page % 64) 0 in
    let inside : k < length is = search rules in
    let same : c.index.result.now.page ≡ c.args.page = let t = c.if-index-page.true in grind (arith, nat_tests, t) in
    sym (ap not (kept-true is k c.args.page (has-there is k c.args.page c.index.result.now inside c.index.ensures same)))
