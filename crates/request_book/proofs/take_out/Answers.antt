use Rattle.std.proofs.Common.{◌∙◌, not, eqb, rules}
use Rattle.std.proofs.lemmas.Fn.{filter_same}
use Rattle.request_book.proofs.Moves as moves
use Rattle.request_book.proofs.take_out.Goals as goal

pub returns-then-is_first-clause-items : goal.returns-then-is_first-clause-items
returns-then-is_first-clause-items c = c.pop_front.ensures.rest ∙ moves.without-oldest c.args.q c.args.waiting.now.items c.requires (c.is_first.ensures.0 c.if-is_first.true)

pub returns-else-is_first-clause-items : goal.returns-else-is_first-clause-items
returns-else-is_first-clause-items c = filter_same _ (λ x. not (eqb x c.args.q)) _ (λ x b f' k. search rules) _ _ c.retain.ensures.filtered
