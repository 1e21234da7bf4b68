use Rattle.hybrid_model.specs.Pairs.{side_of}
use Rattle.mck_word.specs.Maps.{keys}
use Rattle.mck_word.specs.declared.Req.{Req}
use Rattle.pair_core.specs.Shown.{pair_of}
use Rattle.pair_offers.proofs.Above.{after-last}
use Rattle.pair_node.proofs.pair.Pair.request_above.Goals as goal
use Rattle.pair_offers.specs.Seeking.{request_number}
use Rattle.run_model.specs.Walks.{is_above_last}
use Rattle.std.proofs.Common.{ap, sym, ◌∙◌}
use Rattle.std.specs.Prelude.{Option, find, option_map, ◌-◌, ◌^◌}

pub returns-in-Some : goal.returns-in-Some
returns-in-Some g c =
    let pair = pair_of g.T.PageTable.rows g.F.FileStore.files c.args.self.now.parts in
    after-last request_number c.in-Some.q.0 (◌-◌ (2 ^ 64) 1) c.saturating_add.result (keys (side_of pair c.args.p.0).book.rows) c.next_request.result c.saturating_add.ensures c.next_request.ensures.value c.next_request.ensures.below
    ∙ ap (λ (o : Option Req). find (is_above_last (option_map request_number o)) (keys (side_of pair c.args.p.0).book.rows)) (sym c.in-Some.is)
