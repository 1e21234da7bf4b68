use Rattle.key_rows.specs.Table.{key_from}
use Rattle.hybrid_model.specs.Pairs.{side_of}
use Rattle.pair_core.specs.Shown.{pair_of}
use Rattle.pair_node.proofs.Shows.{request-small, requests-from}
use Rattle.pair_node.proofs.Sound.{sound-told}
use Rattle.pair_node.proofs.pair.Pair.next_request.Goals as goal
use Rattle.pair_offers.specs.Seeking.{request_number}
use Rattle.std.proofs.Common.{sym, ◌∙◌}
use Rattle.std.specs.Prelude.{option_map, ◌≡◌}

pub returns-clause-value : goal.returns-clause-value
returns-clause-value g c = c.next.ensures ∙ sym (requests-from g.T.PageTable.rows g.F.FileStore.files c.args.self.now.parts c.args.p.0 c.args.from.0 c.args.side.now c.requires.side)

pub returns-clause-below : goal.returns-clause-below
returns-clause-below g c =
    let pair = pair_of g.T.PageTable.rows g.F.FileStore.files c.args.self.now.parts in
    let sound = sound-told pair c.args.self.now.sound in
    let value : option_map request_number c.next.result ≡ key_from (side_of pair c.args.p.0).book.rows c.args.from.0 = c.next.ensures ∙ sym (requests-from g.T.PageTable.rows g.F.FileStore.files c.args.self.now.parts c.args.p.0 c.args.from.0 c.args.side.now c.requires.side) in
    request-small pair sound.coherent sound.small c.args.p.0 c.args.from.0 c.next.result value
