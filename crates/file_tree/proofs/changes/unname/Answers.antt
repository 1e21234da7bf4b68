use Rattle.std.proofs.Common.{◌∙◌, ap, arith}
use Rattle.file_tree.proofs.TreeKeeps.{index-along, index-unnamed, listed-within, unnamed-same}
use Rattle.file_tree.specs.Index.{tagged}
use Rattle.file_tree.specs.Tags.{Tag, place, tag_cmp, tag_in}
use Rattle.std.specs.Prelude.{option_map}
use Rattle.file_tree.proofs.changes.unname.Goals as goal

pub remove-requires : goal.remove-requires
remove-requires c =
    let within = listed-within c.args.nodes.now.map c.args.nodes.now.keys c.args.names.now.items c.args.n c.in-Some.i
    (c.in-Some.ensures ∙ ap (λ rows. option_map (λ (t : Tag). place tag_cmp t (tagged c.args.nodes.now.map rows)) (tag_in c.args.nodes.now.map c.args.n)) c.deref.ensures.value) c.requires in
    let len = c.args.names.now.ok.0 in
    omega arith

pub returns-in-Some-clause-index : goal.returns-in-Some-clause-index
returns-in-Some-clause-index c =
    index-along _ _ _ _ _ _ c.unname.ensures.map c.unname.ensures.keys c.remove.ensures.items
    (index-unnamed c.args.nodes.now.map c.args.nodes.now.keys c.args.names.now.items c.args.n c.in-Some.i
    (c.in-Some.ensures ∙ ap (λ rows. option_map (λ (t : Tag). place tag_cmp t (tagged c.args.nodes.now.map rows)) (tag_in c.args.nodes.now.map c.args.n)) c.deref.ensures.value) c.requires)

pub returns-in-None-clause-map : goal.returns-in-None-clause-map
returns-in-None-clause-map c =
    unnamed-same c.args.nodes.now.map c.args.nodes.now.keys c.args.names.now.items c.args.n
    (c.in-None.ensures ∙ ap (λ rows. option_map (λ (t : Tag). place tag_cmp t (tagged c.args.nodes.now.map rows)) (tag_in c.args.nodes.now.map c.args.n)) c.deref.ensures.value)
