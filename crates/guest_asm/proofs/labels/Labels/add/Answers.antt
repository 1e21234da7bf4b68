use Rattle.std.proofs.Common.{◌≡◌, ◌∙◌, sym, None}
use Rattle.std.proofs.lemmas.Map.Text.{btree_map_updates_str}
use Rattle.guest_asm.specs.Labels.{marks_in}
use Rattle.guest_asm.proofs.LabelMaps.{mark_added, not_some}
use Rattle.guest_asm.proofs.labels.Labels.add.Goals as goal

pub returns : goal.returns
returns c other =
    let none : marks_in c.args.self.now c.args.name.now ≡ None = sym c.mark.ensures ∙ not_some c.mark.result (sym c.is_some.ensures ∙ c.if-is_some.false) in
    btree_map_updates_str c.args.name.now c.args.self.now.marks c.insert.new.self _ c.in_ok-insert.ensures.updates other ∙ mark_added (marks_in c.args.self.now) c.args.name.now c.args.mark other none
