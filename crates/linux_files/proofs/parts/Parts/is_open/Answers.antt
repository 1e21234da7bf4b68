use Rattle.std.proofs.Common.{ap, refl, sym, ◌∙◌}
use Rattle.file_model.specs.Files.{is_open}
use Rattle.file_model.specs.declared.descriptions.Target.TheVariants.{OfNode, ReadEnd, WriteEnd}
use Rattle.linux_files.proofs.Drops.{open-count}
use Rattle.linux_files.specs.Seen.{seen_parts}
use Rattle.std.specs.Prelude.{nat_lt}
use Rattle.linux_files.proofs.parts.Parts.is_open.Goals as goal

pub returns-in-OfNode : goal.returns-in-OfNode
returns-in-OfNode c =
    let files = seen_parts c.args.self.now in
    c.is_held.ensures ∙ ap (nat_lt 0) (c.requires.kept.counted.holds c.in-OfNode.node) ∙ sym (open-count files.descriptions files (OfNode c.in-OfNode.node) refl) ∙ ap (is_open files) (sym c.in-OfNode.is)

pub returns-in-ReadEnd : goal.returns-in-ReadEnd
returns-in-ReadEnd c =
    let files = seen_parts c.args.self.now in
    c.has.ensures ∙ ap (nat_lt 0) (c.requires.kept.counted.readers c.in-ReadEnd.pipe) ∙ sym (open-count files.descriptions files (ReadEnd c.in-ReadEnd.pipe) refl) ∙ ap (is_open files) (sym c.in-ReadEnd.is)

pub returns-in-WriteEnd : goal.returns-in-WriteEnd
returns-in-WriteEnd c =
    let files = seen_parts c.args.self.now in
    c.has-in-WriteEnd.ensures ∙ ap (nat_lt 0) (c.requires.kept.counted.writers c.in-WriteEnd.pipe) ∙ sym (open-count files.descriptions files (WriteEnd c.in-WriteEnd.pipe) refl) ∙ ap (is_open files) (sym c.in-WriteEnd.is)
