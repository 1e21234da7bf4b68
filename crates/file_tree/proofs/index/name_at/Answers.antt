use Rattle.std.proofs.Common.{◌∙◌, None, Some, ap, arith, cond, sym}
use Rattle.std.proofs.lemmas.Bool.{eq-eqb, ne_eqb}
use Rattle.file_tree.proofs.Indexed.{kth-here, kth-past}
use Rattle.file_tree.proofs.index.name_at.Goals as goal

pub returns-then-k-rows-clause-name : goal.returns-then-k-rows-clause-name
returns-then-k-rows-clause-name c = sym (kth-past c.args.nodes.now.map c.args.nodes.now.keys c.args.rows.now c.requires c.args.directory c.args.k c.place_of-start.result c.place_of-start.ensures.at (omega arith))

pub returns-then-tag-directory-clause-name : goal.returns-then-tag-directory-clause-name
returns-then-tag-directory-clause-name c =
    sym (kth-here c.args.nodes.now.map c.args.nodes.now.keys c.args.rows.now c.requires c.args.directory c.args.k c.place_of-start.result c.place_of-start.ensures.at (record { node = 0; key = 0 }) c.tag_of-tag.result.directory
    c.tag_of-tag.result.name.now (omega arith) c.tag_of-tag.ensures ∙ ap (λ b. cond b (Some c.tag_of-tag.result.name.now) None) (eq-eqb _ _ c.if-tag-directory.true))

pub returns-else-tag-directory-clause-name : goal.returns-else-tag-directory-clause-name
returns-else-tag-directory-clause-name c =
    sym (kth-here c.args.nodes.now.map c.args.nodes.now.keys c.args.rows.now c.requires c.args.directory c.args.k c.place_of-start.result c.place_of-start.ensures.at (record { node = 0; key = 0 }) c.tag_of-tag.result.directory
    c.tag_of-tag.result.name.now (omega arith) c.tag_of-tag.ensures ∙ ap (λ b. cond b (Some c.tag_of-tag.result.name.now) None) (ne_eqb _ _ c.if-tag-directory.false))
