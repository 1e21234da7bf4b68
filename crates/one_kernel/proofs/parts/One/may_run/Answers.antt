use Rattle.kernel_model.specs.Nodes.{instructions_in_all}
use Rattle.kernel_tables.specs.Shown.{node_of}
use Rattle.one_files.specs.Seen.{seen}
use Rattle.one_kernel.proofs.parts.One.may_run.Goals as goal
use Rattle.one_kernel.specs.Parts.{one_of}
use Rattle.std.proofs.Common.{ap, sym, ◌∙◌}
use Rattle.std.specs.Prelude.{nat_lt, ◌&&◌}

pub returns-then-may_run : goal.returns-then-may_run
unfolding one_of node_of
returns-then-may_run c =
    let x = c.args.self.now in
    let node = node_of x.node (seen x.files) in
    ap (λ n. nat_lt n x.node.limit) (c.instructions_in_all.ensures.is (seen x.files))
    ∙ ap (λ b. b && nat_lt (instructions_in_all node) node.limit) (sym c.if-may_run.true ∙ c.may_run.ensures (seen x.files))

pub returns-else-may_run : goal.returns-else-may_run
unfolding one_of
returns-else-may_run c =
    let x = c.args.self.now in
    let node = node_of x.node (seen x.files) in
    c.if-may_run.false ∙ ap (λ b. b && nat_lt (instructions_in_all node) node.limit) (sym c.if-may_run.false ∙ c.may_run.ensures (seen x.files))
