use Rattle.key_rows.specs.Table.{Table}
use Rattle.kernel_tables.specs.Shown.{node_of}
use Rattle.mck_word.specs.EachLaws.{each-none}
use Rattle.mck_word.specs.Maps.{each}
use Rattle.one_kernel.specs.Parts.{one_of, shown_own}
use Rattle.one_kernel.specs.declared.parts.Own.{Own}
use Rattle.std.proofs.Common.{ap, ◌∙◌}
use Rattle.one_kernel.proofs.parts.One.without_guests.Goals as goal

pub returns : goal.returns
unfolding one_of
returns c =
    let node = ap (node_of c.in_ok-node.node) c.in_ok-files.ensures ∙ c.in_ok-node.ensures in
    let own = ap (λ (t : Table Own). each shown_own t.map) c.new-2.ensures ∙ each-none shown_own in
    λ i. record { node = node i; own = own i; free = c.from.ensures i }
