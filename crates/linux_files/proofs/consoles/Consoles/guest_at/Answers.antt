use Rattle.std.proofs.Common.{◌∙◌, ap, arith, sym}
use Rattle.file_tree.proofs.EachRows.{key-here, key-past, keys-each}
use Rattle.linux_files.proofs.RowKeeps.{guest-fits}
use Rattle.linux_files.specs.Consoles.{console_of_row}
use Rattle.mck_word.specs.Maps.{keys}
use Rattle.linux_files.proofs.consoles.Consoles.guest_at.Goals as goal

pub returns-then-place-rows-clause-guest : goal.returns-then-place-rows-clause-guest
returns-then-place-rows-clause-guest c =
    key-past c.self.inside.rows.map c.args.self.now.map c.as_slice-rows.result.now c.args.place (ap (λ t. keys t.map) (sym c.self.view_is) ∙ keys-each console_of_row c.self.inside.rows.map) c.as_slice-rows.ensures (omega arith)

pub overflow_cast-result : goal.overflow_cast-result
overflow_cast-result c = record { fits = guest-fits c.self.inside.rows.map c.as_slice-rows.result.now c.args.place c.index-rows-place.result c.self.invariant c.as_slice-rows.ensures (omega arith) }

pub returns-clause-guest : goal.returns-clause-guest
returns-clause-guest c =
    key-here c.self.inside.rows.map c.args.self.now.map c.as_slice-rows.result.now c.args.place (ap (λ t. keys t.map) (sym c.self.view_is) ∙ keys-each console_of_row c.self.inside.rows.map) c.as_slice-rows.ensures
    c.index-rows-place.result (omega arith)
