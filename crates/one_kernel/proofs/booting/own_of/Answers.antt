use Rattle.key_rows.specs.Table.{Table}
use Rattle.kernel_model.specs.Layout.{guest_memory}
use Rattle.mck_word.specs.EachLaws.{each-none}
use Rattle.mck_word.specs.Maps.{each}
use Rattle.one_kernel.specs.Parts.{shown_call}
use Rattle.one_kernel.specs.declared.calls.Call.{Call}
use Rattle.std.proofs.Common.{ap, ◌∙◌}
use Rattle.one_kernel.proofs.booting.own_of.Goals as goal

pub returns : goal.returns
returns c =
    let memory = c.in_ok-memory.ensures ∙ ap (guest_memory c.args.image.now) c.as_slice.ensures in
    let calls = ap (λ (t : Table Call). each shown_call t.map) c.new.ensures ∙ each-none shown_call in
    λ i. record { memory = memory i; calls = calls i }
