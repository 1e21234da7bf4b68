use Rattle.std.proofs.Common.{ap, arith, refl, ◌∙◌}
use Rattle.file_tree.specs.Counting.{count_in}
use Rattle.linux_files.proofs.Closing.{named-store, names-shared, row-most, slots-row, told-loss}
use Rattle.linux_files.specs.Slotted.{slots_name}
use Rattle.mck_word.specs.Maps.{at, no_rows}
use Rattle.std.specs.Prelude.{unwrap_or, ℕ, ◌+◌, ◌-◌, ◌≡◌}
use Rattle.linux_files.proofs.parts.Parts.share.Goals as goal

pub raise_all-requires-clause-there : goal.raise_all-requires-clause-there
raise_all-requires-clause-there c d l =
    let m = c.args.self.now.descriptors.map in
    let row = unwrap_or (at m c.args.parent.0) no_rows in
    let own = slots-row d c.as_slice.result.now row (c.as_slice.ensures.places ∙ c.descriptors_of-row.ensures) in
    let most = row-most m c.args.parent.0 d in
    let all = c.requires.store.kept.counted.named d in
    omega arith

counts : (c : goal.After-put) → (q : ℕ) → count_in c.lower_all.new.named.counts q ≡ count_in c.args.self.now.named.counts q + slots_name q c.as_slice.result.now - slots_name q c.as_slice-2.result.now
counts c q = c.lower_all.ensures q ∙ ap (λ n. n - slots_name q c.as_slice-2.result.now) (c.raise_all.ensures q)

pub returns-clause-store : goal.returns-clause-store
returns-clause-store c =
    let old = c.args.self.now in
    let own = c.as_slice-2.ensures.places ∙ c.descriptors_of-own.ensures in
    let names = names-shared old c.args.child.0 c.descriptors_of-row.result c.lower_all.new.named.counts c.put.new.self.map c.as_slice.result.now c.as_slice-2.result.now c.requires.store.kept.counted c.as_slice.ensures.places own c.put.ensures.row (counts c) in
    named-store old _ refl refl refl refl refl refl names
    (told-loss old.descriptors.map c.args.child.0 old.named.counts c.lower_all.new.named.counts c.as_slice.result.now c.as_slice-2.result.now old.unsettled c.either-self.result c.has_descriptors-loses.result c.either-self.ensures
    c.has_descriptors-loses.ensures own (counts c))
    c.requires.store
