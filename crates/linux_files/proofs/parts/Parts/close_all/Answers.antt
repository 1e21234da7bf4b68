use Rattle.std.proofs.Common.{ap, ◌∙◌}
use Rattle.file_tree.specs.Counting.{count_in}
use Rattle.linux_files.proofs.Closing.{named-kept, named-used, names-all-closed, names-but-slots}
use Rattle.linux_files.specs.Counted.{names_of}
use Rattle.linux_files.specs.Slotted.{slots_name}
use Rattle.linux_files.specs.Steps.{is_suspect}
use Rattle.linux_files.specs.declared.parts.Parts.{Parts}
use Rattle.std.specs.Prelude.{ℕ, ◌-◌, ◌≡◌}
use Rattle.linux_files.proofs.parts.Parts.close_all.Goals as goal

counts : (c : goal.After-settle-arg-1) → (q : ℕ) → count_in c.lower_all.new.named.counts q ≡ count_in c.args.self.now.named.counts q - slots_name q c.as_slice-slots.result.now
counts c q = c.lower_all.ensures q ∙ ap (λ (p : Parts). count_in p.named.counts q - slots_name q c.as_slice-slots.result.now) c.take_descriptors-row.ensures.rest

names : (c : goal.After-settle-arg-1) → (q : ℕ) → count_in c.lower_all.new.named.counts q ≡ names_of c.take_descriptors-row.new.self.descriptors.map q
names c =
    names-all-closed c.args.self.now c.args.pid.0 c.as_slice-slots.result.now c.lower_all.new.named.counts c.take_descriptors-row.new.self.descriptors.map c.requires.kept.counted
    (c.as_slice-slots.ensures.places ∙ c.take_descriptors-row.ensures.row) c.take_descriptors-row.ensures.map (counts c)

pub settle-requires-clause-kept : goal.settle-requires-clause-kept
settle-requires-clause-kept c =
    let r = c.take_descriptors-row.ensures.rest in
    named-kept c.args.self.now _ (ap (λ (p : Parts). p.descriptions.map) r) (ap (λ (p : Parts). p.tree.holds) r) (ap (λ (p : Parts). p.readers.counts) r) (ap (λ (p : Parts). p.writers.counts) r) (ap (λ (p : Parts). p.pipes.map) r)
    (ap (λ (p : Parts). p.loose) r) (names c) c.requires.kept

pub settle-requires-clause-used : goal.settle-requires-clause-used
settle-requires-clause-used c =
    let r = c.take_descriptors-row.ensures.rest in
    let now = record c.take_descriptors-row.new.self { named = c.lower_all.new.named } in
    named-used c.args.self.now now (ap (λ (p : Parts). p.descriptions.map) r) (ap (λ (p : Parts). p.tree.holds) r) (ap (λ (p : Parts). p.readers.counts) r) (ap (λ (p : Parts). p.writers.counts) r) (ap (λ (p : Parts). p.pipes.map) r)
    (ap (λ (p : Parts). p.loose) r) (names c) (is_suspect c.as_slice-slots.result.now) (names-but-slots c.args.self.now.named.counts c.lower_all.new.named.counts c.as_slice-slots.result.now (counts c))
    (ap (λ (p : Parts). p.unsettled) r) c.requires
