use Rattle.std.proofs.Common.{ap, refl, sym, ◌∙◌}
use Rattle.linux_files.proofs.Closing.{has-row, named-kept, named-used, names-but, names-closed}
use Rattle.file_tree.specs.Counting.{count_in}
use Rattle.linux_files.specs.Counted.{names_of}
use Rattle.linux_files.specs.Steps.{is_suspect}
use Rattle.mck_word.specs.Maps.{cut, no_rows, put}
use Rattle.std.specs.Prelude.{Some, [], unwrap_or, ℕ, ◌≡◌, ◌∷◌}
use Rattle.linux_files.proofs.parts.Parts.close.Goals as goal

pub row_mut-requires : goal.row_mut-requires
row_mut-requires c = has-row c.args.self.now.descriptors.map c.args.pid.0 c.args.fd c.requires.named

names : (c : goal.After-settle-arg-2-1) → (q : ℕ) → count_in c.lower.new.self.counts q ≡ names_of (put c.args.self.now.descriptors.map c.args.pid.0 c.cut.new.self) q
names c =
    let old = c.args.self.now in
    let p = c.args.pid.0 in
    names-closed old p c.args.fd c.unwrap-d.result _ c.lower.new.self.counts (put old.descriptors.map p c.cut.new.self) c.requires.store.kept.counted refl (sym c.named_by.ensures ∙ c.unwrap-d.ensures)
    (ap (put old.descriptors.map p) (c.cut.ensures ∙ ap (λ o. cut (unwrap_or o no_rows) c.args.fd) (sym c.row_mut.ensures.value))) c.lower.ensures.counts

pub settle-requires-clause-kept : goal.settle-requires-clause-kept
settle-requires-clause-kept c = named-kept c.args.self.now _ refl refl refl refl refl refl (names c) c.requires.store.kept

pub settle-requires-clause-used : goal.settle-requires-clause-used
settle-requires-clause-used c =
    let old = c.args.self.now in
    let now = record old { descriptors = record { map = put old.descriptors.map c.args.pid.0 c.cut.new.self; spare = old.descriptors.spare }; named = c.lower.new.self } in
    named-used old now refl refl refl refl refl refl (names c) (is_suspect (Some c.unwrap-d.result ∷ [])) (names-but old.named.counts c.lower.new.self.counts c.unwrap-d.result c.lower.ensures.counts) refl c.requires.store
