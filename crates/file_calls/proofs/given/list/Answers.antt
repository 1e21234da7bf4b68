use Rattle.std.proofs.Common.{rules, ◌≡◌, sym, ap, subst, ◌∙◌, length, w64, of_z, to_z}
use Rattle.std.specs.Prelude.{◌&&◌, ◌==◌, drop, nat_lt, pos, ◌+◌}
use Rattle.file_calls.specs.Placed.{Gives, IsFilled, fitting, len_said}
use Rattle.file_model.specs.Acts.{all_records, list_node}
use Rattle.file_model.specs.Files.{set_offset}
use Rattle.file_model.specs.Errno.{EINVAL}
use Rattle.mck_word.specs.Words.{refused}
use Rattle.file_calls.proofs.EntryRecords.{list-stuck, list-filled}
use Rattle.file_calls.proofs.given.list.Goals as goal

pub returns-then-is_stuck : goal.returns-then-is_stuck
returns-then-is_stuck g c = λ most is.
    let files = g.S.FileStore.files c.args.files.now in
    let place = ap (λ d. d.offset) c.description-place.ensures.is in
    let value : to_z w64 (of_z w64 c.fails-then-is_stuck.result) ≡ refused EINVAL = search rules in
    list-stuck files c.args.d most c.args.node (length c.args.into.now) c.put_entries-filled.result c.args.into.now c.put_entries-filled.new.into (to_z w64 (of_z w64 c.fails-then-is_stuck.result))
    (sym c.is_directory.ensures ∙ c.if-not-is_directory.false) (sym c.is_unlinked.ensures ∙ c.if-is_unlinked.false) is
    (subst (λ k. IsFilled (fitting files c.args.node k (length c.args.into.now)) c.put_entries-filled.result c.args.into.now c.put_entries-filled.new.into) place c.put_entries-filled.ensures.filled)
    (ap (λ k. nat_lt 0 (length (drop k (all_records files c.args.node))) && c.put_entries-filled.result.entries == 0) (sym place) ∙ sym c.is_stuck.ensures ∙ c.if-is_stuck.true)
    value

pub returns : goal.returns
returns g c = λ most is.
    let files = g.S.FileStore.files c.args.files.now in
    let place = ap (λ d. d.offset) c.description-place.ensures.is in
    let bound = c.put_entries-filled.ensures.bound in
    let value : to_z w64 c.put_entries-filled.result.bytes ≡ pos c.put_entries-filled.result.bytes = search rules in
    subst (λ v. Gives (list_node files c.args.d most c.args.node) v (len_said v) c.args.into.now c.put_entries-filled.new.into (g.S.FileStore.files c.set_offset.new.self)) (sym value)
    (list-filled files (g.S.FileStore.files c.set_offset.new.self) c.args.d most c.args.node (length c.args.into.now) c.put_entries-filled.result c.args.into.now c.put_entries-filled.new.into
    (sym c.is_directory.ensures ∙ c.if-not-is_directory.false) (sym c.is_unlinked.ensures ∙ c.if-is_unlinked.false) is
    (subst (λ k. IsFilled (fitting files c.args.node k (length c.args.into.now)) c.put_entries-filled.result c.args.into.now c.put_entries-filled.new.into) place c.put_entries-filled.ensures.filled)
    (ap (λ k. nat_lt 0 (length (drop k (all_records files c.args.node))) && c.put_entries-filled.result.entries == 0) (sym place) ∙ sym c.is_stuck.ensures ∙ c.if-is_stuck.false)
    (c.set_offset.ensures ∙ ap (λ k. set_offset c.args.d (k + c.put_entries-filled.result.entries) files) place))
