use Rattle.std.proofs.Common.{◌<◌, ◌∙◌, ap}
use Rattle.mck_word.specs.Maps.{entries}
use Rattle.one_files.proofs.KthNames.{kth-few, kth-name}
use Rattle.one_files.proofs.Rows.{if-lent}
use Rattle.one_files.specs.Named.{is_kth, names_by_number}
use Rattle.std.specs.Prelude.{find}
use Rattle.one_files.proofs.store.RowFilesFileStore.name_at.Goals as goal

pub returns-clause-name : goal.returns-clause-name
returns-clause-name c =
    c.kth_name.ensures ∙ ap (λ es. find (is_kth es c.args.directory c.args.k) (names_by_number es c.args.directory)) c.as_slice.ensures.rows
    ∙ kth-name (entries c.args.self.now.nodes.map) c.args.directory c.args.k

pub returns-clause-few : goal.returns-clause-few
returns-clause-few c =
    let is = c.kth_name.ensures ∙ kth-name c.as_slice.result.now c.args.directory c.args.k in
    if-lent (c.args.k < 4_294_967_296) c.kth_name.result _ is (λ s. kth-few c.as_slice.result.now c.args.directory c.args.k 4_294_967_296 c.as_slice.ensures.few s)
