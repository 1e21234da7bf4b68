use Rattle.std.proofs.Common.{◌∙◌, ap}
use Rattle.mck_word.specs.Maps.{entries}
use Rattle.one_files.proofs.KthNames.{some-names}
use Rattle.one_files.specs.Named.{some_name}
use Rattle.one_files.proofs.store.RowFilesFileStore.holds_names.Goals as goal

pub returns : goal.returns
returns c = c.some_name.ensures ∙ ap (λ es. some_name es c.args.directory) c.as_slice.ensures.rows ∙ some-names (entries c.args.self.now.nodes.map) c.args.directory
