use Rattle.file_model.specs.Files.{Files}
use Rattle.kernel_model.specs.OneKernel.{boot_files, with_consoles, with_line}
use Rattle.mck_word.specs.Lists.{count_from}
use Rattle.job_boot.proofs.Descriptors.{lines-descriptors}
use Rattle.job_boot.proofs.files.boot_files.Goals as goal
use Rattle.std.proofs.Common.{ap, fold, length, ◌∙◌}

pub add_consoles-requires-clause-none : goal.add_consoles-requires-clause-none
add_consoles-requires-clause-none g c =
    ap (λ (f : Files). f.descriptors) c.in_ok-add_files.ensures
    ∙ lines-descriptors c.as_slice.result.now (g.F.FileStore.files c.in_ok-files.files) ∙ ap (λ (f : Files). f.descriptors) c.in_ok-files.ensures

pub returns : goal.returns
unfolding boot_files
returns g c =
    c.in_ok-add_consoles.ensures
    ∙ ap (with_consoles c.args.job.now (count_from 1 (length c.args.job.now.guests))) (c.in_ok-add_files.ensures ∙ (λ i. fold with_line (c.in_ok-files.ensures i) (c.as_slice.ensures i)))
