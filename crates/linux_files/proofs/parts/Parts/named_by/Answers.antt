use Rattle.std.proofs.Common.{◌∙◌, ap, sym}
use Rattle.mck_word.specs.MapLaws.{at-none}
use Rattle.mck_word.specs.Maps.{at, no_rows}
use Rattle.std.specs.Prelude.{unwrap_or}
use Rattle.linux_files.proofs.parts.Parts.named_by.Goals as goal

pub returns-in-None : goal.returns-in-None
returns-in-None c = sym (ap (λ o. at (unwrap_or o no_rows) c.args.fd) (sym c.in-None.ensures) ∙ at-none c.args.fd)
