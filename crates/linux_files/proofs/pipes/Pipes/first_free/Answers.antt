use Rattle.std.proofs.Common.{◌∙◌, ap, arith, sym}
use Rattle.file_model.specs.Files.{lowest_free}
use Rattle.file_tree.proofs.EachRows.{count-each, keys-each}
use Rattle.linux_files.specs.Rings.{bytes_of}
use Rattle.mck_word.specs.Lists.{lowest_not_in}
use Rattle.mck_word.specs.Maps.{count}
use Rattle.linux_files.proofs.pipes.Pipes.first_free.Goals as goal

pub returns-clause-lowest : goal.returns-clause-lowest
returns-clause-lowest c = c.first_free.ensures.lowest ∙ ap lowest_not_in (sym (keys-each bytes_of c.self.inside.rows.map)) ∙ ap (λ t. lowest_free t.map) c.self.view_is

pub returns-clause-within : goal.returns-clause-within
returns-clause-within c = let same = count-each bytes_of c.self.inside.rows.map in let is = ap (λ t. count t.map) c.self.view_is in let within = c.first_free.ensures.within in omega arith
