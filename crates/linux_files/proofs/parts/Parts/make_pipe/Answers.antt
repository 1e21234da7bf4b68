use Rattle.std.proofs.Common.{ap, refl, ◌∙◌}
use Rattle.linux_files.proofs.Keeps.{pipe-added}
use Rattle.linux_files.proofs.Lowest.{lowest-absent}
use Rattle.mck_word.specs.Maps.{at}
use Rattle.std.specs.Prelude.{[]}
use Rattle.linux_files.proofs.parts.Parts.make_pipe.Goals as goal

pub add-requires-clause-absent : goal.add-requires-clause-absent
add-requires-clause-absent c = let m = c.args.self.now.pipes.map in ap (at m) c.first_free-pipe.ensures.lowest ∙ lowest-absent m

pub returns-clause-store : goal.returns-clause-store
returns-clause-store c = pipe-added c.args.self.now _ refl refl refl refl refl refl refl c.first_free-pipe.result [] c.add.ensures.map c.with_loose-self.ensures.here c.with_loose-self.ensures.others c.requires.store
