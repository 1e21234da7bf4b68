use Rattle.lwk_calls.proofs.Pointing.{reads_there}
use Rattle.lwk_space.specs.Lacks.{memory}
use Rattle.mck_flags.specs.declared.signal_set.SigSet.{SigSet}
use Rattle.mck_word.specs.Words.{number_of}
use Rattle.std.proofs.Common.{List, Some, ℕ, ◌∙◌}
use Rattle.std.specs.Prelude.{replicate}
use Rattle.lwk_calls.proofs.masks.asked_set.Goals as goal

set_of : List ℕ → SigSet
set_of bytes = record { 0 = number_of bytes }

pub returns : goal.returns
unfolding set_of
returns g c =
    (λ i. Some (record { 0 = c.set_in.ensures i }))
    ∙ reads_there set_of (memory (g.T.PageTable.rows c.args.space.now.table) c.args.mem.now) c.args.address (replicate 8 0) c.read_into.new.into c.if-address-eq0.false c.requires.may c.read_into.ensures.read
