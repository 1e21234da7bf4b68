use Rattle.rv64i_user.proofs.KnownForms.{registers-said}
use Rattle.rv64i_user.proofs.known.KnownWords.form.Goals as goal

pub returns-then-known-w-clause-registers : goal.returns-then-known-w-clause-registers
returns-then-known-w-clause-registers c = let known = c.index-known.result.now in registers-said known.word known.form known.said
