use Rattle.rv_am.specs.Words.{am, word_of}
use Rattle.rv_am.proofs.WordFields.{code-decodes, code-small, decodes-code}
use Rattle.rv_am.proofs.writing.code_means.Goals as goal

pub returns : goal.returns
returns c = λ op rd rs1 rs2 order. (λ h. (word_of (am op rd rs1 rs2 order), code-small (am op rd rs1 rs2 order) h, code-decodes (am op rd rs1 rs2 order) h), λ w. (decodes-code w.0 (am op rd rs1 rs2 order) w.1 w.2).0)
