use Rattle.isa_model.specs.Decode.{word_of}
use Rattle.rv_code.proofs.Laws.{code-decodes, code-small, decodes-code}
use Rattle.rv_code.proofs.checking.code_means.Goals as goal

pub returns : goal.returns
returns c = λ form. (λ h. (word_of form, code-small form h, code-decodes form h), λ w. (decodes-code w.0 form w.1 w.2).0)
