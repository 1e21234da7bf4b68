use Rattle.std.proofs.Common.{ap, sym, ◌∙◌}
use Rattle.isa_model.specs.Decode.{decoded}
use Rattle.rv_code.proofs.Laws.{code-decodes, decodes-code}
use Rattle.rv_code.proofs.writing.encode.Goals as goal

pub returns-clause-back : goal.returns-clause-back
returns-clause-back c = ap decoded c.word.ensures ∙ code-decodes c.args.i.now.form c.args.i.now.coded

pub returns-clause-only : goal.returns-clause-only
returns-clause-only c = λ w small e. sym (decodes-code w c.args.i.now.form small e).1 ∙ sym c.word.ensures
