use Rattle.std.proofs.Common.{ap, sym, ◌∙◌}
use Rattle.isa_model.specs.Atomics.{am_decoded}
use Rattle.rv_am.specs.Words.{am}
use Rattle.rv_am.proofs.WordFields.{code-decodes, decodes-code}
use Rattle.rv_am.proofs.writing.encode.Goals as goal

pub returns-clause-back : goal.returns-clause-back
returns-clause-back c =
    let i = c.args.i.now in
    ap am_decoded c.word.ensures ∙ code-decodes (am i.op i.rd i.rs1 i.rs2 i.order) i.coded

pub returns-clause-only : goal.returns-clause-only
returns-clause-only c = λ w small e.
    let i = c.args.i.now in
    sym (decodes-code w (am i.op i.rd i.rs1 i.rs2 i.order) small e).1 ∙ sym c.word.ensures
