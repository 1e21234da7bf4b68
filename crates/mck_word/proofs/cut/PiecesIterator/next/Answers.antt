use Rattle.std.proofs.Common.{◌≡◌, ◌+◌, ◌-◌, ◌/◌, ◌%◌, ◌<◌, [], ◌∷◌, length, suc, sym, ap, ◌∙◌, arith}
use Rattle.mck_word.specs.Pieces.{pieces_of}
use Rattle.mck_word.proofs.PieceLists.{cut-step, cut-none}
use Rattle.mck_word.proofs.cut.PiecesIterator.next.Goals as goal

pub returns-then-self-eq0-clause-steps : goal.returns-then-self-eq0-clause-steps
unfolding pieces_of
returns-then-self-eq0-clause-steps c =
    let none : c.args.self.now ≡ [] = sym c.self.view_is ∙ ap (pieces_of c.self.inside.at) c.if-self-eq0.true ∙ cut-none 0 c.self.inside.at in
    (none, none)

pub returns-clause-steps : goal.returns-clause-steps
returns-clause-steps c =
    let some : 0 < c.self.inside.left = grind arith in
    let step = cut-step c.self.inside.at c.self.inside.left some in
    sym c.self.view_is ∙ step
    ∙ ap (λ k. record { page = c.self.inside.at / 4096; off = c.self.inside.at % 4096; len = k } ∷ pieces_of (c.self.inside.at + k) (c.self.inside.left - k)) (sym c.min-len.ensures)

pub returns-clause-goes : goal.returns-clause-goes
unfolding pieces_of
returns-clause-goes c =
    let shorter : length c.args.self.now ≡ suc (length (pieces_of (c.self.inside.at + c.min-len.result) (c.self.inside.left - c.min-len.result))) = ap length (returns-clause-steps c) in
    let less : length (pieces_of (c.self.inside.at + c.min-len.result) (c.self.inside.left - c.min-len.result)) < length c.args.self.now = omega arith in
    record { on = λ _. (tt, tt, less); keeps = tt; rests = λ _. tt }
