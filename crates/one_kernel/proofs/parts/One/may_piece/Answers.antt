use Rattle.kernel_model.specs.Progress.{is_ready, next_kind}
use Rattle.kernel_model.specs.Steps.{piece_has_right}
use Rattle.mck_word.specs.Maps.{at}
use Rattle.one_kernel.proofs.MayCalls.{tests-memory}
use Rattle.one_kernel.proofs.parts.One.may_piece.Goals as goal
use Rattle.one_kernel.specs.Parts.{here_at, shown_call}
use Rattle.std.proofs.Common.{ap, sym, ◌∙◌}
use Rattle.std.specs.Option.{option_copied}
use Rattle.std.specs.Prelude.{Some, option_map, ◌&&◌, ◌≡◌}

pub returns-then-can_move : goal.returns-then-can_move
returns-then-can_move c =
    let x = c.args.self.now in
    let call = c.in-Some.call.now in
    let there : Some (shown_call call) ≡ at (here_at x c.args.t.0).own.calls c.args.t.0 = ap (λ o. option_map shown_call (option_copied o)) (sym c.in-Some.is) ∙ c.call.ensures in
    let right = piece_has_right (here_at x c.args.t.0) in
    c.piece_has_right.ensures ∙ ap (λ b. b && right call.progress.progress) (sym c.if-can_move.true ∙ c.can_move.ensures)
    ∙ tests-memory x c.args.t.0 call there (λ f p. is_ready (next_kind f p)) right

pub returns-else-can_move : goal.returns-else-can_move
returns-else-can_move c =
    let x = c.args.self.now in
    let call = c.in-Some.call.now in
    let there : Some (shown_call call) ≡ at (here_at x c.args.t.0).own.calls c.args.t.0 = ap (λ o. option_map shown_call (option_copied o)) (sym c.in-Some.is) ∙ c.call.ensures in
    let right = piece_has_right (here_at x c.args.t.0) in
    c.if-can_move.false ∙ ap (λ b. b && right call.progress.progress) (sym c.if-can_move.false ∙ c.can_move.ensures)
    ∙ tests-memory x c.args.t.0 call there (λ f p. is_ready (next_kind f p)) right
