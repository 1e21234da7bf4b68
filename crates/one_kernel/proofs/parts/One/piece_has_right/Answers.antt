use Rattle.isa_model.specs.Memory.{allows_in}
use Rattle.mck_word.specs.Maps.{at}
use Rattle.one_kernel.proofs.After.{process-is}
use Rattle.one_kernel.proofs.MayCalls.{right-none, right-of}
use Rattle.one_kernel.proofs.parts.One.piece_has_right.Goals as goal
use Rattle.std.proofs.Common.{ap, sym, ◌∙◌}
use Rattle.std.specs.Option.{option_copied}
use Rattle.std.specs.Prelude.{None, Some, ◌≡◌}

pub returns-in-Some : goal.returns-in-Some
returns-in-Some c =
    let x = c.args.self.now in
    let p = c.process_of_thread-p.result.0 in
    let w = c.in-Some.own.now in
    let there : at x.own.map p ≡ Some w = sym c.get.ensures ∙ ap option_copied c.in-Some.is in
    c.has_right.ensures.has ∙ (λ i. allows_in (c.needed_access.ensures i) (at w.memory.map (c.next_piece.ensures i).page))
    ∙ right-of x c.args.t.0 p (process-is x c.args.t.0 p c.process_of_thread-p.ensures) w there c.args.progress.now.progress

pub returns-in-None : goal.returns-in-None
returns-in-None c =
    let x = c.args.self.now in
    let p = c.process_of_thread-p.result.0 in
    let none : at x.own.map p ≡ None = sym c.get.ensures ∙ ap option_copied c.in-None.is in
    right-none x c.args.t.0 p (process-is x c.args.t.0 p c.process_of_thread-p.ensures) none c.args.progress.now.progress
