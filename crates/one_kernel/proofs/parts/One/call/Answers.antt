use Rattle.mck_word.specs.Maps.{at}
use Rattle.one_kernel.proofs.After.{process-is}
use Rattle.one_kernel.proofs.MayCalls.{call-none, call-of}
use Rattle.one_kernel.proofs.parts.One.call.Goals as goal
use Rattle.one_kernel.specs.Parts.{shown_call}
use Rattle.std.proofs.Common.{ap, sym, ◌∙◌}
use Rattle.std.specs.Option.{option_copied}
use Rattle.std.specs.Prelude.{None, Some, option_map, ◌≡◌}

pub returns-in-Some : goal.returns-in-Some
returns-in-Some c =
    let x = c.args.self.now in
    let p = c.process_of_thread-p.result.0 in
    let w = c.in-Some.own.now in
    let there : at x.own.map p ≡ Some w = sym c.get.ensures ∙ ap option_copied c.in-Some.is in
    ap (option_map shown_call) c.get-in-Some.ensures ∙ call-of x c.args.t.0 p (process-is x c.args.t.0 p c.process_of_thread-p.ensures) w there

pub returns-in-None : goal.returns-in-None
returns-in-None c =
    let x = c.args.self.now in
    let p = c.process_of_thread-p.result.0 in
    let none : at x.own.map p ≡ None = sym c.get.ensures ∙ ap option_copied c.in-None.is in
    call-none x c.args.t.0 p (process-is x c.args.t.0 p c.process_of_thread-p.ensures) none
