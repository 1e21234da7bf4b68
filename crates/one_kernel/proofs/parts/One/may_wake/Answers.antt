use Rattle.kernel_model.specs.Progress.{is_not_ready, next_kind}
use Rattle.mck_word.specs.Maps.{at}
use Rattle.one_kernel.proofs.MayCalls.{wakes-marked}
use Rattle.one_kernel.proofs.parts.One.may_wake.Goals as goal
use Rattle.one_kernel.specs.Parts.{here_at, shown_call}
use Rattle.std.proofs.Common.{ap, sym, ◌∙◌}
use Rattle.std.specs.Option.{option_copied}
use Rattle.std.specs.Prelude.{Some, not, option_map, ◌≡◌}

pub returns-in-Some : goal.returns-in-Some
returns-in-Some c =
    let x = c.args.self.now in
    let call = c.in-Some.call.now in
    let there : Some (shown_call call) ≡ at (here_at x c.args.t.0).own.calls c.args.t.0 = ap (λ o. option_map shown_call (option_copied o)) (sym c.in-Some.is) ∙ c.call.ensures in
    c.waits_no_longer.ensures ∙ wakes-marked x c.args.t.0 call there (λ f p. not (is_not_ready (next_kind f p)))
