use Rattle.file_model.specs.Files.{Files}
use Rattle.kernel_model.specs.Progress.{Progress, is_not_ready, next_kind}
use Rattle.kernel_model.specs.Steps.{active, holds_of}
use Rattle.mck_word.specs.Maps.{at}
use Rattle.one_files.specs.Seen.{seen}
use Rattle.one_kernel.proofs.MayCalls.{tests-marked}
use Rattle.one_kernel.proofs.parts.One.is_interrupted.Goals as goal
use Rattle.one_kernel.specs.Parts.{here_at, shown_call}
use Rattle.std.proofs.Common.{ap, sym, ◌∙◌}
use Rattle.std.specs.Option.{option_copied}
use Rattle.std.specs.Prelude.{Bool, Some, option_map, ◌&&◌, ◌≡◌}

pub returns-then-call : goal.returns-then-call
returns-then-call c =
    let x = c.args.self.now in
    let call = c.in-Some.call.now in
    let there : Some (shown_call call) ≡ at (here_at x c.args.t.0).own.calls c.args.t.0 = ap (λ o. option_map shown_call (option_copied o)) (sym c.in-Some.is) ∙ c.call.ensures in
    let test : Files → Progress → Bool = λ f p. is_not_ready (next_kind f p) in
    c.has_to_wait.ensures ∙ ap (λ b. b && holds_of (active (shown_call call).status) (test (seen x.files))) (sym c.if-call.true) ∙ tests-marked x c.args.t.0 call there test
