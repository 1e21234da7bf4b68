use Rattle.kernel_model.specs.Traps.{may_be_marked}
use Rattle.mck_word.specs.Maps.{at}
use Rattle.one_files.specs.Seen.{seen}
use Rattle.one_kernel.proofs.MayCalls.{node-of, unmarked}
use Rattle.one_kernel.proofs.parts.One.may_mark.Goals as goal
use Rattle.one_kernel.specs.Parts.{here_at, shown_call}
use Rattle.std.proofs.Common.{ap, sym, ◌∙◌}
use Rattle.std.specs.Option.{option_copied}
use Rattle.std.specs.Prelude.{Some, not, option_map, ◌&&◌, ◌≡◌}

pub returns-then-not-call : goal.returns-then-not-call
returns-then-not-call c =
    let x = c.args.self.now in
    let call = c.in-Some.call.now in
    let there : Some (shown_call call) ≡ at (here_at x c.args.t.0).own.calls c.args.t.0 = ap (λ o. option_map shown_call (option_copied o)) (sym c.in-Some.is) ∙ c.call.ensures in
    c.may_be_marked.ensures (seen x.files) ∙ ap (λ n. may_be_marked n c.args.t.0) (node-of x c.args.t.0)
    ∙ ap (λ b. b && may_be_marked (here_at x c.args.t.0).node c.args.t.0) (sym (ap not c.if-not-call.true) ∙ unmarked x c.args.t.0 call there)
