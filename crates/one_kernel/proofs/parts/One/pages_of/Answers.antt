use Rattle.mck_word.specs.Maps.{at, count}
use Rattle.one_files.specs.Seen.{seen}
use Rattle.one_kernel.proofs.MadeRoom.{of-none, of-some}
use Rattle.one_kernel.proofs.parts.One.pages_of.Goals as goal
use Rattle.one_kernel.specs.Parts.{one_of}
use Rattle.one_kernel.specs.declared.parts.Own.{Own}
use Rattle.std.proofs.Common.{None, Some, ap, sym, ◌∙◌, ◌≡◌}
use Rattle.std.specs.Option.{option_copied}

pub returns-in-Some : goal.returns-in-Some
unfolding one_of
returns-in-Some c = λ w found.
    let x = c.args.self.now in
    let p = c.process_of_thread-p.result.0 in
    let there : at x.own.map p ≡ Some c.in-Some.own.now = sym c.get.ensures ∙ ap option_copied c.in-Some.is in
    of-some (λ (v : Own). c.count.result ≡ count v.memory.map) (at x.own.map p) c.in-Some.own.now there c.count.ensures w (ap (at x.own.map) (c.process_of_thread-p.ensures (seen x.files)) ∙ found)

pub returns-in-None : goal.returns-in-None
unfolding one_of
returns-in-None c = λ w found.
    let x = c.args.self.now in
    let p = c.process_of_thread-p.result.0 in
    let none : at x.own.map p ≡ None = sym c.get.ensures ∙ ap option_copied c.in-None.is in
    of-none (λ (v : Own). 0 ≡ count v.memory.map) (at x.own.map p) none w (ap (at x.own.map) (c.process_of_thread-p.ensures (seen x.files)) ∙ found)
