use Rattle.hybrid_model.specs.OneProcess.{memory_here}
use Rattle.hybrid_model.specs.Pairs.{Here}
use Rattle.isa_model.specs.Memory.{page_at}
use Rattle.mck_word.specs.Maps.{at}
use Rattle.pair_core.proofs.Found.{here-is}
use Rattle.pair_core.proofs.KernelFacts.{sound-table}
use Rattle.pair_quanta.proofs.Standing.{no-page}
use Rattle.std.proofs.Common.{None, Some, ap, sym, ◌∙◌, ◌≡◌}
use Rattle.std.specs.Option.{option_copied}
use Rattle.pair_quanta.proofs.lending.page_image.Goals as goal

pub page_image-requires : goal.page_image-requires
page_image-requires g c =
    let x = c.args.parts.now in
    let s = c.in-Some.side.now in
    let there : at x.sides.map c.args.p.0 ≡ Some s = sym c.get.ensures ∙ ap option_copied c.in-Some.is in
    (sound-table g.T.PageTable.rows g.F.FileStore.files x c.args.p.0 s there c.requires.coherent c.requires.kept).inside

pub returns-in-Some-clause-page : goal.returns-in-Some-clause-page
returns-in-Some-clause-page g c =
    let x = c.args.parts.now in
    let s = c.in-Some.side.now in
    let there : at x.sides.map c.args.p.0 ≡ Some s = sym c.get.ensures ∙ ap option_copied c.in-Some.is in
    c.page_image.ensures.page
    ∙ sym (ap (λ (h : Here). page_at (memory_here h) c.args.page) (here-is g.T.PageTable.rows g.F.FileStore.files x c.args.p.0 s there))

pub returns-in-None-clause-page : goal.returns-in-None-clause-page
returns-in-None-clause-page g c =
    let x = c.args.parts.now in
    let gone : at x.sides.map c.args.p.0 ≡ None = sym c.get.ensures ∙ ap option_copied c.in-None.is in
    sym (no-page g.T.PageTable.rows g.F.FileStore.files x c.args.p.0 c.args.page gone)
