use Rattle.mck_word.specs.Maps.{at}
use Rattle.pair_core.proofs.MadeRoom.{of-none, of-some}
use Rattle.pair_core.proofs.parts.Parts.make_round_room.Goals as goal
use Rattle.pair_core.specs.declared.parts.Side.{Side}
use Rattle.std.proofs.Common.{ap, sym, ◌∙◌}
use Rattle.std.proofs.lemmas.Result.{on_ok_weaker}
use Rattle.std.specs.Option.{option_copied}
use Rattle.std.specs.Prelude.{ℕ, ◌+◌, ◌<◌, ◌^◌}

pub returns-in-Some : goal.returns-in-Some
returns-in-Some g c =
    let x = c.args.self.now in
    let Fits : Side g.row.T.Denot → Type 0 = λ s. s.task.begun + 1 < 2 ^ 64 in
    on_ok_weaker c.check_count.result (λ few. record {
      few = λ s found. of-some Fits (at x.sides.map c.process_of_thread-p.result.0) c.in-Some.side.now (sym c.get.ensures ∙ ap option_copied c.in-Some.is) few s
          (ap (λ (q : ℕ). at x.sides.map q) (c.process_of_thread-p.ensures (g.F.FileStore.files x.files)) ∙ found);
    }) c.check_count.ensures

pub returns-in-None : goal.returns-in-None
returns-in-None g c =
    let x = c.args.self.now in
    let Fits : Side g.row.T.Denot → Type 0 = λ s. s.task.begun + 1 < 2 ^ 64 in
    record {
      few = λ s found. of-none Fits (at x.sides.map c.process_of_thread-p.result.0) (sym c.get.ensures ∙ ap option_copied c.in-None.is) s
          (ap (λ (q : ℕ). at x.sides.map q) (c.process_of_thread-p.ensures (g.F.FileStore.files x.files)) ∙ found);
    }
