use Rattle.hybrid_model.specs.Pairs.{Pair}
use Rattle.mck_word.specs.Maps.{keys}
use Rattle.pair_core.specs.Ready.{Ready}
use Rattle.pair_core.specs.Shown.{pair_of}
use Rattle.pair_node.proofs.Lists.{listed-same}
use Rattle.pair_node.proofs.Quiet.{keys-stay}
use Rattle.pair_node.proofs.Relisted.{listed-after}
use Rattle.pair_node.proofs.Sound.{sound-after, sound-told, told-along}
use Rattle.pair_node.proofs.pair.Pair.apply_quietly.Goals as goal
use Rattle.pair_node.specs.Listed.{owners}
use Rattle.pair_node.specs.declared.members.Touched.TheVariants.{Nothing}
use Rattle.std.proofs.Common.{ap, refl, sym, ◌∙◌}

pub happen-requires-clause-ready : goal.happen-requires-clause-ready
happen-requires-clause-ready g c = record { sound = sound-told (pair_of g.T.PageTable.rows g.F.FileStore.files c.args.self.now.parts) c.args.self.now.sound; may = c.requires.may }

pub invariant_of-self : goal.invariant_of-self
invariant_of-self g c =
    let x = c.args.self.now.parts in
    let files = g.F.FileStore.files in
    let pair = pair_of g.T.PageTable.rows files x in
    let event = c.args.event.now in
    let ready : Ready pair event = record { sound = sound-told pair c.args.self.now.sound; may = c.requires.may } in
    let y = c.happen.new.parts in
    let members = c.args.self.now.members in
    record {
      sound = told-along c.happen.ensures.after (sound-after pair event ready);
      kept = c.happen.ensures.kept;
      numbered = c.args.self.now.numbered ∙ sym (ap (λ (z : Pair). keys z.node.processes) c.happen.ensures.after ∙ keys-stay pair ready.sound.coherent event c.requires.may c.requires.quiet);
      listed = listed-after g.T.PageTable.rows files x y members members event Nothing pair.node.next_number ready.sound.coherent c.requires.may c.happen.ensures.after (sym c.requires.quiet) refl c.args.self.now.listed
          (λ f moves listed. listed-same f (owners y.lwk.node.threads) x.lwk.cores members moves listed);
    }
