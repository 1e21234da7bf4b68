use Rattle.hybrid_model.specs.Answer.{files_after_answer, post_answer}
use Rattle.hybrid_model.specs.Pairs.{Here, ring_of, with_node, with_side}
use Rattle.hybrid_model.specs.declared.events.Event.TheVariants.{Answer}
use Rattle.hybrid_model.specs.Sides.{served}
use Rattle.kernel_tables.specs.Shown.{node_of}
use Rattle.lwk_side.specs.Wired.{HasPlace}
use Rattle.pair_core.proofs.Found.{after-is, has-row, may-here}
use Rattle.pair_core.proofs.KernelFacts.{kept-after, wired}
use Rattle.pair_core.proofs.Posting.{MayAnswer, answer-posts, may-answer-is, node-files, own-ring, place-of}
use Rattle.pair_core.proofs.parts.Parts.answer.Goals as goal
use Rattle.pair_core.specs.Shown.{here_in, pair_of, rest_of}
use Rattle.std.proofs.Common.{ap, arith, refl, subst, sym, ◌∙◌}

pub row_mut-side-requires : goal.row_mut-side-requires
row_mut-side-requires g c = has-row g.T.PageTable.rows g.F.FileStore.files c.args.self.now c.args.p.0 (Answer c.args.p c.args.w) refl c.requires.ready

pub give_answer-requires : goal.give_answer-requires
unfolding pair_of
give_answer-requires g c =
    let x = c.args.self.now in
    let s = c.row_mut-side.result.now in
    let h : Here = here_in g.T.PageTable.rows g.F.FileStore.files x s in
    let there = c.row_mut-side.ensures.value in
    let sound = c.requires.ready.sound in
    let wires = wired g.T.PageTable.rows g.F.FileStore.files x c.args.p.0 s there sound in
    let may : MayAnswer c.args.w h = may-answer-is c.args.w h (may-here g.T.PageTable.rows g.F.FileStore.files x c.args.p.0 s (Answer c.args.p c.args.w) there refl c.requires.ready) in
    let few = sound.small.workers in
    let below = may.worker in
    record {
      wired = wires;
      place = subst (λ t. HasPlace x.lwk s.channel.to_linux t) (sym c.thread_served-t.ensures)
          (place-of g.T.PageTable.rows g.F.FileStore.files x c.args.p.0 s there (Answer c.args.p c.args.w) _ refl
          (answer-posts c.args.w h refl (own-ring x.lwk s.channel.to_linux _ wires))
          (c.no_ring_is_full.ensures.room (pair_of g.T.PageTable.rows g.F.FileStore.files x) (Answer c.args.p c.args.w) sound.coherent c.requires.ready.may) c.requires.kept);
      worker = omega (arith, few, below);
      noted = may.noted;
    }

pub returns-clause-after : goal.returns-clause-after
unfolding node_of
returns-clause-after g c =
    let x = c.args.self.now in
    let s = c.row_mut-side.result.now in
    let h : Here = here_in g.T.PageTable.rows g.F.FileStore.files x s in
    let rest = rest_of g.T.PageTable.rows g.F.FileStore.files x s in
    let same = sym c.thread_served-t.ensures in
    let files = c.give_back_without.ensures ∙ ap (λ o. files_after_answer o (served h.side.linux c.args.w).progress h.node.files) (c.answer_to-row.ensures h.side.linux) in
    after-is g.T.PageTable.rows g.F.FileStore.files x _ c.args.p.0 s _ (Answer c.args.p c.args.w) c.row_mut-side.ensures.value refl refl
    (c.give_answer.ensures.event (record rest { files = g.F.FileStore.files c.give_back_without.new.files }) same
    ∙ (λ i. with_node (with_side h (post_answer (ring_of h (sym same i)) c.args.w h.side)) ((ap (node_of x.lwk.node) files ∙ node-files x.lwk.node (g.F.FileStore.files x.files) _) i)))

pub returns-clause-kept : goal.returns-clause-kept
returns-clause-kept g c =
    let s = c.row_mut-side.result.now in
    kept-after g.T.PageTable.rows g.F.FileStore.files c.args.self.now _ c.args.p.0 s _ (Answer c.args.p c.args.w) c.requires.kept c.row_mut-side.ensures.value refl refl (returns-clause-after g c)
    refl refl c.give_answer.ensures.rings.to_linux c.give_answer.ensures.rings.to_lwk
