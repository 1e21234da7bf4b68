use Rattle.lwk_space.specs.Lacks.{memory}
use Rattle.rv_quantum.specs.Images.{AreClean, are_apart, left, pages_of, seen}
use Rattle.rv_quantum.specs.Promised.{Agrees}
use Rattle.isa_model.specs.Memory.{page_at}
use Rattle.space_quanta.proofs.Put.{Replaced, agrees-on, left-on, rest-apart, stays-on, unwritten}
use Rattle.std.proofs.Common.{ap, map, subst, sym, true, ◌∙◌, ◌∷◌, ◌≡◌}
use Rattle.space_quanta.proofs.taking.put_pages.Goals as goal

pub loop-image-preserved-then-image : goal.loop-image-preserved-then-image
loop-image-preserved-then-image g c =
    let rows = g.T.PageTable.rows c.args.space.now.table in
    let i = c.in-Some.image.now in
    let rest = c.in-Some.more.now in
    let m = memory rows c.loop-image.frames in
    let n = memory rows c.put_page.new.frames in
    let kept = c.loop-image.invariant in
    let is = c.in-Some.ensures.cases.0 in
    let same : Agrees (map seen (i ∷ rest)) m = subst (λ xs. Agrees (map seen xs) m) is kept.same in
    let clean : AreClean (i ∷ rest) = subst AreClean is kept.clean in
    let apart : are_apart (pages_of (i ∷ rest)) ≡ true = subst (λ xs. are_apart (pages_of xs) ≡ true) is kept.apart in
    let both = rest-apart i rest apart in
    let put : Replaced i m n = c.put_page.ensures.pages in
    record {
      same = agrees-on i rest m n both.0 put same.1;
      clean = clean.1;
      apart = both.1;
      left = λ p. left-on i rest m n apart put p ∙ ap (λ xs. left xs p (page_at m p)) (sym is) ∙ kept.left p;
      stays = stays-on rows c.args.frames.now c.loop-image.frames c.put_page.new.frames kept.stays c.put_page.ensures.stays;
    }

pub loop-image-preserved : goal.loop-image-preserved
loop-image-preserved g c =
    let rows = g.T.PageTable.rows c.args.space.now.table in
    let i = c.in-Some.image.now in
    let rest = c.in-Some.more.now in
    let m = memory rows c.loop-image.frames in
    let kept = c.loop-image.invariant in
    let is = c.in-Some.ensures.cases.0 in
    let same : Agrees (map seen (i ∷ rest)) m = subst (λ xs. Agrees (map seen xs) m) is kept.same in
    let clean : AreClean (i ∷ rest) = subst AreClean is kept.clean in
    let apart : are_apart (pages_of (i ∷ rest)) ≡ true = subst (λ xs. are_apart (pages_of xs) ≡ true) is kept.apart in
    let both = rest-apart i rest apart in
    let put : Replaced i m m = unwritten m i same.0 (clean.0 c.if-image.false) in
    record {
      same = same.1;
      clean = clean.1;
      apart = both.1;
      left = λ p. left-on i rest m m apart put p ∙ ap (λ xs. left xs p (page_at m p)) (sym is) ∙ kept.left p;
      stays = kept.stays;
    }
