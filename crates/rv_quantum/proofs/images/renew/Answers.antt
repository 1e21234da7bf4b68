use Rattle.rv_quantum.proofs.Stored.{clean-at, clean-set, fresh-set, map-set}
use Rattle.rv_quantum.specs.Images.{AreFresh, as_left}
use Rattle.rv_quantum.specs.declared.image.Image.{Image}
use Rattle.std.proofs.Common.{arith, length, rules, slice_set, suc, subst, ◌+◌, ◌<◌, ◌∙◌, ◌≡◌}
use Rattle.rv_quantum.proofs.images.renew.Goals as goal

pub renew-requires : goal.renew-requires
renew-requires c =
    let is = c.loop-k.rows.items in
    let inside : c.loop-k.k < length is = search rules in
    record { clean = clean-at is c.loop-k.k c.index_mut.result.now inside c.index_mut.ensures.value c.loop-k.invariant.clean }

pub loop-k-preserved : goal.loop-k-preserved
loop-k-preserved c =
    let is = c.loop-k.rows.items in
    let k = c.loop-k.k in
    let q = c.renew.new.self in
    let i = c.loop-k.invariant in
    let next : suc k ≡ k + 1 = omega arith in
    record {
      pages = map-set (λ (x : Image). x.page) is k c.index_mut.result.now q c.index_mut.ensures.value c.renew.ensures.page ∙ i.pages;
      clean = clean-set is k q (λ w. c.renew.ensures.fresh) i.clean;
      fresh = subst (λ n. AreFresh n (slice_set is k q)) next (fresh-set k is q c.renew.ensures.fresh i.fresh);
      left = map-set as_left is k c.index_mut.result.now q c.index_mut.ensures.value c.renew.ensures.left ∙ i.left;
      len = i.len;
      same = i.same;
      room = i.room;
    }
