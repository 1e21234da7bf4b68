use Rattle.hybrid_model.specs.Rings.{post, ring}
use Rattle.ikc_channel.proofs.Places.{as-many, finds-place, posts, posts-take}
use Rattle.ikc_channel.proofs.Rings.post.Goals as goal
use Rattle.ikc_channel.specs.Lines.{Lines}
use Rattle.std.proofs.Common.{ap, arith, ◌∙◌}
use Rattle.std.specs.Prelude.{length}

pub post-requires : goal.post-requires
post-requires c =
    let i = c.self.inside in
    let many = ap (λ (v : Lines). length v.messages) c.self.view_is in
    let wide = ap (λ (v : Lines). v.capacity) c.self.view_is in
    let left = ap (λ (v : Lines). length (ring c.args.r v.messages)) c.self.view_is in
    let same = as-many i.rings.items in
    finds-place i.capacity i.rings.items c.args.r c.index_mut.result.now c.index_mut.result.now (omega (arith, many, same, c.requires.there)) c.self.invariant c.index_mut.ensures.value (omega (arith, wide, left, c.requires.room))

pub invariant_of-self : goal.invariant_of-self
invariant_of-self c =
    let i = c.self.inside in
    let many = ap (λ (v : Lines). length v.messages) c.self.view_is in
    let same = as-many i.rings.items in
    posts-take i.capacity i.rings.items c.args.r c.args.m c.index_mut.result.now c.post.new.self c.index_mut.result.now (omega (arith, many, same, c.requires.there)) c.self.invariant c.index_mut.ensures.value c.post.ensures

pub returns : goal.returns
returns c =
    let i = c.self.inside in
    let many = ap (λ (v : Lines). length v.messages) c.self.view_is in
    let same = as-many i.rings.items in
    (λ j. record { messages = posts i.rings.items c.args.r c.args.m c.index_mut.result.now c.post.new.self c.index_mut.result.now (omega (arith, many, same, c.requires.there)) c.index_mut.ensures.value c.post.ensures j; capacity = i.capacity })
    ∙ ap (λ (v : Lines). record { messages = post c.args.r c.args.m v.messages; capacity = v.capacity }) c.self.view_is
