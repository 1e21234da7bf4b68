use Rattle.std.proofs.Common.{◌≡◌, ◌∙◌, ap, arith, length}
use Rattle.mck_word.specs.Lists.{spliced}
use Rattle.one_files.proofs.Splices.{lent-whole, spliced-filled}
use Rattle.one_files.proofs.file_bytes.splice.Goals as goal

pub returns : goal.returns
returns c =
    let len = c.fill.new.bytes.ok.0 in
    let lent = ap length c.deref_mut.ensures.value in
    let same : length c.put_at.new.bytes ≡ length c.fill.new.bytes.items = omega arith in
    lent-whole c.fill.new.bytes.len c.put_at.new.bytes c.fill.new.bytes.items len same ∙ c.put_at.ensures
    ∙ ap (λ xs. spliced xs c.args.offset c.args.from.now) (c.deref_mut.ensures.value ∙ c.fill.ensures.items)
    ∙ spliced-filled c.args.bytes.now.items c.args.offset c.args.from.now
