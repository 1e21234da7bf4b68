use Rattle.rv_quantum.proofs.Rows.{at-has, has-inside}
use Rattle.rv_quantum.proofs.Stored.{clean-set, is-at-set, map-set, memory-set}
use Rattle.rv_quantum.specs.Images.{are_apart, seen}
use Rattle.rv_quantum.specs.declared.image.Image.{Image}
use Rattle.std.proofs.Common.{ap, length, refl, rules, true, ◌<◌, ◌∙◌}
use Rattle.rv_quantum.proofs.images.Images.store.Goals as goal

pub index_mut-row-requires : goal.index_mut-row-requires
index_mut-row-requires c =
    let is = c.args.self.now.rows.items in
    let l : c.args.k < length is = has-inside is c.args.k c.args.page (at-has is c.args.k c.args.page c.requires.held) in
    search rules

pub invariant_of-self-clause-apart : goal.invariant_of-self-clause-apart
invariant_of-self-clause-apart c =
    let s = c.args.self.now in
    let row = c.index_mut-row.result.now in
    let q : Image = record { page = row.page; rights = row.rights; first = row.first; last = c.write_some.new.b; written = true } in
    ap are_apart (map-set (λ (i : Image). i.page) s.rows.items c.args.k row q c.index_mut-row.ensures.value refl) ∙ s.apart

pub invariant_of-self-clause-clean : goal.invariant_of-self-clause-clean
invariant_of-self-clause-clean c =
    let s = c.args.self.now in
    let row = c.index_mut-row.result.now in
    let q : Image = record { page = row.page; rights = row.rights; first = row.first; last = c.write_some.new.b; written = true } in
    clean-set s.rows.items c.args.k q (λ e. absurd (cc)) s.clean

pub returns-clause-memory : goal.returns-clause-memory
returns-clause-memory c =
    let s = c.args.self.now in
    let row = c.index_mut-row.result.now in
    let q : Image = record { page = row.page; rights = row.rights; first = row.first; last = c.write_some.new.b; written = true } in
    memory-set s.rows.items c.args.k c.args.page row q c.args.off c.args.size c.args.v s.apart c.requires.held c.index_mut-row.ensures.value refl refl c.write_some.ensures

pub returns-clause-held : goal.returns-clause-held
returns-clause-held c = λ j p h.
    let s = c.args.self.now in
    let row = c.index_mut-row.result.now in
    let q : Image = record { page = row.page; rights = row.rights; first = row.first; last = c.write_some.new.b; written = true } in
    is-at-set s.rows.items c.args.k j p row q c.index_mut-row.ensures.value refl refl ∙ h

pub returns-clause-seen : goal.returns-clause-seen
returns-clause-seen c =
    let s = c.args.self.now in
    let row = c.index_mut-row.result.now in
    let q : Image = record { page = row.page; rights = row.rights; first = row.first; last = c.write_some.new.b; written = true } in
    map-set seen s.rows.items c.args.k row q c.index_mut-row.ensures.value refl
