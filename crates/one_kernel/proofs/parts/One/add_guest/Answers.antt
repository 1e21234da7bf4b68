use Rattle.job_boot.proofs.Nodes.{any-files}
use Rattle.job_boot.specs.Guests.{IsBefore, begun, guest_at}
use Rattle.kernel_model.specs.Layout.{guest_regs}
use Rattle.kernel_tables.specs.Shown.{node_of}
use Rattle.mck_word.specs.EachLaws.{each-put}
use Rattle.mck_word.specs.Maps.{Map, each, put}
use Rattle.one_files.specs.Seen.{seen}
use Rattle.one_kernel.proofs.BootFolds.{one-more}
use Rattle.one_kernel.proofs.parts.One.add_guest.Goals as goal
use Rattle.one_kernel.specs.Parts.{one_of, shown_own}
use Rattle.one_kernel.specs.declared.parts.Own.{Own}
use Rattle.std.proofs.Common.{ap, subst, sym, ◌∙◌}

pub put_guest-requires-clause-before : goal.put_guest-requires-clause-before
unfolding one_of
put_guest-requires-clause-before c = λ files.
    subst (IsBefore c.args.number) (sym (c.reserve_guest.ensures.node files)) (any-files c.args.number c.args.self.now.node (seen c.args.self.now.files) files c.requires.before)

pub returns : goal.returns
unfolding one_of
returns c =
    let x = c.args.self.now in
    let files = seen x.files in
    let guest = guest_at c.args.number c.args.line.now c.args.image.now in
    let own = c.in_ok-own.own in
    let regs = c.guest_regs-regs.ensures ∙ ap (guest_regs c.args.image.now) c.as_slice.ensures in
    let node = c.put_guest.ensures files ∙ (λ i. begun c.args.number (regs i) (c.heap_base.ensures i) (c.reserve_guest.ensures.node files i)) in
    let puts = ap (each shown_own) c.put.ensures.row
    ∙ (each-put shown_own c.reserve.new.self.map c.args.number own ∙ ap (λ (m : Map Own). put (each shown_own m) c.args.number (shown_own own)) c.reserve.ensures.same) in
    one-more (one_of x) (node_of c.put_guest.new.node files) (each shown_own c.put.new.self.map) (shown_own own) c.saturating_sub-self.result c.count.result guest node puts c.in_ok-own.ensures c.saturating_sub-self.ensures c.count.ensures
