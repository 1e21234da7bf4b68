use Rattle.pair_core.proofs.parts.Parts.may_kernel.Goals as goal
use Rattle.hybrid_laws.specs.EventKinds.{is_of_linux}
use Rattle.hybrid_model.specs.Events.{may, may_here}
use Rattle.kernel_tables.specs.Shown.{node_of}
use Rattle.mck_word.specs.Maps.{at}
use Rattle.pair_core.proofs.MayKernel.{kernel-nowhere, kernel-where, none-kernel}
use Rattle.pair_core.proofs.MayLinux.{no-some}
use Rattle.pair_core.specs.KernelRoom.{kernel_process}
use Rattle.pair_core.specs.Shown.{here_in, pair_of}
use Rattle.std.proofs.Common.{ap, sym, ◌∙◌}
use Rattle.std.specs.Option.{option_copied}
use Rattle.std.specs.Prelude.{None, Some, not, option_map, ◌&&◌, ◌≡◌}

pub may_in-requires : goal.may_in-requires
unfolding pair_of
may_in-requires g c = c.requires.rings.cores

pub returns-then-is_there : goal.returns-then-is_there
returns-then-is_there g c =
    let process : kernel_process (node_of c.args.self.now.lwk.node (g.F.FileStore.files c.args.self.now.files)) c.args.event ≡ Some c.in-Some.p.0 = sym (c.process_of.ensures (g.F.FileStore.files c.args.self.now.files)) ∙ ap (option_map (λ p. p.0)) c.in-Some.is in
    let there : at c.args.self.now.sides.map c.in-Some.p.0 ≡ Some c.in-Some-get.side.now = sym c.get.ensures ∙ ap option_copied c.in-Some-get.is in
    let e = kernel-where g.T.PageTable.rows g.F.FileStore.files c.args.self.now c.in-Some.p.0 c.args.event process c.in-Some-get.side.now there in
    let here = not (is_of_linux c.args.event) && may_here c.args.event (here_in g.T.PageTable.rows g.F.FileStore.files c.args.self.now c.in-Some-get.side.now) in
    c.may_in.ensures ∙ ap (λ b. b && here) (sym c.if-is_there.true ∙ c.is_there.ensures (g.F.FileStore.files c.args.self.now.files)) ∙ sym e

pub returns-else-is_there : goal.returns-else-is_there
returns-else-is_there g c =
    let process : kernel_process (node_of c.args.self.now.lwk.node (g.F.FileStore.files c.args.self.now.files)) c.args.event ≡ Some c.in-Some.p.0 = sym (c.process_of.ensures (g.F.FileStore.files c.args.self.now.files)) ∙ ap (option_map (λ p. p.0)) c.in-Some.is in
    let there : at c.args.self.now.sides.map c.in-Some.p.0 ≡ Some c.in-Some-get.side.now = sym c.get.ensures ∙ ap option_copied c.in-Some-get.is in
    let e = kernel-where g.T.PageTable.rows g.F.FileStore.files c.args.self.now c.in-Some.p.0 c.args.event process c.in-Some-get.side.now there in
    let here = not (is_of_linux c.args.event) && may_here c.args.event (here_in g.T.PageTable.rows g.F.FileStore.files c.args.self.now c.in-Some-get.side.now) in
    c.if-is_there.false ∙ ap (λ b. b && here) (sym c.if-is_there.false ∙ c.is_there.ensures (g.F.FileStore.files c.args.self.now.files)) ∙ sym e

pub returns-in-None : goal.returns-in-None
returns-in-None g c =
    let process : kernel_process (node_of c.args.self.now.lwk.node (g.F.FileStore.files c.args.self.now.files)) c.args.event ≡ Some c.in-Some.p.0 = sym (c.process_of.ensures (g.F.FileStore.files c.args.self.now.files)) ∙ ap (option_map (λ p. p.0)) c.in-Some.is in
    sym (kernel-nowhere g.T.PageTable.rows g.F.FileStore.files c.args.self.now c.in-Some.p.0 c.args.event process c.requires (sym c.get.ensures ∙ ap option_copied c.in-None.is))

pub returns-in_default : goal.returns-in_default
returns-in_default g c =
    let process : kernel_process (node_of c.args.self.now.lwk.node (g.F.FileStore.files c.args.self.now.files)) c.args.event ≡ None = sym (c.process_of.ensures (g.F.FileStore.files c.args.self.now.files)) ∙ ap (option_map (λ p. p.0)) (no-some c.process_of.result c.in_default.not-Some) in
    sym (ap (λ b. b && may (pair_of g.T.PageTable.rows g.F.FileStore.files c.args.self.now) c.args.event) (none-kernel c.args.event (node_of c.args.self.now.lwk.node (g.F.FileStore.files c.args.self.now.files)) process))
