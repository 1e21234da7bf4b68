use Rattle.kernel_model.specs.declared.steps.Step.TheVariants.{Piece}
use Rattle.one_kernel.proofs.After.{after-is, may-here, may-in, process-is}
use Rattle.one_kernel.proofs.Calling.{active-is, allowed-some, both, own-called, ready-is, row-called}
use Rattle.one_kernel.proofs.Stepping.{copies-to, own-with}
use Rattle.one_kernel.proofs.parts.One.piece.Goals as goal
use Rattle.one_kernel.specs.Parts.{here_in}
use Rattle.std.proofs.Common.{ap, refl, ◌∙◌}
use Rattle.isa_model.specs.Memory.{allows_in}
use Rattle.kernel_model.specs.Progress.{needed_access}
use Rattle.kernel_model.specs.Steps.{with_page}
use Rattle.kernel_tables.specs.Shown.{node_of}
use Rattle.mck_word.specs.Maps.{at}
use Rattle.mck_word.specs.declared.parts.Piece.{Piece as Part}
use Rattle.one_files.specs.Seen.{seen}
use Rattle.one_kernel.specs.declared.parts.Own.{Own}
use Rattle.std.proofs.Common.{arith, true, ◌≡◌}
use Rattle.std.specs.Prelude.{ℕ, ◌<◌, ◌^◌}

low-page : (n m : ℕ) → n ≡ m → n < 2 ^ 27 → m < 2 ^ 51
low-page n m e below = omega (arith, e, below)

pub row_mut-own-requires : goal.row_mut-own-requires
row_mut-own-requires c =
    let x = c.args.self.now in
    let p = c.process_of_thread-p.result.0 in
    own-called x p c.args.t.0 ((both _ _ (may-here x p (Piece c.args.t) (process-is x c.args.t.0 p c.process_of_thread-p.ensures) c.requires.ready)).0)

pub row_mut-call-requires : goal.row_mut-call-requires
row_mut-call-requires c =
    let x = c.args.self.now in
    let p = c.process_of_thread-p.result.0 in
    let w = c.row_mut-own.result.now in
    row-called x w c.args.t.0 ((both _ _ (may-in x p w (Piece c.args.t) c.row_mut-own.ensures.value (process-is x c.args.t.0 p c.process_of_thread-p.ensures) c.requires.ready)).0)

pub bytes_mut-bytes-requires : goal.bytes_mut-bytes-requires
bytes_mut-bytes-requires c =
    let x = c.args.self.now in
    let p = c.process_of_thread-p.result.0 in
    let w = c.row_mut-own.result.now in
    let process = process-is x c.args.t.0 p c.process_of_thread-p.ensures in
    let there = c.row_mut-own.ensures.value in
    let may = may-in x p w (Piece c.args.t) there process c.requires.ready in
    let call = c.row_mut-call.result.now in
    let called = c.row_mut-call.ensures.value in
    let active = active-is x w c.args.t.0 call called _ (both _ _ may).1 in
    let right = (both _ _ active.1).1 in
    allowed-some _ _ (ap (λ (i : Part). allows_in (needed_access call.progress.progress) (at w.memory.map i.page)) c.next_piece-page.ensures ∙ right)

pub move_piece-ended-requires-clause-kind : goal.move_piece-ended-requires-clause-kind
unfolding node_of
move_piece-ended-requires-clause-kind c =
    let x = c.args.self.now in
    let p = c.process_of_thread-p.result.0 in
    let w = c.row_mut-own.result.now in
    let process = process-is x c.args.t.0 p c.process_of_thread-p.ensures in
    let there = c.row_mut-own.ensures.value in
    let may = may-in x p w (Piece c.args.t) there process c.requires.ready in
    let call = c.row_mut-call.result.now in
    let called = c.row_mut-call.ensures.value in
    let active = active-is x w c.args.t.0 call called _ (both _ _ may).1 in
    ready-is _ (both _ _ active.1).0

pub move_piece-ended-requires-clause-low : goal.move_piece-ended-requires-clause-low
move_piece-ended-requires-clause-low c =
    let x = c.args.self.now in
    let p = c.process_of_thread-p.result.0 in
    let w = c.row_mut-own.result.now in
    let process = process-is x c.args.t.0 p c.process_of_thread-p.ensures in
    let there = c.row_mut-own.ensures.value in
    let may = may-in x p w (Piece c.args.t) there process c.requires.ready in
    let call = c.row_mut-call.result.now in
    let called = c.row_mut-call.ensures.value in
    let active = active-is x w c.args.t.0 call called _ (both _ _ may).1 in
    let right = (both _ _ active.1).1 in
    let page = ap (λ (i : Part). i.page) c.next_piece-page.ensures in
    let is : c.has_right-there.result ≡ true = c.has_right-there.ensures.has
    ∙ ap (λ a. allows_in a (at w.memory.map c.next_piece-page.result.page)) c.needed_access.ensures
    ∙ ap (λ (i : Part). allows_in (needed_access call.progress.progress) (at w.memory.map i.page)) c.next_piece-page.ensures ∙ right in
    let below = rw is at c.has_right-there.ensures.below in
    low-page _ _ page below

pub move_piece-ended-requires-clause-room : goal.move_piece-ended-requires-clause-room
move_piece-ended-requires-clause-room c =
    let x = c.args.self.now in
    let p = c.process_of_thread-p.result.0 in
    c.requires.room c.row_mut-own.result.now c.row_mut-call.result.now (ap (at x.own.map) (process-is x c.args.t.0 p c.process_of_thread-p.ensures) ∙ c.row_mut-own.ensures.value) c.row_mut-call.ensures.value

pub returns : goal.returns
unfolding node_of
returns c =
    let x = c.args.self.now in
    let p = c.process_of_thread-p.result.0 in
    let w = c.row_mut-own.result.now in
    let process = process-is x c.args.t.0 p c.process_of_thread-p.ensures in
    let there = c.row_mut-own.ensures.value in
    let may = may-in x p w (Piece c.args.t) there process c.requires.ready in
    let call = c.row_mut-call.result.now in
    let called = c.row_mut-call.ensures.value in
    let active = active-is x w c.args.t.0 call called _ (both _ _ may).1 in
    let step = c.move_piece-ended in
    let changed : Own = record w { memory = record w.memory { map = with_page c.next_piece-page.result.page step.new.page w.memory.map } } in
    after-is x _ p w _ (Piece c.args.t) there refl process
    ((λ i. record (here_in x w) { own = own-with changed c.args.t.0 (record call { standing = c.stood-call.result; progress = step.new.self }) i; node = node_of x.node (seen step.new.files) })
    ∙ copies-to x p w c.args.t call called step.new.self.progress c.stood-call.result step.result (seen step.new.files) c.next_piece-page.result.page step.new.page c.bytes_mut-bytes.result.now active.0 c.stood-call.ensures (ap (λ (i : Part). i.page) c.next_piece-page.ensures) c.bytes_mut-bytes.ensures.bytes step.ensures)
