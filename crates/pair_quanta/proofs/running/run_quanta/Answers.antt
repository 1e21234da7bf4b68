use Rattle.mck_word.specs.Maps.{at}
use Rattle.node_quanta.specs.Happening.{may_run_on}
use Rattle.hybrid_model.specs.Run.{left_of_limit}
use Rattle.pair_core.proofs.Found.{found}
use Rattle.pair_core.proofs.KernelFacts.{process-is, sound-table, wired}
use Rattle.pair_core.proofs.MayThere.{some-row}
use Rattle.pair_core.specs.Shown.{pair_of, rest_of}
use Rattle.pair_quanta.proofs.Ran.{differs-is, ran-is}
use Rattle.pair_quanta.proofs.Same.{kept-after-run, kept-same, same-pair}
use Rattle.pair_quanta.proofs.Standing.{left-is, lives-is, may-is, there-is}
use Rattle.rv_quantum.specs.Told.{total}
use Rattle.std.proofs.Common.{Some, ap, arith, refl, sym, true, ◌<◌, ◌≤◌, ◌∙◌, ◌≡◌}
use Rattle.std.specs.Option.{option_copied}
use Rattle.pair_quanta.proofs.running.run_quanta.Goals as goal

pub may_run_on-requires : goal.may_run_on-requires
unfolding pair_of
may_run_on-requires g c = c.requires.sound.coherent.rings.cores

pub returns-then-not-may_run_on-clause-comes : goal.returns-then-not-may_run_on-clause-comes
returns-then-not-may_run_on-clause-comes g c =
    let rows = g.T.PageTable.rows in
    let files = g.F.FileStore.files in
    let x = c.args.parts.now in
    let may = may-is rows files x c.args.core c.args.t.0 c.process_of_thread-p.result.0 c.may_run_on.result c.may_run_on.ensures c.process_of_thread-p.ensures in
    (sym may ∙ c.if-not-may_run_on.true, refl)

pub returns-then-total-left-clause-comes : goal.returns-then-total-left-clause-comes
returns-then-total-left-clause-comes g c =
    let rows = g.T.PageTable.rows in
    let files = g.F.FileStore.files in
    let x = c.args.parts.now in
    let may = may-is rows files x c.args.core c.args.t.0 c.process_of_thread-p.result.0 c.may_run_on.result c.may_run_on.ensures c.process_of_thread-p.ensures in
    let value = c.total.ensures.value in
    let from = c.from-total.ensures in
    let above = c.if-total-left.true in
    let less : c.left_of_limit-left.result < total c.args.quanta.now = omega (arith, value, from, above) in
    ((sym may ∙ c.if-not-may_run_on.false, left-is rows files x c.left_of_limit-left.result c.left_of_limit-left.ensures.is, less), refl)

pub unreachable-requires : goal.unreachable-requires
unreachable-requires g c =
    let rows = g.T.PageTable.rows in
    let files = g.F.FileStore.files in
    let x = c.args.parts.now in
    let p = c.process_of_thread-p.result.0 in
    let may = may-is rows files x c.args.core c.args.t.0 p c.may_run_on.result c.may_run_on.ensures c.process_of_thread-p.ensures in
    let process = process-is rows files x c.args.t.0 p c.process_of_thread-p.ensures in
    let there = there-is rows files x c.args.core c.args.t.0 p (sym may ∙ c.if-not-may_run_on.false) process in
    some-row (at x.sides.map p) (found rows files x p c.requires.sound.coherent there) (sym c.get.ensures ∙ ap option_copied c.in_default.is)

pub run_quanta-requires-clause-sound : goal.run_quanta-requires-clause-sound
run_quanta-requires-clause-sound g c =
    let x = c.args.parts.now in
    let p = c.process_of_thread-p.result.0 in
    let s = c.in-Some.side.now in
    let there : at x.sides.map p ≡ Some s = sym c.get.ensures ∙ ap option_copied c.in-Some.is in
    sound-table g.T.PageTable.rows g.F.FileStore.files x p s there c.requires.sound.coherent c.requires.kept

pub run_quanta-requires-clause-wired : goal.run_quanta-requires-clause-wired
run_quanta-requires-clause-wired g c =
    let x = c.args.parts.now in
    let p = c.process_of_thread-p.result.0 in
    let s = c.in-Some.side.now in
    let there : at x.sides.map p ≡ Some s = sym c.get.ensures ∙ ap option_copied c.in-Some.is in
    wired g.T.PageTable.rows g.F.FileStore.files x p s there c.requires.sound

pub run_quanta-requires-clause-lives : goal.run_quanta-requires-clause-lives
run_quanta-requires-clause-lives g c =
    let rows = g.T.PageTable.rows in
    let files = g.F.FileStore.files in
    let x = c.args.parts.now in
    let may = may-is rows files x c.args.core c.args.t.0 c.process_of_thread-p.result.0 c.may_run_on.result c.may_run_on.ensures c.process_of_thread-p.ensures in
    lives-is rows files x c.args.core c.args.t.0 (sym may ∙ c.if-not-may_run_on.false)

pub returns-in-Some-run_quanta-clause-comes : goal.returns-in-Some-run_quanta-clause-comes
returns-in-Some-run_quanta-clause-comes g c =
    let rows = g.T.PageTable.rows in
    let files = g.F.FileStore.files in
    let x = c.args.parts.now in
    let q = c.args.quanta.now in
    let p = c.process_of_thread-p.result.0 in
    let s = c.in-Some.side.now in
    let there : at x.sides.map p ≡ Some s = sym c.get.ensures ∙ ap option_copied c.in-Some.is in
    let may = may-is rows files x c.args.core c.args.t.0 p c.may_run_on.result c.may_run_on.ensures c.process_of_thread-p.ensures in
    let process = process-is rows files x c.args.t.0 p c.process_of_thread-p.ensures in
    let value = c.total.ensures.value in
    let from = c.from-total.ensures in
    let below = c.if-total-left.false in
    let left = left-is rows files x c.left_of_limit-left.result c.left_of_limit-left.ensures.is in
    let within : total q ≤ left_of_limit (pair_of rows files x).node = omega (arith, value, from, below, left) in
    let told = c.in-Some-run_quanta.ensures.comes (rest_of rows files x s) in (
      (sym may ∙ c.if-not-may_run_on.false, within, differs-is rows files x c.args.t p s there process q c.in-Some-run_quanta.differs told.0),
      same-pair rows files x _ p s there refl told.1,
    )

pub returns-in-Some-run_quanta-clause-kept : goal.returns-in-Some-run_quanta-clause-kept
returns-in-Some-run_quanta-clause-kept g c =
    let rows = g.T.PageTable.rows in
    let files = g.F.FileStore.files in
    let x = c.args.parts.now in
    let p = c.process_of_thread-p.result.0 in
    let s = c.in-Some.side.now in
    let there : at x.sides.map p ≡ Some s = sym c.get.ensures ∙ ap option_copied c.in-Some.is in
    let told = c.in-Some-run_quanta.ensures.comes (rest_of rows files x s) in
    kept-same rows files x _ c.requires.kept refl refl (same-pair rows files x _ p s there refl told.1)
    c.in-Some-run_quanta.ensures.frames.pages c.in-Some-run_quanta.ensures.frames.pool

pub returns-in-None-clause-comes : goal.returns-in-None-clause-comes
returns-in-None-clause-comes g c =
    let rows = g.T.PageTable.rows in
    let files = g.F.FileStore.files in
    let x = c.args.parts.now in
    let q = c.args.quanta.now in
    let p = c.process_of_thread-p.result.0 in
    let s = c.in-Some.side.now in
    let there : at x.sides.map p ≡ Some s = sym c.get.ensures ∙ ap option_copied c.in-Some.is in
    let may = may-is rows files x c.args.core c.args.t.0 p c.may_run_on.result c.may_run_on.ensures c.process_of_thread-p.ensures in
    let process = process-is rows files x c.args.t.0 p c.process_of_thread-p.ensures in
    let value = c.total.ensures.value in
    let from = c.from-total.ensures in
    let below = c.if-total-left.false in
    let left = left-is rows files x c.left_of_limit-left.result c.left_of_limit-left.ensures.is in
    let within : total q ≤ left_of_limit (pair_of rows files x).node = omega (arith, value, from, below, left) in
    (from ∙ value, ran-is rows files x c.args.t p s there process _ c.args.core q (sym may ∙ c.if-not-may_run_on.false) within refl (c.in-None.ensures.comes (rest_of rows files x s)))

pub returns-in-None-clause-kept : goal.returns-in-None-clause-kept
returns-in-None-clause-kept g c =
    let rows = g.T.PageTable.rows in
    let files = g.F.FileStore.files in
    let x = c.args.parts.now in
    let p = c.process_of_thread-p.result.0 in
    let s = c.in-Some.side.now in
    let there : at x.sides.map p ≡ Some s = sym c.get.ensures ∙ ap option_copied c.in-Some.is in
    let ran = returns-in-None-clause-comes g c in
    kept-after-run rows files x _ p s c.args.core c.args.t (total c.args.quanta.now) c.requires.kept there refl refl ran.1.event
    c.in-None.ensures.frames.pages c.in-None.ensures.frames.pool
