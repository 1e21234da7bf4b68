use Rattle.std.proofs.Common.{sym, arith}
use Rattle.rv64i_user.proofs.Bytewise.{number-none, number-step, power-step, power-seven}
use Rattle.rv64i_user.proofs.PagesOfAccess.{within-here, within-next}
use Rattle.rv64i_user.proofs.across.+number.Goals as goal

pub returns-then-n-eq0-clause-value : goal.returns-then-n-eq0-clause-value
returns-then-n-eq0-clause-value g t c = sym (number-none _ _ c.args.n c.if-n-eq0.true)

pub number-above-requires : goal.number-above-requires
number-above-requires g t c κs within =
    let two = c.args.two.now in
    (omega (arith, c.decreases), (within, (omega (arith, c.requires.few), (c.requires.first, (c.requires.second, within-next two.first two.second c.args.addr c.args.n c.requires.within)))))

pub byte-requires-clause-one : goal.byte-requires-clause-one
byte-requires-clause-one g t c = within-here c.args.two.now.first c.args.two.now.second c.args.addr c.args.n c.ranges.addr.fits (omega arith) c.requires.within

pub overflow_mul-result : goal.overflow_mul-result
overflow_mul-result g t c = omega (arith, power-seven c.args.n c.requires.few, c.number-above.ensures.below)

pub overflow_add-result : goal.overflow_add-result
overflow_add-result g t c = omega (arith, power-seven c.args.n c.requires.few, c.number-above.ensures.below, c.from.ensures, c.byte.type_inv)

pub returns-clause-value : goal.returns-clause-value
returns-clause-value g t c =
    let m = g.P.PageMem.memory c.args.m.now in
    let step = number-step m c.args.addr c.args.n c.if-n-eq0.false in
    let byte = c.byte.ensures in
    let above = c.number-above.ensures.value in
    let from = c.from.ensures in
    omega arith

pub returns-clause-below : goal.returns-clause-below
returns-clause-below g t c =
    let power = power-step c.args.n c.if-n-eq0.false in
    omega (arith, c.number-above.ensures.below, c.from.ensures, c.byte.type_inv)
