use Rattle.mck_word.specs.declared.PageRange.{PageRange}
use Rattle.std.proofs.Common.{◌≡◌, ◌≤◌, ◌++◌, List, arith, ap, get_or, length, max, min, sym, ◌∙◌}
use Rattle.std.proofs.lemmas.List.{drop_more, length-append}
use Rattle.vm_areas.specs.Ranges.{piece, without}
use Rattle.vm_areas.proofs.Rising.{length-without}
use Rattle.vm_areas.proofs.ranges.split_into.Goals as goal

-- the pieces of one range fit where all fit
parts : (out first second rest all : List PageRange) → out ++ ((first ++ second) ++ rest) ≡ all → length ((out ++ first) ++ second) ≤ length all
parts out first second rest all e =
    let long = ap length e in
    omega (arith, length-append out ((first ++ second) ++ rest), length-append (first ++ second) rest, length-append first second, length-append (out ++ first) second, length-append out first)

pub push_piece-requires : goal.push_piece-requires
push_piece-requires c =
    let x : PageRange = get_or c.args.ranges.now c.loop-x.x-index (record { lo = 0; hi = 0 }) in
    let here = drop_more c.args.ranges.now c.loop-x.x-index (record { lo = 0; hi = 0 }) c.loop-x-test.true in
    let left = ap (λ xs. c.loop-x.out.items ++ without c.args.r xs) (sym here) ∙ c.loop-x.invariant.left in
    let few = length-without c.args.r 0 c.args.ranges.now c.requires.some c.requires.rises in
    let all = parts c.loop-x.out.items (piece x.lo (min x.hi c.args.r.lo)) (piece (max x.lo c.args.r.hi) x.hi) _ _ left in
    let more = length-append (c.loop-x.out.items ++ piece x.lo (min x.hi c.args.r.lo)) (piece (max x.lo c.args.r.hi) x.hi) in
    rw c.min.ensures (omega (arith, c.loop-x.invariant.capacity, c.requires.room))

pub push_piece-requires-in-loop-x : goal.push_piece-requires-in-loop-x
push_piece-requires-in-loop-x c =
    let x : PageRange = get_or c.args.ranges.now c.loop-x.x-index (record { lo = 0; hi = 0 }) in
    let here = drop_more c.args.ranges.now c.loop-x.x-index (record { lo = 0; hi = 0 }) c.loop-x-test.true in
    let left = ap (λ xs. c.loop-x.out.items ++ without c.args.r xs) (sym here) ∙ c.loop-x.invariant.left in
    let few = length-without c.args.r 0 c.args.ranges.now c.requires.some c.requires.rises in
    let all = parts c.loop-x.out.items (piece x.lo (min x.hi c.args.r.lo)) (piece (max x.lo c.args.r.hi) x.hi) _ _ left in
    rw (c.max.ensures, c.push_piece.ensures.items, c.min.ensures) (omega (arith, c.push_piece.ensures.capacity, c.loop-x.invariant.capacity, c.requires.room))
