use Rattle.pair_node.proofs.Lists.{listed-kept, listed-same}
use Rattle.pair_node.proofs.Walked.{all-put, from-there, next-put, none-below, not-yet, owners_below, search-tells}
use Rattle.pair_node.proofs.members.Members.of_table.Goals as goal
use Rattle.pair_node.specs.Listed.{nobody, owners, with_owner}
use Rattle.std.proofs.Common.{arith, Some}
use Rattle.std.specs.Prelude.{◌+◌}

pub loop-t-init : goal.loop-t-init
loop-t-init c = listed-same nobody (owners_below c.args.table.now 0) c.args.cores c.new-members.result (none-below c.args.table.now) (c.new-members.ensures c.args.cores)

pub loop-t-smaller : goal.loop-t-smaller
loop-t-smaller c =
    let least = search-tells c.args.table.now c.loop-t.from.0 (Some c.in-Some.t.0) c.in-Some.ensures.is in
    let up = from-there c.args.table.now c.loop-t.from.0 c.in-Some.t.0 least in
    let below = c.in-Some.ensures.below in
    omega arith

pub loop-t-preserved : goal.loop-t-preserved
loop-t-preserved c =
    let table = c.args.table.now in
    let t = c.in-Some.t.0 in
    let least = search-tells table c.loop-t.from.0 (Some t) c.in-Some.ensures.is in
    let same = listed-kept (owners_below table c.loop-t.from.0) c.args.cores c.loop-t.members c.reserve.new.self c.reserve.ensures.by_core c.reserve.ensures.by_process c.loop-t.invariant in
    let put = c.add_if_made.ensures (owners_below table c.loop-t.from.0) (not-yet table c.loop-t.from.0 t least) same in
    listed-same (with_owner t (owners table t) (owners_below table c.loop-t.from.0)) (owners_below table (t + 1)) c.args.cores c.add_if_made.new.self (next-put table c.loop-t.from.0 t least) put

pub returns : goal.returns
returns c =
    let table = c.args.table.now in
    let none = search-tells table c.loop-t.from.0 _ c.in_default.ensures.is in
    listed-same (owners_below table c.loop-t.from.0) (owners table) c.args.cores c.loop-t.members (all-put table c.loop-t.from.0 none) c.loop-t.invariant
