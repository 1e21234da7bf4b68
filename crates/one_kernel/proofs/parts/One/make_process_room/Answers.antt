use Rattle.mck_word.specs.Maps.{each}
use Rattle.one_files.specs.Seen.{seen}
use Rattle.one_kernel.proofs.parts.One.make_process_room.Goals as goal
use Rattle.one_kernel.specs.Parts.{one_of, shown_own}

pub returns-in_err-reserve_process-clause-state : goal.returns-in_err-reserve_process-clause-state
unfolding one_of
returns-in_err-reserve_process-clause-state c = λ i. record (one_of c.args.self.now) { node = c.reserve_process.ensures.node (seen c.args.self.now.files) i }

pub returns-in_err-reserve-clause-state : goal.returns-in_err-reserve-clause-state
unfolding one_of
returns-in_err-reserve-clause-state c =
    let x = c.args.self.now in
    λ i. record (one_of x) { node = c.reserve_process.ensures.node (seen x.files) i; own = each shown_own (c.reserve.ensures.same i) }

pub returns-clause-state : goal.returns-clause-state
unfolding one_of
returns-clause-state c =
    let x = c.args.self.now in
    λ i. record (one_of x) { node = c.reserve_process.ensures.node (seen x.files) i; own = each shown_own (c.reserve.ensures.same i) }
