use Rattle.std.proofs.Common.{◌-◌, ◌^◌, arith, length}
use Rattle.one_files.proofs.Totals.{total-end}
use Rattle.one_files.proofs.names.all_bytes.Goals as goal

pub returns : goal.returns
returns c = total-end (λ e. length e.1.bytes) c.args.rows.now (2 ^ 64 - 1) c.loop-i.total c.loop-i.i (omega arith) c.loop-i.invariant.0 c.loop-i.invariant.1
