use Rattle.guest_asm.proofs.Codes.{coded_is}
use Rattle.guest_asm.proofs.lines.coded.Goals as goal

pub returns : goal.returns
returns c = coded_is c.args.form c.in_ok-ins.ins.form c.encode.result c.in_ok-ins.ensures c.encode.ensures.only
