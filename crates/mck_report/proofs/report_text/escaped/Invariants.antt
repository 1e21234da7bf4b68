use Rattle.std.proofs.Common.{◌≡◌, flat_map, take}
use Rattle.run_model.specs.Reports.{escaped}
use Rattle.mck_report.proofs.report_text.escaped.Given as goal

abbrev pub invariant-loop-byte : goal.invariant-loop-byte
invariant-loop-byte l = l.text ≡ flat_map escaped (take l.byte-index l.path)
