-- The identifiers of numbers.
-- Source: this project's own.
use Rattle.std.specs.Prelude.{ℕ}
use Rattle.mck_word.specs.declared.Pid.{Pid}
use Rattle.mck_word.specs.declared.Tid.{Tid}
use Rattle.mck_word.specs.declared.Req.{Req}
use Rattle.mck_word.specs.declared.Frame.{Frame}

abbrev pub pid : ℕ → Pid
pid n = record { 0 = n }

abbrev pub tid : ℕ → Tid
tid n = record { 0 = n }

abbrev pub req : ℕ → Req
req n = record { 0 = n }

abbrev pub frame : ℕ → Frame
frame n = record { 0 = n }
