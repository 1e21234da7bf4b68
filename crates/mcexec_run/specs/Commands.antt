-- The words of each command.
use Rattle.mck_word.specs.Numbers.{number_of}
use Rattle.mcexec_run.specs.declared.command.Command.{Command}
use Rattle.mcexec_run.specs.declared.command.Command.TheVariants.{Run, Walk, Replay, Audit, Check, Grow}
use Rattle.mcexec_run.specs.declared.command.Form.{Form}
use Rattle.mcexec_run.specs.declared.command.Form.TheVariants.{Report, Trace}
use Rattle.std.specs.Cmp.Lexicographic.{pointwise}
use Rattle.std.specs.Prelude.{ℕ, ◌≤◌, ◌&&◌, nat_le, List, [], ◌∷◌, Bool, cond, Option, Some, None, nat_eq, String, string_bytes, codes, if◌then◌else◌}
use Rattle.std.specs.declared.alloc.Global.{Global}

abbrev pub Words : Type 0
Words = List (String Global)

abbrev pub is_word : List ℕ → String Global → Bool
is_word text word = pointwise nat_eq (string_bytes word) text

abbrev pub with_order : Form → Option ℕ → Option Command
with_order form None = None
with_order form (Some order) = Some (Walk order form)

abbrev pub order_word : String Global → Form → Option Command
order_word word form = with_order form (number_of (string_bytes word))

-- behind `walk JOB`: nothing; `trace` or ORDER; ORDER and `trace`
abbrev pub walk_words : Words → Option Command
walk_words [] = Some (Walk 0 Report)
walk_words (third ∷ []) = if is_word (codes "trace") third then Some (Walk 0 Trace) else order_word third Report
walk_words (third ∷ fourth ∷ []) = if is_word (codes "trace") fourth then order_word third Trace else None
walk_words (third ∷ fourth ∷ fifth ∷ rest) = None

-- behind `run JOB`: nothing, or `trace`
abbrev pub run_words : Words → Option Command
run_words [] = Some (Run Report)
run_words (third ∷ []) = if is_word (codes "trace") third then Some (Run Trace) else None
run_words (third ∷ fourth ∷ rest) = None

-- a command with a job and a trace
abbrev pub two_names : Command → Words → Option Command
two_names command [] = None
two_names command (third ∷ []) = Some command
two_names command (third ∷ fourth ∷ rest) = None

abbrev pub check_words : Words → Option Command
check_words [] = Some Check
check_words (third ∷ rest) = None

-- a number of guests from 1 to 16, and an order
abbrev pub grow_with : Option ℕ → Option ℕ → Option Command
grow_with None order = None
grow_with (Some n) None = None
grow_with (Some n) (Some order) = cond (nat_le 1 n && nat_le n 16) (Some (Grow n order)) None

-- behind `grow N`: nothing, or ORDER
abbrev pub grow_words : String Global → Words → Option Command
grow_words count [] = grow_with (number_of (string_bytes count)) (Some 0)
grow_words count (third ∷ []) = grow_with (number_of (string_bytes count)) (number_of (string_bytes third))
grow_words count (third ∷ fourth ∷ rest) = None

abbrev pub command_of : Words → Option Command
command_of [] = None
command_of (first ∷ []) = None
command_of (first ∷ second ∷ rest) =
    if is_word (codes "walk") first then walk_words rest
    else (if is_word (codes "check") first then check_words rest
    else (if is_word (codes "replay") first then two_names Replay rest
    else (if is_word (codes "audit") first then two_names Audit rest
    else (if is_word (codes "run") first then run_words rest
    else (if is_word (codes "grow") first then grow_words second rest else None)))))

-- what a command asks: from 1 to 16 guests
abbrev pub IsAsked : Command → Type 0
IsAsked (Grow guests order) = (1 ≤ guests) × (guests ≤ 16)
IsAsked _ = Unit {0}

-- the second word, JOB or N, and the third, TRACE
abbrev pub second_word : Words → List ℕ
second_word [] = []
second_word (first ∷ []) = []
second_word (first ∷ second ∷ rest) = string_bytes second

abbrev pub third_word : Words → List ℕ
third_word [] = []
third_word (first ∷ []) = []
third_word (first ∷ second ∷ []) = []
third_word (first ∷ second ∷ third ∷ rest) = string_bytes third
