-- The plan that a text spells, or its first broken line.
use Rattle.std.specs.Prelude.{◌≡◌, ℕ, List, Option, Some, None, Result, Ok, Err}
use Rattle.job_text.specs.Checks.{◌>>=◌}
use Rattle.job_text.specs.TextLines.{Adding, add_lines, lines_of}
use Rattle.job_text.specs.declared.fault.BrokenLine.{BrokenLine}
use Rattle.job_text.specs.declared.fault.TextError.{TextError}
use Rattle.job_text.specs.declared.fault.TextError.TheVariants as text_errors
use Rattle.job_text.specs.declared.fault.Why.{Why}
use Rattle.plan_text.specs.Lines.{first_command, next_command}
use Rattle.plan_text.specs.declared.draft.Draft.{Draft}
use Rattle.plan_text.specs.declared.fault.PlanError.{PlanError}
use Rattle.plan_text.specs.declared.fault.PlanError.TheVariants as errors
use Rattle.plan_text.specs.declared.fault.PlanFault.{PlanFault}
use Rattle.plan_text.specs.declared.fault.PlanFault.TheVariants.{Line, Empty}
use Rattle.plan_text.specs.declared.plan.Plan.{Plan}

abbrev pub add_command : Option Plan → ℕ → List (List ℕ) → Result Plan Why
add_command None line words = first_command words
add_command (Some plan) line words = next_command plan line words

abbrev pub add_words : Adding Draft
add_words d line words = add_command d.plan line words >>= λ plan. Ok (record { plan = Some plan })

abbrev pub no_lines : Draft
no_lines = record { plan = None }

-- a broken line is a fault of the plan
abbrev pub or_fault : {A : Type 0} → Result A BrokenLine → Result A PlanFault
or_fault (Ok x) = Ok x
or_fault (Err broken) = Err (Line broken.line broken.why)

abbrev pub or_empty : Option Plan → Result Plan PlanFault
or_empty None = Err Empty
or_empty (Some plan) = Ok plan

-- The plan that a text spells, or the first broken rule.
unfoldable pub plan_of : List ℕ → Result Plan PlanFault
plan_of text = do
  d ← or_fault (add_lines add_words 1 no_lines (lines_of text))
  or_empty d.plan

-- ---- what a call answers

abbrev pub error_of : TextError → PlanError
error_of (text_errors.Broken broken) = errors.Fault (Line broken.line broken.why)
error_of text_errors.NoMemory = errors.NoMemory

-- What a reading answers is what the text gives, unless memory ran out.
abbrev pub ReadFails : {A : Type 0} → PlanError → Result A PlanFault → Type 0
ReadFails (errors.Fault fault) found = found ≡ Err fault
ReadFails errors.NoMemory found = Unit {0}

abbrev pub ReadGives : {A : Type 0} → Result A PlanError → Result A PlanFault → Type 0
ReadGives (Ok x) found = found ≡ Ok x
ReadGives (Err e) found = ReadFails e found
