-- The checks of each command of a plan, in their order, and the command that its line is.
use Rattle.std.specs.Prelude.{◌≡◌, ℕ, not, nat_lt, nat_le, codes, List, [], ◌∷◌, ◌++◌, length, Option, Some, None, Result, Ok, Err, if◌then◌else◌}
use Rattle.job_text.specs.Checks.{◌>>=◌, refuse_if, in_range}
use Rattle.job_text.specs.TextLines.{LineFails}
use Rattle.job_text.specs.Words.{word_at, miscounts, is_key}
use Rattle.job_text.specs.declared.fault.LineError.{LineError}
use Rattle.job_text.specs.declared.fault.Why.{Why}
use Rattle.job_text.specs.declared.fault.Why.TheVariants.{Keyword, Count, Repeat, TooMany, Number}
use Rattle.mck_word.specs.Numbers.{number_of}
use Rattle.plan_text.specs.declared.plan.Plan.{Plan}
use Rattle.plan_text.specs.declared.plan.PlanCommand.{PlanCommand}
use Rattle.plan_text.specs.declared.plan.PlanCommand.TheVariants.{Create, Cpu, Mem, Boot, Turns, Release}

-- the first command gives the node
unfoldable pub first_command : List (List ℕ) → Result Plan Why
first_command words =
    refuse_if (not (is_key (codes "node") (word_at words 0))) Keyword
    (refuse_if (miscounts 2 2 words) Count
    (in_range 1 64 (number_of (word_at words 1)) >>= λ cores.
    in_range 1 16000 (number_of (word_at words 2)) >>= λ frames.
    Ok (record { cores = cores; frames = frames; commands = [] })))

-- so many words behind the key, and fewer than 64 commands between node and this one
abbrev pub fits : ℕ → ℕ → List (List ℕ) → Result (Unit {0}) Why
fits count seen words = refuse_if (miscounts count count words) Count (refuse_if (nat_le 64 seen) TooMany (Ok tt))

abbrev pub instance_of : List (List ℕ) → Result ℕ Why
instance_of words = in_range 1 8 (number_of (word_at words 1))

abbrev pub core_below : ℕ → Option ℕ → Result ℕ Why
core_below cores None = Err Number
core_below cores (Some core) = if nat_lt core cores then Ok core else Err Number

-- each number below 2 ^ 64, as `number_of` reads them
abbrev pub order_of : Option ℕ → Result ℕ Why
order_of None = Err Number
order_of (Some order) = Ok order

unfoldable pub create_of : ℕ → List (List ℕ) → Result PlanCommand Why
create_of seen words =
    fits 1 seen words >>= λ _.
    instance_of words >>= λ instance.
    Ok (Create instance)

unfoldable pub cpu_of : ℕ → ℕ → List (List ℕ) → Result PlanCommand Why
cpu_of cores seen words =
    fits 2 seen words >>= λ _.
    instance_of words >>= λ instance.
    core_below cores (number_of (word_at words 2)) >>= λ core.
    Ok (Cpu instance core)

unfoldable pub mem_of : ℕ → List (List ℕ) → Result PlanCommand Why
mem_of seen words =
    fits 2 seen words >>= λ _.
    instance_of words >>= λ instance.
    in_range 1 16000 (number_of (word_at words 2)) >>= λ frames.
    Ok (Mem instance frames)

unfoldable pub boot_of : ℕ → List (List ℕ) → Result PlanCommand Why
boot_of seen words =
    fits 3 seen words >>= λ _.
    instance_of words >>= λ instance.
    order_of (number_of (word_at words 3)) >>= λ order.
    Ok (Boot instance (word_at words 2) order)

unfoldable pub turns_of : ℕ → List (List ℕ) → Result PlanCommand Why
turns_of seen words =
    fits 1 seen words >>= λ _.
    in_range 1 1000000 (number_of (word_at words 1)) >>= λ count.
    Ok (Turns count)

unfoldable pub release_of : ℕ → List (List ℕ) → Result PlanCommand Why
release_of seen words =
    fits 1 seen words >>= λ _.
    instance_of words >>= λ instance.
    Ok (Release instance)

-- node stands once
abbrev pub node_again : List (List ℕ) → Why
node_again words = if miscounts 2 2 words then Count else Repeat

-- the command of a line behind the first command, on a node of so many cores, with so many commands between
unfoldable pub command_of : ℕ → ℕ → List (List ℕ) → Result PlanCommand Why
command_of cores seen words =
    if is_key (codes "create") (word_at words 0) then create_of seen words
    else (if is_key (codes "cpu") (word_at words 0) then cpu_of cores seen words
    else (if is_key (codes "mem") (word_at words 0) then mem_of seen words
    else (if is_key (codes "boot") (word_at words 0) then boot_of seen words
    else (if is_key (codes "turns") (word_at words 0) then turns_of seen words
    else (if is_key (codes "release") (word_at words 0) then release_of seen words
    else (if is_key (codes "node") (word_at words 0) then Err (node_again words)
    else Err Keyword))))))

unfoldable pub next_command : Plan → ℕ → List (List ℕ) → Result Plan Why
next_command plan line words =
    command_of plan.cores (length plan.commands) words >>= λ command.
    Ok (record plan { commands = plan.commands ++ record { line = line; command = command } ∷ [] })

-- What the words answer is what the definition gives, unless memory ran out.
abbrev pub WordsGive : {A : Type 0} → Result A LineError → Result A Why → Type 0
WordsGive (Ok x) found = found ≡ Ok x
WordsGive (Err e) found = LineFails e found
