-- What the commands of a plan keep.
use Rattle.std.proofs.Common.{◌≡◌, ℕ, ◌+◌, ◌-◌, ◌*◌, ◌^◌, ◌<◌, ◌==◌, nat_le, nat_lt, not, List, [], ◌∷◌, ◌++◌, Bool, true, false, length, Option, Some, None, Result, Ok, codes, refl, subst, arith, length-append, if◌then◌else◌}
use Rattle.std.proofs.lemmas.Bool.Decides.{nat_tests}
use Rattle.std.proofs.lemmas.List.Elements.{All-push}
use Rattle.mck_word.specs.Numbers.{digits, number_of}
use Rattle.job_text.specs.declared.fault.Why.{Why}
use Rattle.job_text.specs.declared.fault.Why.TheVariants.{Keyword, Count, TooMany}
use Rattle.job_text.specs.Checks.{◌>>=◌, refuse_if, in_range}
use Rattle.job_text.specs.TextLines.{IsLine}
use Rattle.job_text.specs.Words.{word_at, miscounts, is_key}
use Rattle.job_text.proofs.Passed.{bound, unrefused, chosen, same, range_kept, counted_words}
use Rattle.job_text.proofs.WordLists.{word_kept_at}
use Rattle.plan_text.specs.Kept.{IsCommand, IsPlan}
use Rattle.plan_text.specs.Lines.{first_command, fits, instance_of, core_below, order_of, create_of, cpu_of, mem_of, boot_of, turns_of, release_of, command_of, next_command}
use Rattle.plan_text.specs.declared.plan.Plan.{Plan}
use Rattle.plan_text.specs.declared.plan.PlanLine.{PlanLine}
use Rattle.plan_text.specs.declared.plan.PlanCommand.{PlanCommand}
use Rattle.plan_text.specs.declared.plan.PlanCommand.TheVariants.{Create, Cpu, Mem, Boot, Turns, Release}

-- ---- numbers

core_kept : (cores : ℕ) (o : Option ℕ) (core : ℕ) → core_below cores o ≡ Ok core → core < cores
core_kept cores None core h = cc
core_kept cores (Some m) core h =
    let t = chosen (nat_lt m cores) _ m core h in
    let below : m < cores = grind (arith, nat_tests, t.0) in
    subst (λ n. n < cores) t.1 below

digits_below : (n : ℕ) (ds : List ℕ) (m : ℕ) → n < 2 ^ 64 → digits n ds ≡ Some m → m < 2 ^ 64
digits_below n [] m small h = let e : n ≡ m = cc in subst (λ k. k < 2 ^ 64) e small
digits_below n (d ∷ ds) m small h = digit_below (nat_lt d 48) (nat_lt 57 d) (nat_lt (n * 10 + (d - 48)) (2 ^ 64)) refl (λ less e. digits_below (n * 10 + (d - 48)) ds m less e) h where
  digit_below : (low high small : Bool) → nat_lt (n * 10 + (d - 48)) (2 ^ 64) ≡ small → (n * 10 + (d - 48) < 2 ^ 64 → digits (n * 10 + (d - 48)) ds ≡ Some m → m < 2 ^ 64)
      → (if low then None else (if high then None else (if small then digits (n * 10 + (d - 48)) ds else None))) ≡ Some m → m < 2 ^ 64
  digit_below true high small e more h = cc
  digit_below false true small e more h = cc
  digit_below false false false e more h = cc
  digit_below false false true e more h = let less : n * 10 + (d - 48) < 2 ^ 64 = grind (arith, nat_tests, e) in more less h

number_below : (word : List ℕ) (m : ℕ) → number_of word ≡ Some m → m < 2 ^ 64
number_below [] m h = cc
number_below (d ∷ []) m h = digits_below 0 (d ∷ []) m (omega arith) h
number_below (d ∷ e ∷ ds) m h = led (d == 48) h where
  led : (zero : Bool) → (if zero then None else digits 0 (d ∷ e ∷ ds)) ≡ Some m → m < 2 ^ 64
  led true h = cc
  led false h = digits_below 0 (d ∷ e ∷ ds) m (omega arith) h

order_is : (o : Option ℕ) (order : ℕ) → order_of o ≡ Ok order → o ≡ Some order
order_is None order h = cc
order_is (Some n) order h = cc

order_kept : (word : List ℕ) (order : ℕ) → order_of (number_of word) ≡ Ok order → order < 2 ^ 64
order_kept word order h = number_below word order (order_is (number_of word) order h)

-- ---- a command behind the first one

-- so many commands stand between the first one and this one
record IsNext (cores seen : ℕ) (command : PlanCommand) : Type 0 where
  room : seen < 64
  fit : IsCommand cores command

fitting : (count seen : ℕ) (words : List (List ℕ)) (u : Unit {0}) → fits count seen words ≡ Ok u → (miscounts count count words ≡ false) × (seen < 64)
fitting count seen words u h =
    let c = unrefused (miscounts count count words) Count (refuse_if (nat_le 64 seen) TooMany (Ok tt)) u h in
    let room = unrefused (nat_le 64 seen) TooMany (Ok tt) u c.1 in
    let few : seen < 64 = grind (arith, nat_tests, room.0) in
    (c.0, few)

create_kept : (cores seen : ℕ) (words : List (List ℕ)) (c : PlanCommand) → create_of seen words ≡ Ok c → IsNext cores seen c
unfolding create_of
create_kept cores seen words c h =
    let f = bound (fits 1 seen words) (λ _. instance_of words >>= λ instance. Ok (Create instance)) c h in
    let i = bound (instance_of words) (λ instance. Ok (Create instance)) c f.2 in
    let room = (fitting 1 seen words f.0 f.1).1 in
    subst (IsNext cores seen) (same (Create i.0) c i.2) (record { room = room; fit = range_kept 1 8 (number_of (word_at words 1)) i.0 i.1 })

cpu_kept : (cores seen : ℕ) (words : List (List ℕ)) (c : PlanCommand) → cpu_of cores seen words ≡ Ok c → IsNext cores seen c
unfolding cpu_of
cpu_kept cores seen words c h =
    let core_of : Result ℕ Why = core_below cores (number_of (word_at words 2)) in
    let f = bound (fits 2 seen words) (λ _. instance_of words >>= λ instance. core_of >>= λ core. Ok (Cpu instance core)) c h in
    let i = bound (instance_of words) (λ instance. core_of >>= λ core. Ok (Cpu instance core)) c f.2 in
    let n = bound core_of (λ core. Ok (Cpu i.0 core)) c i.2 in
    let room = (fitting 2 seen words f.0 f.1).1 in
    subst (IsNext cores seen) (same (Cpu i.0 n.0) c n.2)
    (record { room = room; fit = (range_kept 1 8 (number_of (word_at words 1)) i.0 i.1, core_kept cores (number_of (word_at words 2)) n.0 n.1) })

mem_kept : (cores seen : ℕ) (words : List (List ℕ)) (c : PlanCommand) → mem_of seen words ≡ Ok c → IsNext cores seen c
unfolding mem_of
mem_kept cores seen words c h =
    let frames_of : Result ℕ Why = in_range 1 16000 (number_of (word_at words 2)) in
    let f = bound (fits 2 seen words) (λ _. instance_of words >>= λ instance. frames_of >>= λ frames. Ok (Mem instance frames)) c h in
    let i = bound (instance_of words) (λ instance. frames_of >>= λ frames. Ok (Mem instance frames)) c f.2 in
    let n = bound frames_of (λ frames. Ok (Mem i.0 frames)) c i.2 in
    let room = (fitting 2 seen words f.0 f.1).1 in
    subst (IsNext cores seen) (same (Mem i.0 n.0) c n.2)
    (record { room = room; fit = (range_kept 1 8 (number_of (word_at words 1)) i.0 i.1, range_kept 1 16000 (number_of (word_at words 2)) n.0 n.1) })

boot_kept : (cores seen : ℕ) (words : List (List ℕ)) (c : PlanCommand) → IsLine words → boot_of seen words ≡ Ok c → IsNext cores seen c
unfolding boot_of
boot_kept cores seen words c line h =
    let made : ℕ → ℕ → PlanCommand = λ instance order. Boot instance (word_at words 2) order in
    let last : Result ℕ Why = order_of (number_of (word_at words 3)) in
    let f = bound (fits 3 seen words) (λ _. instance_of words >>= λ instance. last >>= λ order. Ok (made instance order)) c h in
    let i = bound (instance_of words) (λ instance. last >>= λ order. Ok (made instance order)) c f.2 in
    let n = bound last (λ order. Ok (made i.0 order)) c i.2 in
    let fit = fitting 3 seen words f.0 f.1 in
    let counted = counted_words 3 3 words line fit.0 in
    let name = word_kept_at words 2 (omega (arith, counted.low)) counted.kept in
    subst (IsNext cores seen) (same (made i.0 n.0) c n.2)
    (record { room = fit.1; fit = (range_kept 1 8 (number_of (word_at words 1)) i.0 i.1, name, order_kept (word_at words 3) n.0 n.1) })

turns_kept : (cores seen : ℕ) (words : List (List ℕ)) (c : PlanCommand) → turns_of seen words ≡ Ok c → IsNext cores seen c
unfolding turns_of
turns_kept cores seen words c h =
    let count_of : Result ℕ Why = in_range 1 1000000 (number_of (word_at words 1)) in
    let f = bound (fits 1 seen words) (λ _. count_of >>= λ count. Ok (Turns count)) c h in
    let n = bound count_of (λ count. Ok (Turns count)) c f.2 in
    let room = (fitting 1 seen words f.0 f.1).1 in
    subst (IsNext cores seen) (same (Turns n.0) c n.2) (record { room = room; fit = range_kept 1 1000000 (number_of (word_at words 1)) n.0 n.1 })

release_kept : (cores seen : ℕ) (words : List (List ℕ)) (c : PlanCommand) → release_of seen words ≡ Ok c → IsNext cores seen c
unfolding release_of
release_kept cores seen words c h =
    let f = bound (fits 1 seen words) (λ _. instance_of words >>= λ instance. Ok (Release instance)) c h in
    let i = bound (instance_of words) (λ instance. Ok (Release instance)) c f.2 in
    let room = (fitting 1 seen words f.0 f.1).1 in
    subst (IsNext cores seen) (same (Release i.0) c i.2) (record { room = room; fit = range_kept 1 8 (number_of (word_at words 1)) i.0 i.1 })

either_kept : {A : Type 0} (P : Type 0) (b : Bool) (x y : Result A Why) (new : A) → (x ≡ Ok new → P) → (y ≡ Ok new → P) → (if b then x else y) ≡ Ok new → P
either_kept P true x y new f g h = f h
either_kept P false x y new f g h = g h

command_kept : (cores seen : ℕ) (words : List (List ℕ)) (c : PlanCommand) → IsLine words → command_of cores seen words ≡ Ok c → IsNext cores seen c
unfolding command_of
command_kept cores seen words c line h =
    let P = IsNext cores seen c in
    either_kept P (is_key (codes "create") (word_at words 0)) _ _ c (create_kept cores seen words c)
    (either_kept P (is_key (codes "cpu") (word_at words 0)) _ _ c (cpu_kept cores seen words c)
    (either_kept P (is_key (codes "mem") (word_at words 0)) _ _ c (mem_kept cores seen words c)
    (either_kept P (is_key (codes "boot") (word_at words 0)) _ _ c (boot_kept cores seen words c line)
    (either_kept P (is_key (codes "turns") (word_at words 0)) _ _ c (turns_kept cores seen words c)
    (either_kept P (is_key (codes "release") (word_at words 0)) _ _ c (release_kept cores seen words c)
    (either_kept P (is_key (codes "node") (word_at words 0)) _ _ c (λ e. cc) (λ e. cc))))))) h

-- ---- a plan

pub next_kept : (plan new : Plan) (line : ℕ) (words : List (List ℕ)) → IsLine words → IsPlan plan → next_command plan line words ≡ Ok new → IsPlan new
unfolding next_command
next_kept plan new line words l k h =
    let made : PlanCommand → PlanLine = λ command. record { line = line; command = command } in
    let c = bound (command_of plan.cores (length plan.commands) words) (λ command. Ok (record plan { commands = plan.commands ++ made command ∷ [] })) new h in
    let n = command_kept plan.cores (length plan.commands) words c.0 l c.1 in
    subst IsPlan (same (record plan { commands = plan.commands ++ made c.0 ∷ [] }) new c.2)
    (record {
      cores = k.cores;
      frames = k.frames;
      most = omega (arith, n.room, length-append plan.commands (made c.0 ∷ []));
      commands = All-push (λ (c : PlanLine). IsCommand plan.cores c.command) plan.commands (made c.0) k.commands n.fit;
    })

pub first_kept : (new : Plan) (words : List (List ℕ)) → first_command words ≡ Ok new → IsPlan new
unfolding first_command
first_kept new words h =
    let made : ℕ → ℕ → Plan = λ cores frames. record { cores = cores; frames = frames; commands = [] } in
    let frames_of : Result ℕ Why = in_range 1 16000 (number_of (word_at words 2)) in
    let key = unrefused (not (is_key (codes "node") (word_at words 0))) Keyword _ new h in
    let counted = unrefused (miscounts 2 2 words) Count _ new key.1 in
    let c = bound (in_range 1 64 (number_of (word_at words 1))) (λ cores. frames_of >>= λ frames. Ok (made cores frames)) new counted.1 in
    let f = bound frames_of (λ frames. Ok (made c.0 frames)) new c.2 in
    subst IsPlan (same (made c.0 f.0) new f.2)
    (record {
      cores = range_kept 1 64 (number_of (word_at words 1)) c.0 c.1;
      frames = range_kept 1 16000 (number_of (word_at words 2)) f.0 f.1;
      most = omega arith;
      commands = λ k d i. absurd (omega arith);
    })
