-- How a trace is read: which bytes are an entry, and which line is the first that is none.
use Rattle.hybrid_model.specs.declared.events.Event.{Event}
use Rattle.hybrid_model.specs.declared.events.Event.TheVariants.{Run, Trap, Deliver, Intake, Answer, BeginVm, Interrupt, Wait, Reap, Script, Fetch, Assign, Miss, Pin, Copy, Unpin, Act, Park, Unpark, Finish, AckClear}
use Rattle.mck_word.specs.Identifiers.{pid, tid, req}
use Rattle.mck_word.specs.Numbers.{number_of}
use Rattle.run_model.specs.Texts.{Line, part_bytes, text_of}
use Rattle.run_model.specs.Traces.{event_lines, is_of_first, version, words_of}
use Rattle.std.specs.Cmp.Lexicographic.{pointwise}
use Rattle.std.specs.List.{AllByRecursion}
use Rattle.std.specs.Prelude.{◌≡◌, ℕ, ◌+◌, ◌^◌, ◌<◌, Bool, true, cond, ◌==◌, nat_eq, nat_lt, List, [], ◌∷◌, ◌++◌, length, codes, Option, Some, None, ◌⊎◌}

-- ---- what the reader promises

-- The numbers of an event fit their types: 32 bits, and 64 for a request.
abbrev pub Small : ℕ → Type 0
Small n = n < 2 ^ 32

abbrev pub Fits : Event → Type 0
Fits (Run core t n) = Small core × Small t.0 × Small n
Fits (Trap t) = Small t.0
Fits (Deliver t) = Small t.0
Fits (Intake p) = Small p.0
Fits (Answer p w) = Small p.0 × Small w
Fits (BeginVm t) = Small t.0
Fits (Interrupt t) = Small t.0
Fits (Wait t) = Small t.0
Fits (Reap p) = Small p.0
Fits (Script k) = Small k
Fits (Fetch p r) = Small p.0 × Small r
Fits (Assign p w) = Small p.0 × Small w
Fits (Miss p w) = Small p.0 × Small w
Fits (Pin p w) = Small p.0 × Small w
Fits (Copy p w) = Small p.0 × Small w
Fits (Unpin p w) = Small p.0 × Small w
Fits (Act p w) = Small p.0 × Small w
Fits (Park p w) = Small p.0 × Small w
Fits (Unpark p q) = Small p.0 × (q.0 < 2 ^ 64)
Fits (Finish p w) = Small p.0 × Small w
Fits (AckClear p) = Small p.0

-- An event that a trace of the version may have as an entry.
pub record IsEntry (v : ℕ) (e : Event) : Type 0 where
  pub fits : Fits e
  pub first : v ≡ 1 → is_of_first e ≡ true

abbrev pub IsVersion : ℕ → Type 0
IsVersion v = (v ≡ 1) ⊎ (v ≡ 2)

-- The line of that number is the first of the bytes that is no entry: the first one, where it names no version; else one behind the
-- lines of these events, where bytes are left that no entry's line begins.
pub data FirstBroken (bytes : List ℕ) (line : ℕ) : Type 0 where
  NoVersion : line ≡ 1 → ((v : ℕ) (rest : List ℕ) → IsVersion v → bytes ≡ part_bytes (version v) ++ rest → ⊥) → FirstBroken bytes line
  NoEntry : (v : ℕ) (events : List Event) (rest : List ℕ) → IsVersion v → AllByRecursion (IsEntry v) events →
      bytes ≡ text_of (version v ∷ event_lines events) ++ rest → line ≡ length events + 2 → (rest ≡ [] → ⊥) →
      ((e : Event) (more : List ℕ) → IsEntry v e → rest ≡ part_bytes (Line (words_of e)) ++ more → ⊥) → FirstBroken bytes line

-- The same behind the first line, after these events.
pub record BrokenBehind (v : ℕ) (events : List Event) (bytes : List ℕ) (line : ℕ) : Type 0 where
  pub rest : List ℕ
  pub text : bytes ≡ text_of (event_lines events) ++ rest
  pub number : line ≡ length events + 2
  pub some : rest ≡ [] → ⊥
  pub none : (e : Event) (more : List ℕ) → IsEntry v e → rest ≡ part_bytes (Line (words_of e)) ++ more → ⊥

-- ---- the event of a line

-- the bytes before the first such byte, and those behind it
abbrev pub Halves : Type 0
Halves = Option (List ℕ × List ℕ)

abbrev pub with_first : ℕ → Halves → Halves
with_first b None = None
with_first b (Some p) = Some (b ∷ p.0, p.1)

abbrev pub cut_at : ℕ → List ℕ → Halves
cut_at mark [] = None
cut_at mark (b ∷ bs) = cond (b == mark) (Some ([], bs)) (with_first b (cut_at mark bs))

abbrev pub same : List ℕ → List ℕ → Bool
same a b = pointwise nat_eq a b

abbrev pub small_or_none : Option ℕ → Option ℕ
small_or_none None = None
small_or_none (Some n) = cond (nat_lt n (2 ^ 32)) (Some n) None

-- a number of 32 bits
abbrev pub small_of : List ℕ → Option ℕ
small_of bytes = small_or_none (number_of bytes)

-- a first word, and what its numbers make
abbrev pub Rule : Type 0 → Type 0
Rule N = List ℕ × (N → Event)

abbrev pub made_by : {N : Type 0} → List (Rule N) → List ℕ → N → Option Event
made_by [] word n = None
made_by (r ∷ rs) word n = cond (same word r.0) (Some (r.1 n)) (made_by rs word n)

abbrev pub ones : List (Rule ℕ)
ones = (codes "trap", λ n. Trap (tid n)) ∷ (codes "deliver", λ n. Deliver (tid n)) ∷ (codes "intake", λ n. Intake (pid n)) ∷ (codes "begin", λ n. BeginVm (tid n))
    ∷ (codes "interrupt", λ n. Interrupt (tid n)) ∷ (codes "wait", λ n. Wait (tid n)) ∷ (codes "reap", λ n. Reap (pid n)) ∷ (codes "script", λ n. Script n)
    ∷ (codes "fetch", λ n. Fetch (pid n) 0) ∷ (codes "ack", λ n. AckClear (pid n)) ∷ []

abbrev pub twos : List (Rule (ℕ × ℕ))
twos = (codes "answer", λ x. Answer (pid x.0) x.1) ∷ (codes "assign", λ x. Assign (pid x.0) x.1) ∷ (codes "miss", λ x. Miss (pid x.0) x.1) ∷ (codes "pin", λ x. Pin (pid x.0) x.1)
    ∷ (codes "copy", λ x. Copy (pid x.0) x.1) ∷ (codes "unpin", λ x. Unpin (pid x.0) x.1) ∷ (codes "act", λ x. Act (pid x.0) x.1) ∷ (codes "park", λ x. Park (pid x.0) x.1)
    ∷ (codes "finish", λ x. Finish (pid x.0) x.1) ∷ []

-- a ring other than the first, and a worker
abbrev pub two_small : List ℕ → ℕ → ℕ → Option Event
two_small word p m = cond (same word (codes "fetch")) (cond (m == 0) None (Some (Fetch (pid p) m))) (made_by twos word (p, m))

abbrev pub two_numbers : List ℕ → ℕ → ℕ → Option Event
two_numbers word p m = cond (same word (codes "unpark")) (Some (Unpark (pid p) (req m))) (cond (nat_lt m (2 ^ 32)) (two_small word p m) None)

abbrev pub one_from : List ℕ → Option ℕ → Option Event
one_from word None = None
one_from word (Some n) = made_by ones word n

abbrev pub one_of : List ℕ → List ℕ → Option Event
one_of word a = one_from word (small_of a)

abbrev pub two_from : List ℕ → Option ℕ → Option ℕ → Option Event
two_from word None m = None
two_from word (Some n) None = None
two_from word (Some n) (Some m) = two_numbers word n m

abbrev pub two_of : List ℕ → List ℕ → List ℕ → Option Event
two_of word a b = two_from word (small_of a) (number_of b)

abbrev pub run_from : Option ℕ → Option ℕ → Option ℕ → Option Event
run_from None b c = None
run_from (Some core) None c = None
run_from (Some core) (Some t) None = None
run_from (Some core) (Some t) (Some n) = Some (Run core (tid t) n)

abbrev pub three_of : List ℕ → List ℕ → List ℕ → List ℕ → Option Event
three_of word a b c = cond (same word (codes "run")) (run_from (small_of a) (small_of b) (small_of c)) None

abbrev pub two_or_three : List ℕ → List ℕ → List ℕ → Halves → Option Event
two_or_three word a rest None = two_of word a rest
two_or_three word a rest (Some x) = three_of word a x.0 x.1

abbrev pub numbers_of : List ℕ → List ℕ → Halves → Option Event
numbers_of word rest None = one_of word rest
numbers_of word rest (Some x) = two_or_three word x.0 x.1 (cut_at 32 x.1)

abbrev pub event_from : Halves → Option Event
event_from None = None
event_from (Some x) = numbers_of x.0 x.1 (cut_at 32 x.1)

abbrev pub event_of : List ℕ → Option Event
event_of line = event_from (cut_at 32 line)

-- the version that a first line names
abbrev pub version_of : List ℕ → Option ℕ
version_of line = cond (same line (codes "mctrace 1")) (Some 1) (cond (same line (codes "mctrace 2")) (Some 2) None)
