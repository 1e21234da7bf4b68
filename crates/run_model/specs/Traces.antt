-- The trace of a journal: one line for each event.
-- Source: this project's own.
use Rattle.hybrid_model.specs.declared.events.Event.{Event}
use Rattle.hybrid_model.specs.declared.events.Event.TheVariants.{Run, Trap, Deliver, Intake, Answer, BeginVm, Interrupt, Wait, Reap, Script, Fetch, Assign, Miss, Pin, Copy, Unpin, Act, Park, Unpark, Finish, AckClear}
use Rattle.run_model.specs.Texts.{Word, Text, Number, Part, Line, text_of}
use Rattle.std.specs.List.{list_all}
use Rattle.std.specs.Prelude.{◌≡◌, ℕ, zero, suc, List, [], ◌∷◌, map, codes, Bool, false, true, ◌==◌, ◌⊎◌}

abbrev pub one_number : List ℕ → ℕ → List Word
one_number word n = Text word ∷ Number n ∷ []

abbrev pub two_numbers : List ℕ → ℕ → ℕ → List Word
two_numbers word n m = Text word ∷ Number n ∷ Number m ∷ []

abbrev pub words_of : Event → List Word
words_of (Run core t n) = Text (codes "run") ∷ Number core ∷ Number t.0 ∷ Number n ∷ []
words_of (Trap t) = one_number (codes "trap") t.0
words_of (Deliver t) = one_number (codes "deliver") t.0
words_of (Intake p) = one_number (codes "intake") p.0
words_of (Answer p w) = two_numbers (codes "answer") p.0 w
words_of (BeginVm t) = one_number (codes "begin") t.0
words_of (Interrupt t) = one_number (codes "interrupt") t.0
words_of (Reap p) = one_number (codes "reap") p.0
words_of (Wait t) = one_number (codes "wait") t.0
words_of (Script k) = one_number (codes "script") k
words_of (Fetch p zero) = one_number (codes "fetch") p.0
words_of (Fetch p (suc r)) = two_numbers (codes "fetch") p.0 (suc r)
words_of (Assign p w) = two_numbers (codes "assign") p.0 w
words_of (Miss p w) = two_numbers (codes "miss") p.0 w
words_of (Pin p w) = two_numbers (codes "pin") p.0 w
words_of (Copy p w) = two_numbers (codes "copy") p.0 w
words_of (Unpin p w) = two_numbers (codes "unpin") p.0 w
words_of (Act p w) = two_numbers (codes "act") p.0 w
words_of (Park p w) = two_numbers (codes "park") p.0 w
words_of (Unpark p q) = two_numbers (codes "unpark") p.0 q.0
words_of (Finish p w) = two_numbers (codes "finish") p.0 w
words_of (AckClear p) = one_number (codes "ack") p.0

abbrev pub version : ℕ → Part
version n = Line (Text (codes "mctrace") ∷ Number n ∷ [])

abbrev pub event_lines : List Event → List Part
event_lines journal = map (λ e. Line (words_of e)) journal

abbrev pub trace_parts : List Event → List Part
trace_parts journal = version 2 ∷ event_lines journal

abbrev pub trace : List Event → List ℕ
trace journal = text_of (trace_parts journal)

-- an event that version 1 has too
abbrev pub is_of_first : Event → Bool
is_of_first (Wait t) = false
is_of_first (Fetch p r) = r == 0
is_of_first _ = true

-- The bytes spell the journal: its trace, or the same lines under the first version where each event is one of it. No other bytes do.
abbrev pub Spells : List ℕ → List Event → Type 0
Spells bytes journal = (bytes ≡ trace journal) ⊎ ((bytes ≡ text_of (version 1 ∷ event_lines journal)) × (list_all is_of_first journal ≡ true))
