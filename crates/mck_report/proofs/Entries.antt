-- Entries: the event of a line, and the line of an event.
use Rattle.hybrid_model.specs.declared.events.Event.{Event}
use Rattle.hybrid_model.specs.declared.events.Event.TheVariants.{Run, Trap, Deliver, Intake, Answer, BeginVm, Interrupt, Wait, Reap, Script, Fetch, Assign, Miss, Pin, Copy, Unpin, Act, Park, Unpark, Finish, AckClear}
use Rattle.mck_report.proofs.Cuts.{WordsLack, cut, cut_at-append, cut_at-lacks, decimal_lacks, lacks, lacks-append, spaced_lacks}
use Rattle.mck_report.proofs.NumberTexts.{number_of-decimal, written}
use Rattle.mck_report.specs.Reading.{Fits, Halves, Rule, Small, cut_at, event_from, event_of, made_by, numbers_of, one_from, ones, run_from, same, small_of, small_or_none, three_of, two_from, two_numbers, two_or_three, two_small, twos}
use Rattle.mck_word.specs.Identifiers.{pid, tid, req}
use Rattle.mck_word.specs.Numbers.{number_of}
use Rattle.run_model.specs.Texts.{Word, Text, Number, spaced}
use Rattle.run_model.specs.Traces.{words_of}
use Rattle.std.proofs.Common.{◌≡◌, ℕ, zero, suc, ◌^◌, ◌<◌, ◌==◌, nat_lt, Bool, true, false, List, [], ◌∷◌, ◌++◌, Option, Some, None, codes, refl, sym, ◌∙◌, ap, subst, arith, append_assoc, cond}
use Rattle.std.proofs.lemmas.Bool.Decides.{nat_tests}
use Rattle.std.specs.Cmp.Lexicographic.{bytes_decides}
use Rattle.std.specs.Fmt.{decimal}
use Rattle.std.specs.List.{AllByRecursion}

wide : (n : ℕ) → Small n → n < 2 ^ 64
wide n h = omega arith

small_of-decimal : (n : ℕ) → Small n → small_of (decimal n) ≡ Some n
small_of-decimal n h = let t : nat_lt n (2 ^ 32) ≡ true = grind (arith, nat_tests) in rw (number_of-decimal n (wide n h), t) refl

-- ---- the line of an event is read as the event

reads_one : (w : List ℕ) (n : ℕ) → lacks 32 w ≡ true → Small n → event_of (w ++ 32 ∷ decimal n) ≡ made_by ones w n
reads_one w n l h =
    ap event_from (cut_at-append 32 w (decimal n) l) ∙ (ap (numbers_of w (decimal n)) (cut_at-lacks 32 (decimal n) (decimal_lacks 32 n (omega arith) (wide n h)))
    ∙ ap (one_from w) (small_of-decimal n h))

reads_two : (w : List ℕ) (n m : ℕ) → lacks 32 w ≡ true → Small n → m < 2 ^ 64 → event_of (w ++ 32 ∷ (decimal n ++ 32 ∷ decimal m)) ≡ two_numbers w n m
reads_two w n m l h k =
    ap event_from (cut_at-append 32 w (decimal n ++ 32 ∷ decimal m) l)
    ∙ (ap (numbers_of w (decimal n ++ 32 ∷ decimal m)) (cut_at-append 32 (decimal n) (decimal m) (decimal_lacks 32 n (omega arith) (wide n h)))
    ∙ (ap (two_or_three w (decimal n) (decimal m)) (cut_at-lacks 32 (decimal m) (decimal_lacks 32 m (omega arith) k))
    ∙ (ap (λ x. two_from w x (number_of (decimal m))) (small_of-decimal n h) ∙ ap (two_from w (Some n)) (number_of-decimal m k))))

reads_two_small : (w : List ℕ) (n m : ℕ) → lacks 32 w ≡ true → same w (codes "unpark") ≡ false → Small n → Small m → event_of (w ++ 32 ∷ (decimal n ++ 32 ∷ decimal m)) ≡ two_small w n m
reads_two_small w n m l o h k =
    let t : nat_lt m (2 ^ 32) ≡ true = grind (arith, nat_tests) in
    reads_two w n m l h (wide m k) ∙ (ap (λ x. cond x (Some (Unpark (pid n) (req m))) (cond (nat_lt m (2 ^ 32)) (two_small w n m) None)) o ∙ ap (λ x. cond x (two_small w n m) None) t)

reads_run : (a b c : ℕ) → Small a → Small b → Small c → event_of (codes "run" ++ 32 ∷ (decimal a ++ 32 ∷ (decimal b ++ 32 ∷ decimal c))) ≡ Some (Run a (tid b) c)
reads_run a b c h k l =
    let w = codes "run" in
    let bc = decimal b ++ 32 ∷ decimal c in
    ap event_from (cut_at-append 32 w (decimal a ++ 32 ∷ bc) refl)
    ∙ (ap (numbers_of w (decimal a ++ 32 ∷ bc)) (cut_at-append 32 (decimal a) bc (decimal_lacks 32 a (omega arith) (wide a h)))
    ∙ (ap (two_or_three w (decimal a) bc) (cut_at-append 32 (decimal b) (decimal c) (decimal_lacks 32 b (omega arith) (wide b k)))
    ∙ (ap (λ x. run_from x (small_of (decimal b)) (small_of (decimal c))) (small_of-decimal a h)
    ∙ (ap (λ x. run_from (Some a) x (small_of (decimal c))) (small_of-decimal b k) ∙ ap (run_from (Some a) (Some b)) (small_of-decimal c l)))))

-- the line of an event is an entry
pub event_of-line : (e : Event) → Fits e → event_of (spaced (words_of e)) ≡ Some e
event_of-line (Run core t n) h = reads_run core t.0 n h.0 h.1 h.2
event_of-line (Trap t) h = reads_one (codes "trap") t.0 refl h
event_of-line (Deliver t) h = reads_one (codes "deliver") t.0 refl h
event_of-line (Intake p) h = reads_one (codes "intake") p.0 refl h
event_of-line (Answer p w) h = reads_two_small (codes "answer") p.0 w refl refl h.0 h.1
event_of-line (BeginVm t) h = reads_one (codes "begin") t.0 refl h
event_of-line (Interrupt t) h = reads_one (codes "interrupt") t.0 refl h
event_of-line (Wait t) h = reads_one (codes "wait") t.0 refl h
event_of-line (Reap p) h = reads_one (codes "reap") p.0 refl h
event_of-line (Script k) h = reads_one (codes "script") k refl h
event_of-line (Fetch p zero) h = reads_one (codes "fetch") p.0 refl h.0
event_of-line (Fetch p (suc r)) h =
    let other : (suc r == 0) ≡ false = grind (arith, nat_tests) in
    reads_two_small (codes "fetch") p.0 (suc r) refl refl h.0 h.1 ∙ ap (λ t. cond t None (Some (Fetch p (suc r)))) other
event_of-line (Assign p w) h = reads_two_small (codes "assign") p.0 w refl refl h.0 h.1
event_of-line (Miss p w) h = reads_two_small (codes "miss") p.0 w refl refl h.0 h.1
event_of-line (Pin p w) h = reads_two_small (codes "pin") p.0 w refl refl h.0 h.1
event_of-line (Copy p w) h = reads_two_small (codes "copy") p.0 w refl refl h.0 h.1
event_of-line (Unpin p w) h = reads_two_small (codes "unpin") p.0 w refl refl h.0 h.1
event_of-line (Act p w) h = reads_two_small (codes "act") p.0 w refl refl h.0 h.1
event_of-line (Park p w) h = reads_two_small (codes "park") p.0 w refl refl h.0 h.1
event_of-line (Unpark p q) h = reads_two (codes "unpark") p.0 q.0 refl h.0 h.1
event_of-line (Finish p w) h = reads_two_small (codes "finish") p.0 w refl refl h.0 h.1
event_of-line (AckClear p) h = reads_one (codes "ack") p.0 refl h

-- it has no line feed
lacks_one : (w : List ℕ) (n : ℕ) → lacks 10 w ≡ true → n < 2 ^ 64 → lacks 10 (spaced (Text w ∷ Number n ∷ [])) ≡ true
lacks_one w n l h = spaced_lacks (Text w ∷ Number n ∷ []) (l, (decimal_lacks 10 n (omega arith) h, tt))

lacks_two : (w : List ℕ) (n m : ℕ) → lacks 10 w ≡ true → n < 2 ^ 64 → m < 2 ^ 64 → lacks 10 (spaced (Text w ∷ Number n ∷ Number m ∷ [])) ≡ true
lacks_two w n m l h k = spaced_lacks (Text w ∷ Number n ∷ Number m ∷ []) (l, (decimal_lacks 10 n (omega arith) h, (decimal_lacks 10 m (omega arith) k, tt)))

pub line_lacks : (e : Event) → Fits e → lacks 10 (spaced (words_of e)) ≡ true
line_lacks (Run core t n) h = spaced_lacks (Text (codes "run") ∷ Number core ∷ Number t.0 ∷ Number n ∷ []) (refl, (decimal_lacks 10 core (omega arith) (wide core h.0), (decimal_lacks 10 t.0 (omega arith) (wide t.0 h.1), (decimal_lacks 10 n (omega arith) (wide n h.2), tt))))
line_lacks (Trap t) h = lacks_one (codes "trap") t.0 refl (wide t.0 h)
line_lacks (Deliver t) h = lacks_one (codes "deliver") t.0 refl (wide t.0 h)
line_lacks (Intake p) h = lacks_one (codes "intake") p.0 refl (wide p.0 h)
line_lacks (Answer p w) h = lacks_two (codes "answer") p.0 w refl (wide p.0 h.0) (wide w h.1)
line_lacks (BeginVm t) h = lacks_one (codes "begin") t.0 refl (wide t.0 h)
line_lacks (Interrupt t) h = lacks_one (codes "interrupt") t.0 refl (wide t.0 h)
line_lacks (Wait t) h = lacks_one (codes "wait") t.0 refl (wide t.0 h)
line_lacks (Reap p) h = lacks_one (codes "reap") p.0 refl (wide p.0 h)
line_lacks (Script k) h = lacks_one (codes "script") k refl (wide k h)
line_lacks (Fetch p zero) h = lacks_one (codes "fetch") p.0 refl (wide p.0 h.0)
line_lacks (Fetch p (suc r)) h = lacks_two (codes "fetch") p.0 (suc r) refl (wide p.0 h.0) (wide (suc r) h.1)
line_lacks (Assign p w) h = lacks_two (codes "assign") p.0 w refl (wide p.0 h.0) (wide w h.1)
line_lacks (Miss p w) h = lacks_two (codes "miss") p.0 w refl (wide p.0 h.0) (wide w h.1)
line_lacks (Pin p w) h = lacks_two (codes "pin") p.0 w refl (wide p.0 h.0) (wide w h.1)
line_lacks (Copy p w) h = lacks_two (codes "copy") p.0 w refl (wide p.0 h.0) (wide w h.1)
line_lacks (Unpin p w) h = lacks_two (codes "unpin") p.0 w refl (wide p.0 h.0) (wide w h.1)
line_lacks (Act p w) h = lacks_two (codes "act") p.0 w refl (wide p.0 h.0) (wide w h.1)
line_lacks (Park p w) h = lacks_two (codes "park") p.0 w refl (wide p.0 h.0) (wide w h.1)
line_lacks (Unpark p q) h = lacks_two (codes "unpark") p.0 q.0 refl (wide p.0 h.0) h.1
line_lacks (Finish p w) h = lacks_two (codes "finish") p.0 w refl (wide p.0 h.0) (wide w h.1)
line_lacks (AckClear p) h = lacks_one (codes "ack") p.0 refl (wide p.0 h)
