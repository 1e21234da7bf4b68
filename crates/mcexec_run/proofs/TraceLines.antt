-- Traces that are run again, line by line: what is spelled, and which line is refused.
use Rattle.hybrid_model.specs.Events.{after, may}
use Rattle.hybrid_model.specs.Journals.{may_all, state}
use Rattle.hybrid_model.specs.Pairs.{Pair}
use Rattle.hybrid_model.specs.declared.events.Event.{Event}
use Rattle.ihk_parts.proofs.Walked.{both_true}
use Rattle.mcexec_run.specs.Replaying.{Begins, FirstRefused, FrontBehind, IsFront, IsTraceOf, NoEvent, NoVersion, RefusedBehind}
use Rattle.mck_report.proofs.Journals.{entries_fit, entries_of, no_line, same_front, same_read, same_version, spells}
use Rattle.mck_report.proofs.Lines.{text_of-append}
use Rattle.mck_report.specs.Reading.{IsEntry, IsVersion}
use Rattle.run_model.specs.Texts.{Line, part_bytes, spaced, text_of}
use Rattle.run_model.specs.Traces.{Spells, event_lines, trace, version, words_of}
use Rattle.std.proofs.Common.{Bool, Err, List, Ok, OnOk, Result, [], ap, append_assoc, arith, false, inl, inr, length, length-append, refl, subst, suc, sym, true, ℕ, ◌+◌, ◌++◌, ◌∙◌, ◌∷◌, ◌≡◌, ◌≤◌}
use Rattle.std.proofs.lemmas.List.{append-nil}
use Rattle.std.specs.List.{AllByRecursion}

abbrev pub line : Event → List ℕ
line e = part_bytes (Line (words_of e))

abbrev pub body : List Event → List ℕ
body js = text_of (event_lines js)

-- ---- one line more

lines_append : (xs : List Event) (e : Event) → event_lines (xs ++ e ∷ []) ≡ event_lines xs ++ Line (words_of e) ∷ []
lines_append [] e = refl
lines_append (x ∷ xs) e = ap (λ ls. Line (words_of x) ∷ ls) (lines_append xs e)

longer : (js : List Event) (e : Event) → body (js ++ e ∷ []) ≡ body js ++ line e
longer js e = ap text_of (lines_append js e) ∙ (text_of-append (event_lines js) (Line (words_of e) ∷ []) ∙ ap (λ x. body js ++ x) (append-nil (line e)))

pub line_more : (bytes rest more : List ℕ) (js js' : List Event) (e : Event) → bytes ≡ body js ++ rest → rest ≡ line e ++ more → js' ≡ js ++ e ∷ [] → bytes ≡ body js' ++ more
line_more bytes rest more js js' e b r j =
    b ∙ (ap (λ x. body js ++ x) r ∙ (sym (append_assoc (body js) (line e) more) ∙ ap (λ x. x ++ more) (sym (ap body j ∙ longer js e))))

-- a line is longer than nothing
pub rest_shorter : (rest more : List ℕ) (e : Event) → rest ≡ line e ++ more → length more + 1 ≤ length rest
rest_shorter rest more e r = omega (arith, ap length r, length-append (line e) more, length-append (spaced (words_of e)) (10 ∷ []))

-- ---- the line that is refused

pub no_entry : (pair : Pair) (v n : ℕ) (js : List Event) (bytes rest : List ℕ) → bytes ≡ body js ++ rest → n ≡ length js + 2 → (rest ≡ [] → ⊥)
    → ((e : Event) (more : List ℕ) → IsEntry v e → rest ≡ line e ++ more → ⊥) → RefusedBehind pair v js bytes n
no_entry pair v n js bytes rest b k some none = record { rest = rest; text = b; number = k; some = some; none = λ e more h s. absurd (none e more h s) }

pub no_event : (start pair : Pair) (v n : ℕ) (js : List Event) (bytes rest more : List ℕ) (e : Event) → bytes ≡ body js ++ rest → n ≡ length js + 2 → (rest ≡ [] → ⊥) → IsEntry v e → rest ≡ line e ++ more
    → pair ≡ state start js → may pair e ≡ false → RefusedBehind start v js bytes n
no_event start pair v n js bytes rest more e b k some entry split at_state not_may = record {
  rest = rest;
  text = b;
  number = k;
  some = some;
  none = λ f others h s. (let same : f ≡ e = (same_front f e others more h.fits entry.fits (sym s ∙ split)).0 in
      ap (λ x. may (state start js) x) same ∙ subst (λ (p : Pair). may p e ≡ false) at_state not_may);
}

-- ---- with the first line

pub whole_text : (bytes rest more : List ℕ) (v : ℕ) (js : List Event) → bytes ≡ part_bytes (version v) ++ rest → rest ≡ body js ++ more → bytes ≡ text_of (version v ∷ event_lines js) ++ more
whole_text bytes rest more v js b r = b ∙ (ap (λ x. part_bytes (version v) ++ x) r ∙ sym (append_assoc (part_bytes (version v)) (body js) more))

pub front_is : (bytes rest : List ℕ) (v : ℕ) (js : List Event) → IsVersion v → bytes ≡ part_bytes (version v) ++ rest → AllByRecursion (IsEntry v) js → FrontBehind rest js → IsFront bytes js
front_is bytes rest v js is b h f = (v, f.0, record { known = is; entries = h; text = whole_text bytes rest f.0 v js b f.1 })

pub refused_first : (pair : Pair) (bytes rest : List ℕ) (v n : ℕ) (js : List Event) → IsVersion v → bytes ≡ part_bytes (version v) ++ rest → AllByRecursion (IsEntry v) js → may_all pair js ≡ true
    → RefusedBehind pair v js rest n → FirstRefused pair bytes n
refused_first pair bytes rest v n js is b h m x =
    NoEvent v js x.rest (record { known = is; entries = h; text = whole_text bytes rest x.rest v js b x.text }) m x.number x.some x.none

pub trace_is : (bytes rest : List ℕ) (v : ℕ) (js : List Event) → IsVersion v → bytes ≡ part_bytes (version v) ++ rest → AllByRecursion (IsEntry v) js → rest ≡ body js → IsTraceOf bytes js
trace_is bytes rest v js is b h r = record { spelled = spells bytes rest v js is b r h; fits = entries_fit v js h }

-- a trace as a front of itself
two_is_not_one : (v : ℕ) → v ≡ 2 → v ≡ 1 → ⊥
two_is_not_one v e h = omega arith

pub record Spelling (bytes : List ℕ) (js : List Event) : Type 0 where
  pub of_version : ℕ
  pub begins : Begins bytes of_version js []

spelling : (bytes : List ℕ) (js : List Event) → IsTraceOf bytes js → Spelling bytes js
spelling bytes js t = go t.spelled
  where
    go : Spells bytes js → Spelling bytes js
    go (inl e) = record { of_version = 2; begins = record { known = inr refl; entries = entries_of 2 js t.fits (λ h. absurd (two_is_not_one 2 refl h)); text = e ∙ sym (append-nil (trace js)) } }
    go (inr e) = record { of_version = 1; begins = record { known = inl refl; entries = entries_of 1 js t.fits (λ h. e.1); text = e.0 ∙ sym (append-nil (text_of (version 1 ∷ event_lines js))) } }

pub front_of : (bytes : List ℕ) (js : List Event) → IsTraceOf bytes js → IsFront bytes js
front_of bytes js t = let s = spelling bytes js t in (s.of_version, [], s.begins)

-- ---- one trace has one answer

false_or_true : (b : Bool) → b ≡ false → b ≡ true → ⊥
false_or_true b e h = cc

-- what a refused line says of the bytes that are left
abbrev Refuses : ℕ → Pair → List Event → List ℕ → Type 0
Refuses v pair js rest = (e : Event) (more : List ℕ) → IsEntry v e → rest ≡ line e ++ more → may (state pair js) e ≡ false

no_line_here : (v : ℕ) (pair : Pair) (y : Event) (ys : List Event) (rest more : List ℕ) → IsEntry v y → rest ≡ line y ++ more → may_all pair (y ∷ ys) ≡ true → Refuses v pair [] rest → ⊥
no_line_here v pair y ys rest more h e m none =
    false_or_true (may pair y) (none y more h e) ((both_true (may pair y) (may_all (after pair y) ys) m).0)

-- a journal that is spelled whole, whose events may happen, has no refused line
no_refusal : (v : ℕ) (pair : Pair) (js ks : List Event) (rest : List ℕ) → AllByRecursion (IsEntry v) js → AllByRecursion (IsEntry v) ks → body ks ≡ body js ++ rest → may_all pair ks ≡ true
    → (rest ≡ [] → ⊥) → Refuses v pair js rest → ⊥
no_refusal v pair [] [] rest h k e m some none = some (sym e)
no_refusal v pair [] (y ∷ ys) rest h k e m some none = no_line_here v pair y ys rest (body ys) k.0 (sym e) m none
no_refusal v pair (x ∷ xs) [] rest h k e m some none = no_line x (body xs ++ rest) (sym (append_assoc (line x) (body xs) rest) ∙ sym e)
no_refusal v pair (x ∷ xs) (y ∷ ys) rest h k e m some none =
    let p = same_front y x (body ys) (body xs ++ rest) k.0.fits h.0.fits (e ∙ append_assoc (line x) (body xs) rest) in
    let goes_on : may_all (after pair x) ys ≡ true = subst (λ (z : Event). may_all (after pair z) ys ≡ true) p.0 ((both_true (may pair y) (may_all (after pair y) ys) m).1) in
    no_refusal v (after pair x) xs ys rest h.1 k.1 p.1 goes_on some none

-- two refused lines are behind as many events
same_length : (v : ℕ) (pair : Pair) (js ks : List Event) (rest others : List ℕ) → AllByRecursion (IsEntry v) js → AllByRecursion (IsEntry v) ks → body js ++ rest ≡ body ks ++ others
    → may_all pair js ≡ true → may_all pair ks ≡ true → Refuses v pair js rest → Refuses v pair ks others → length js ≡ length ks
same_length v pair [] [] rest others h k e m n a b = refl
same_length v pair [] (y ∷ ys) rest others h k e m n a b = absurd (no_line_here v pair y ys rest (body ys ++ others) k.0 (e ∙ append_assoc (line y) (body ys) others) n a)
same_length v pair (x ∷ xs) [] rest others h k e m n a b = absurd (no_line_here v pair x xs others (body xs ++ rest) h.0 (sym e ∙ append_assoc (line x) (body xs) rest) m b)
same_length v pair (x ∷ xs) (y ∷ ys) rest others h k e m n a b =
    let p = same_front x y (body xs ++ rest) (body ys ++ others) h.0.fits k.0.fits (sym (append_assoc (line x) (body xs) rest) ∙ (e ∙ append_assoc (line y) (body ys) others)) in
    let same : after pair y ≡ after pair x = ap (after pair) (sym p.0) in
    let goes_on : may_all (after pair x) ys ≡ true = subst (λ (z : Pair). may_all z ys ≡ true) same ((both_true (may pair y) (may_all (after pair y) ys) n).1) in
    let refused : Refuses v (after pair x) ys others = λ f more g q. ap (λ (z : Pair). may (state z ys) f) (sym same) ∙ b f more g q in
    ap suc (same_length v (after pair x) xs ys rest others h.1 k.1 p.1 ((both_true (may pair x) (may_all (after pair x) xs) m).1) goes_on a refused)

same_text : (bytes : List ℕ) (v w : ℕ) (js ks : List Event) (rest others : List ℕ) → Begins bytes v js rest → Begins bytes w ks others → (v ≡ w) × (body js ++ rest ≡ body ks ++ others)
same_text bytes v w js ks rest others a b =
    same_version v w (body js ++ rest) (body ks ++ others) a.known b.known
    (sym (append_assoc (part_bytes (version v)) (body js) rest) ∙ (sym a.text ∙ (b.text ∙ append_assoc (part_bytes (version w)) (body ks) others)))

begins_so : (bytes : List ℕ) (v : ℕ) (js : List Event) (rest : List ℕ) → Begins bytes v js rest → bytes ≡ part_bytes (version v) ++ (body js ++ rest)
begins_so bytes v js rest b = b.text ∙ append_assoc (part_bytes (version v)) (body js) rest

-- a legal trace has no refused line
pub not_refused : (pair : Pair) (bytes : List ℕ) (n : ℕ) (ks : List Event) → IsTraceOf bytes ks → may_all pair ks ≡ true → FirstRefused pair bytes n → ⊥
not_refused pair bytes n ks t m (NoVersion e none) = let f = front_of bytes ks t in none f.0 (body ks ++ f.1) f.2.known (begins_so bytes f.0 ks f.1 f.2)
not_refused pair bytes n ks t m (NoEvent v js rest b legal e some none) = go (spelling bytes ks t)
  where
    go : Spelling bytes ks → ⊥
    go s =
        let p = same_text bytes s.of_version v ks js [] rest s.begins b in
        no_refusal v pair js ks rest b.entries (subst (λ (w : ℕ). AllByRecursion (IsEntry w) ks) p.0 s.begins.entries) (sym (append-nil (body ks)) ∙ p.1) m some none

-- one line at most is the first that is refused
pub same_refusal : (pair : Pair) (bytes : List ℕ) (a b : ℕ) → FirstRefused pair bytes a → FirstRefused pair bytes b → a ≡ b
same_refusal pair bytes a b (NoVersion e none) (NoVersion f none_too) = e ∙ sym f
same_refusal pair bytes a b (NoVersion e none) (NoEvent v js rest x m f some refuses) = absurd (none v (body js ++ rest) x.known (begins_so bytes v js rest x))
same_refusal pair bytes a b (NoEvent v js rest x m e some refuses) (NoVersion f none) = absurd (none v (body js ++ rest) x.known (begins_so bytes v js rest x))
same_refusal pair bytes a b (NoEvent v js rest x m e some refuses) (NoEvent w ks others y n f more refuses_too) =
    let p = same_text bytes w v ks js others rest y x in
    let entries : AllByRecursion (IsEntry v) ks = subst (λ (u : ℕ). AllByRecursion (IsEntry u) ks) p.0 y.entries in
    let refused : Refuses v pair ks others = subst (λ (u : ℕ). Refuses u pair ks others) p.0 refuses_too in
    e ∙ (ap (λ l. l + 2) (same_length v pair js ks rest others x.entries entries (sym p.1) m n refuses refused) ∙ sym f)

pub same_trace : (bytes : List ℕ) (js ks : List Event) → IsTraceOf bytes js → IsTraceOf bytes ks → js ≡ ks
same_trace bytes js ks a b = same_read bytes js ks a.fits b.fits a.spelled b.spelled

-- ---- of what was answered

pub on_ok : {T E : Type 0} {A B : Type 0} (r : Result T E) → (A → B) → OnOk r A → OnOk r B
on_ok (Ok x) f a = f a
on_ok (Err e) f a = tt
