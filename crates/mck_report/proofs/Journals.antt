-- Texts of journals, line by line.
use Rattle.hybrid_model.specs.declared.events.Event.{Event}
use Rattle.mck_report.proofs.Cuts.{Cut, cut, cut_at-append, halves, lacks, lacks-append, same_cut}
use Rattle.mck_report.proofs.Entries.{event_of-line, line_lacks}
use Rattle.mck_report.proofs.Lines.{text_of-append}
use Rattle.mck_report.specs.Reading.{BrokenBehind, FirstBroken, Fits, Halves, IsEntry, IsVersion, NoEntry, NoVersion, cut_at, event_of, same, version_of}
use Rattle.mck_report.specs.declared.reading.TraceError.{TraceError}
use Rattle.mck_report.specs.declared.reading.TraceError.TheVariants as Errors
use Rattle.run_model.specs.Texts.{Line, Number, Part, Text, part_bytes, spaced, text_of}
use Rattle.run_model.specs.Traces.{Spells, event_lines, is_of_first, trace, version, words_of}
use Rattle.std.proofs.Common.{◌≡◌, ◌⊎◌, inl, inr, ℕ, zero, suc, ◌+◌, ◌<◌, ◌≤◌, ◌^◌, Bool, true, false, List, [], ◌∷◌, ◌++◌, length, Option, Some, None, Result, Ok, Err, IfOk, MatchResult, codes, refl, sym, ◌∙◌, ap, subst, arith, append_assoc, length-append, cond, ◌&&◌, ◌==◌}
use Rattle.std.proofs.lemmas.Fmt.{decimal_digit, decimal_injective}
use Rattle.std.proofs.lemmas.List.{append-nil}
use Rattle.std.specs.Cmp.Lexicographic.{bytes_decides}
use Rattle.std.specs.Fmt.{decimal}
use Rattle.std.specs.List.{AllByRecursion, list_all}

-- ---- an event's line in front of more

abbrev line : Event → List ℕ
line e = part_bytes (Line (words_of e))

-- a line and more bytes, as bytes, a line feed and more bytes
line_then_more : (e : Event) (more : List ℕ) → line e ++ more ≡ spaced (words_of e) ++ 10 ∷ more
line_then_more e more = append_assoc (spaced (words_of e)) (10 ∷ []) more

pub same_event : (e f : Event) → Fits e → Fits f → spaced (words_of e) ≡ spaced (words_of f) → e ≡ f
same_event e f h k s =
    let p : Some e ≡ Some f = sym (event_of-line e h) ∙ (ap event_of s ∙ event_of-line f k) in cc

-- two texts that begin with events' lines
pub same_front : (e f : Event) (xs ys : List ℕ) → Fits e → Fits f → line e ++ xs ≡ line f ++ ys → (e ≡ f) × (xs ≡ ys)
same_front e f xs ys h k s =
    let p = same_cut 10 (spaced (words_of e)) (spaced (words_of f)) xs ys (line_lacks e h) (line_lacks f k) (sym (line_then_more e xs) ∙ (s ∙ line_then_more f ys)) in
    (same_event e f h k p.0, p.1)

not_empty : (xs ys : List ℕ) → xs ++ 10 ∷ ys ≡ [] → ⊥
not_empty [] ys e = cc
not_empty (x ∷ xs) ys e = cc

pub no_line : (e : Event) (more : List ℕ) → line e ++ more ≡ [] → ⊥
no_line e more h = not_empty (spaced (words_of e)) more (sym (line_then_more e more) ∙ h)

abbrev body : List Event → List ℕ
body js = text_of (event_lines js)

same_journal : (js ks : List Event) → AllByRecursion Fits js → AllByRecursion Fits ks → body js ≡ body ks → js ≡ ks
same_journal [] [] h k e = refl
same_journal [] (y ∷ ys) h k e = absurd (no_line y (body ys) (sym e))
same_journal (x ∷ xs) [] h k e = absurd (no_line x (body xs) e)
same_journal (x ∷ xs) (y ∷ ys) h k e =
    let p = same_front x y (body xs) (body ys) h.0 k.0 e in
    ap (λ z. z ∷ xs) p.0 ∙ ap (λ zs. y ∷ zs) (same_journal xs ys h.1 k.1 p.1)

fits_of : (v : ℕ) (js : List Event) → AllByRecursion (IsEntry v) js → AllByRecursion Fits js
fits_of v [] h = tt
fits_of v (j ∷ js) h = (h.0.fits, fits_of v js h.1)

pub entries_fit : (v : ℕ) (js : List Event) → AllByRecursion (IsEntry v) js → AllByRecursion Fits js
entries_fit v js h = fits_of v js h

-- a journal's lines don't break where none of its events' lines begins
unbroken : (v : ℕ) (js ks : List Event) (rest : List ℕ) → AllByRecursion (IsEntry v) js → AllByRecursion (IsEntry v) ks → body ks ≡ body js ++ rest
    → (rest ≡ [] → ⊥) → ((e : Event) (more : List ℕ) → IsEntry v e → rest ≡ line e ++ more → ⊥) → ⊥
unbroken v [] [] rest h k e some none = some (sym e)
unbroken v [] (y ∷ ys) rest h k e some none = none y (body ys) k.0 (sym e)
unbroken v (x ∷ xs) [] rest h k e some none = no_line x (body xs ++ rest) (sym (append_assoc (line x) (body xs) rest) ∙ sym e)
unbroken v (x ∷ xs) (y ∷ ys) rest h k e some none =
    let p = same_front y x (body ys) (body xs ++ rest) k.0.fits h.0.fits (e ∙ append_assoc (line x) (body xs) rest) in
    unbroken v xs ys rest h.1 k.1 p.1 some none

-- ---- one line more

pub one_more : (bytes rest text more : List ℕ) (js js' : List Event) (e : Event) → bytes ≡ body js ++ rest → cut_at 10 rest ≡ Some (text, more) → text ≡ spaced (words_of e) → js' ≡ js ++ e ∷ [] → bytes ≡ body js' ++ more
one_more bytes rest text more js js' e b c t j =
    let split : rest ≡ spaced (words_of e) ++ 10 ∷ more = (cut 10 rest text more c).whole ∙ ap (λ x. x ++ 10 ∷ more) t in
    let longer : body js' ≡ body js ++ line e = ap body j ∙ (ap text_of (lines_append js e) ∙ (text_of-append (event_lines js) (Line (words_of e) ∷ []) ∙ ap (λ x. body js ++ x) (append-nil (line e)))) in
    b ∙ (ap (λ x. body js ++ x) (split ∙ sym (line_then_more e more)) ∙ (sym (append_assoc (body js) (line e) more) ∙ ap (λ x. x ++ more) (sym longer)))
  where
    lines_append : (xs : List Event) (e : Event) → event_lines (xs ++ e ∷ []) ≡ event_lines xs ++ Line (words_of e) ∷ []
    lines_append [] e = refl
    lines_append (x ∷ xs) e = ap (λ ls. Line (words_of x) ∷ ls) (lines_append xs e)

pub all_more : (P : Event → Type 0) (js js' : List Event) (e : Event) → AllByRecursion P js → P e → js' ≡ js ++ e ∷ [] → AllByRecursion P js'
all_more P js js' e h p j = subst (AllByRecursion P) (sym j) (longer js h)
  where
    longer : (xs : List Event) → AllByRecursion P xs → AllByRecursion P (xs ++ e ∷ [])
    longer [] h = (p, tt)
    longer (x ∷ xs) h = (h.0, longer xs h.1)

pub cut_shorter : (rest text more : List ℕ) → cut_at 10 rest ≡ Some (text, more) → length text + length more + 1 ≡ length rest
cut_shorter rest text more c = omega (arith, length-append text (10 ∷ more), ap length (cut 10 rest text more c).whole)

-- no line feed, so no line
pub no_feed : (rest : List ℕ) (e : Event) (more : List ℕ) → cut_at 10 rest ≡ None → Fits e → rest ≡ line e ++ more → ⊥
no_feed rest e more c h s =
    let p : cut_at 10 rest ≡ Some (spaced (words_of e), more) = ap (cut_at 10) (s ∙ line_then_more e more) ∙ cut_at-append 10 (spaced (words_of e)) more (line_lacks e h) in
    cc

-- another line
pub other_line : (rest text back : List ℕ) (e : Event) (more : List ℕ) → cut_at 10 rest ≡ Some (text, back) → (text ≡ spaced (words_of e) → ⊥) → Fits e → rest ≡ line e ++ more → ⊥
other_line rest text back e more c other h s =
    let x = cut 10 rest text back c in
    other ((same_cut 10 text (spaced (words_of e)) back more x.lack (line_lacks e h) (sym x.whole ∙ (s ∙ line_then_more e more))).0)

-- ---- the first line

first_line : (v : ℕ) → IsVersion v → part_bytes (version v) ≡ (codes "mctrace " ++ (48 + v) ∷ []) ++ 10 ∷ []
first_line v (inl e) = ap (λ ds. (codes "mctrace " ++ ds) ++ 10 ∷ []) (decimal_digit v (omega arith))
first_line v (inr e) = ap (λ ds. (codes "mctrace " ++ ds) ++ 10 ∷ []) (decimal_digit v (omega arith))

abbrev named : ℕ → List ℕ
named v = codes "mctrace " ++ (48 + v) ∷ []

ways : {A : Type 0} (t : Bool) (x y z : A) → cond t x y ≡ z → ((t ≡ true) × (x ≡ z)) ⊎ ((t ≡ false) × (y ≡ z))
ways true x y z e = inl (refl, e)
ways false x y z e = inr (refl, e)

is_same : (a b : List ℕ) → same a b ≡ true → a ≡ b
is_same a b e = (bytes_decides a b).0 e

pub record Named (first : List ℕ) (v : ℕ) : Type 0 where
  pub is : IsVersion v
  pub text : first ≡ named v

pub names : (first : List ℕ) (v : ℕ) → version_of first ≡ Some v → Named first v
names first v e = elim (ways (same first (codes "mctrace 1")) (Some 1) (cond (same first (codes "mctrace 2")) (Some 2) None) (Some v) e) [
  | inl w ↦ (let k : 1 ≡ v = (let h : Some 1 ≡ Some v = w.1 in cc) in subst (Named first) k (record { is = inl refl; text = is_same first (codes "mctrace 1") w.0 }))
  | inr w ↦ (elim (ways (same first (codes "mctrace 2")) (Some 2) None (Some v) w.1) [
    | inl x ↦ (let k : 2 ≡ v = (let h : Some 2 ≡ Some v = x.1 in cc) in subst (Named first) k (record { is = inr refl; text = is_same first (codes "mctrace 2") x.0 }))
    | inr x ↦ (let h : None ≡ Some v = x.1 in cc)
  ])
]

version_of-named : (v : ℕ) → IsVersion v → version_of (named v) ≡ Some v
version_of-named v (inl e) = subst (λ w. version_of (named w) ≡ Some w) (sym e) refl
version_of-named v (inr e) = subst (λ w. version_of (named w) ≡ Some w) (sym e) refl

named_lacks : (v : ℕ) → IsVersion v → lacks 10 (named v) ≡ true
named_lacks v (inl e) = subst (λ w. lacks 10 (named w) ≡ true) (sym e) refl
named_lacks v (inr e) = subst (λ w. lacks 10 (named w) ≡ true) (sym e) refl

version_then_more : (v : ℕ) (more : List ℕ) → IsVersion v → part_bytes (version v) ++ more ≡ named v ++ 10 ∷ more
version_then_more v more h = ap (λ x. x ++ more) (first_line v h) ∙ append_assoc (named v) (10 ∷ []) more

-- the first line of a text that names a version
pub first_cut : (bytes first rest : List ℕ) (v : ℕ) → cut_at 10 bytes ≡ Some (first, rest) → Named first v → bytes ≡ part_bytes (version v) ++ rest
first_cut bytes first rest v c n = (cut 10 bytes first rest c).whole ∙ (ap (λ x. x ++ 10 ∷ rest) n.text ∙ sym (version_then_more v rest n.is))

pub no_version : (bytes : List ℕ) (r : Halves) → cut_at 10 bytes ≡ r → ((first rest : List ℕ) → r ≡ Some (first, rest) → version_of first ≡ None) → (v : ℕ) (rest : List ℕ) → IsVersion v → bytes ≡ part_bytes (version v) ++ rest → ⊥
no_version bytes r c none v rest h e =
    let p : cut_at 10 bytes ≡ Some (named v, rest) = ap (cut_at 10) (e ∙ version_then_more v rest h) ∙ cut_at-append 10 (named v) rest (named_lacks v h) in
    let n : version_of (named v) ≡ None = none (named v) rest (sym c ∙ p) in
    let k : version_of (named v) ≡ Some v = version_of-named v h in
    cc

pub same_version : (v w : ℕ) (xs ys : List ℕ) → IsVersion v → IsVersion w → part_bytes (version v) ++ xs ≡ part_bytes (version w) ++ ys → (v ≡ w) × (xs ≡ ys)
same_version v w xs ys h k e =
    let p = same_cut 10 (named v) (named w) xs ys (named_lacks v h) (named_lacks w k) (sym (version_then_more v xs h) ∙ (e ∙ version_then_more w ys k)) in
    let n : Some v ≡ Some w = sym (version_of-named v h) ∙ (ap version_of p.0 ∙ version_of-named w k) in
    ((let s : Some v ≡ Some w = n in cc), p.1)

-- ---- whole traces

-- a spelling, with its version
record Spelled (bytes : List ℕ) (js : List Event) : Type 0 where
  v : ℕ
  is : IsVersion v
  text : bytes ≡ part_bytes (version v) ++ body js
  first : v ≡ 1 → list_all is_of_first js ≡ true

two_is_not_one : (v : ℕ) → v ≡ 2 → v ≡ 1 → ⊥
two_is_not_one v e h = omega arith

spelled : (bytes : List ℕ) (js : List Event) → Spells bytes js → Spelled bytes js
spelled bytes js (inl e) = record { v = 2; is = inr refl; text = e; first = λ h. absurd (two_is_not_one 2 refl h) }
spelled bytes js (inr e) = record { v = 1; is = inl refl; text = e.0; first = λ h. e.1 }

both_true : (b c : Bool) → (b && c) ≡ true → (b ≡ true) × (c ≡ true)
both_true true c e = (refl, e)
both_true false c e = cc

pub entries_of : (v : ℕ) (js : List Event) → AllByRecursion Fits js → (v ≡ 1 → list_all is_of_first js ≡ true) → AllByRecursion (IsEntry v) js
entries_of v [] h f = tt
entries_of v (j ∷ js) h f =
    (record { fits = h.0; first = λ e. (both_true (is_of_first j) (list_all is_of_first js) (f e)).0 }, entries_of v js h.1 (λ e. (both_true (is_of_first j) (list_all is_of_first js) (f e)).1))

all_first : (js : List Event) → AllByRecursion (IsEntry 1) js → list_all is_of_first js ≡ true
all_first [] h = refl
all_first (j ∷ js) h = rw (h.0.first refl) (all_first js h.1)

pub spells : (bytes rest : List ℕ) (v : ℕ) (js : List Event) → IsVersion v → bytes ≡ part_bytes (version v) ++ rest → rest ≡ body js → AllByRecursion (IsEntry v) js → Spells bytes js
spells bytes rest v js (inl e) b r h =
    inr (b ∙ (ap (λ x. part_bytes (version v) ++ x) r ∙ ap (λ w. part_bytes (version w) ++ body js) e), all_first js (subst (λ w. AllByRecursion (IsEntry w) js) e h))
spells bytes rest v js (inr e) b r h = inl (b ∙ (ap (λ x. part_bytes (version v) ++ x) r ∙ ap (λ w. part_bytes (version w) ++ body js) e))

pub same_read : (bytes : List ℕ) (js ks : List Event) → AllByRecursion Fits js → AllByRecursion Fits ks → Spells bytes js → Spells bytes ks → js ≡ ks
same_read bytes js ks h k a b =
    let x = spelled bytes js a in
    let y = spelled bytes ks b in
    same_journal js ks h k (same_version x.v y.v (body js) (body ks) x.is y.is (sym x.text ∙ y.text)).1

pub not_broken : (bytes : List ℕ) (n : ℕ) (ks : List Event) → AllByRecursion Fits ks → Spells bytes ks → FirstBroken bytes n → ⊥
not_broken bytes n ks k s (NoVersion e none) = let y = spelled bytes ks s in none y.v (body ks) y.is y.text
not_broken bytes n ks k s (NoEntry v js rest is h text e some none) =
    let y = spelled bytes ks s in
    let p = same_version y.v v (body ks) (body js ++ rest) y.is is (sym y.text ∙ (text ∙ append_assoc (part_bytes (version v)) (body js) rest)) in
    let entries = subst (λ w. AllByRecursion (IsEntry w) ks) p.0 (entries_of y.v ks k y.first) in
    unbroken v js ks rest h entries p.1 some none

-- what is broken behind the first line is broken in the whole
pub broken : (bytes rest : List ℕ) (v n : ℕ) (js : List Event) → IsVersion v → bytes ≡ part_bytes (version v) ++ rest → AllByRecursion (IsEntry v) js → BrokenBehind v js rest n → FirstBroken bytes n
broken bytes rest v n js is b h x =
    NoEntry v js x.rest is h (b ∙ (ap (λ y. part_bytes (version v) ++ y) x.text ∙ sym (append_assoc (part_bytes (version v)) (body js) x.rest))) x.number x.some x.none

pub completes : (bytes : List ℕ) (r : Result (List Event) TraceError) → IfOk r (Spells bytes) → IfOk r (AllByRecursion Fits) → ((n : ℕ) → r ≡ Err (Errors.Line n) → FirstBroken bytes n)
    → (ks : List Event) → AllByRecursion Fits ks → Spells bytes ks → MatchResult r (λ read. read ≡ ks) (λ e. e ≡ Errors.NoMemory)
completes bytes (Ok js) s f b ks k t = same_read bytes js ks f k s t
completes bytes (Err (Errors.Line n)) s f b ks k t = absurd (not_broken bytes n ks k t (b n refl))
completes bytes (Err Errors.NoMemory) s f b ks k t = refl

-- ---- one line

pub entry_none : (bytes : List ℕ) (v : ℕ) → event_of bytes ≡ None → (e : Event) → IsEntry v e → bytes ≡ spaced (words_of e) → ⊥
entry_none bytes v n e h s =
    let p : event_of bytes ≡ Some e = ap event_of s ∙ event_of-line e h.fits in cc

pub entry_not_first : (bytes : List ℕ) (v : ℕ) (f : Event) → event_of bytes ≡ Some f → v ≡ 1 → is_of_first f ≡ false → (e : Event) → IsEntry v e → bytes ≡ spaced (words_of e) → ⊥
entry_not_first bytes v f n one other e h s =
    let p : event_of bytes ≡ Some e = ap event_of s ∙ event_of-line e h.fits in
    let same : f ≡ e = (let q : Some f ≡ Some e = sym n ∙ p in cc) in
    let first : is_of_first e ≡ true = h.first one in
    let not_first : is_of_first e ≡ false = sym (ap is_of_first same) ∙ other in
    cc

pub no_named : (first rest f r : List ℕ) (h : Halves) → h ≡ Some (first, rest) → version_of first ≡ None → h ≡ Some (f, r) → version_of f ≡ None
no_named first rest f r h e n k = subst (λ x. version_of x ≡ None) (halves (first, rest) (f, r) (sym e ∙ k)).0 n

pub named_length : (first : List ℕ) (v : ℕ) → Named first v → length first ≡ 9
named_length first v n = ap length n.text

pub not_nothing : (xs : List ℕ) → false ≡ (length xs == 0) → xs ≡ [] → ⊥
not_nothing [] t h = cc
not_nothing (x ∷ xs) t h = cc

-- ---- the first line, and the first entry

-- no first line, so no version
pub no_version_cut : (bytes : List ℕ) → cut_at 10 bytes ≡ None → (v : ℕ) (rest : List ℕ) → IsVersion v → bytes ≡ part_bytes (version v) ++ rest → ⊥
no_version_cut bytes c = let none : Halves = None in no_version bytes none c (λ first rest h. cc)

-- the first line names none
pub no_version_named : (bytes first rest : List ℕ) → cut_at 10 bytes ≡ Some (first, rest) → version_of first ≡ None → (v : ℕ) (more : List ℕ) → IsVersion v → bytes ≡ part_bytes (version v) ++ more → ⊥
no_version_named bytes first rest c n =
    let halves : Halves = Some (first, rest) in no_version bytes halves c (λ f r h. no_named first rest f r halves refl n h)

pub entry_cut : (bytes text more : List ℕ) (e : Event) → cut_at 10 bytes ≡ Some (text, more) → text ≡ spaced (words_of e) → bytes ≡ part_bytes (Line (words_of e)) ++ more
entry_cut bytes text more e c t = (cut 10 bytes text more c).whole ∙ (ap (λ x. x ++ 10 ∷ more) t ∙ sym (line_then_more e more))
