-- The lines of a text, one by one.
use Rattle.std.proofs.Common.{◌≡◌, ℕ, ◌+◌, ◌<◌, ◌==◌, List, [], ◌∷◌, ◌++◌, Bool, true, false, Result, Ok, Err, OnOk, refl, sym, ◌∙◌, ap, subst, length, arith, All, zero, suc}
use Rattle.std.specs.List.{list_any, onto_first}
use Rattle.std.proofs.lemmas.List.Splits.{slice_split_at, slice_split_none}
use Rattle.job_text.specs.declared.fault.BrokenLine.{BrokenLine}
use Rattle.job_text.specs.declared.fault.TextError.{TextError}
use Rattle.job_text.specs.declared.fault.TextError.TheVariants as errors
use Rattle.job_text.specs.declared.fault.LineError.{LineError}
use Rattle.job_text.specs.declared.fault.Why.{Why}
use Rattle.job_text.specs.declared.fault.Why.TheVariants.{Length}
use Rattle.job_text.specs.Checks.{◌>>=◌}
use Rattle.job_text.specs.TextLines.{Adding, is_line_feed, lines_of, at_line, add_line, add_lines, LineGives, TextFails, TextGives}
use Rattle.job_text.proofs.WordLists.{neither}

none_here : (xs : List ℕ) → list_any is_line_feed xs ≡ false → All (λ b. is_line_feed b ≡ false) xs
none_here [] h k d i = absurd (omega arith)
none_here (x ∷ xs) h zero d i = (neither (x == 10) (list_any is_line_feed xs) h).0
none_here (x ∷ xs) h (suc k) d i = none_here xs (neither (x == 10) (list_any is_line_feed xs) h).1 k d (omega arith)

onto-some : (x : ℕ) (parts : List (List ℕ)) → (part : List ℕ) × (more : List (List ℕ)) × (onto_first x parts ≡ (x ∷ part) ∷ more)
onto-some x [] = ([], [], refl)
onto-some x (part ∷ parts) = (part, parts, refl)

lines-some_at : (x : ℕ) (xs : List ℕ) (b : Bool) → (x == 10) ≡ b → (first : List ℕ) × (more : List (List ℕ)) × (lines_of (x ∷ xs) ≡ first ∷ more)
lines-some_at x xs true e = ([], lines_of xs, rw e refl)
lines-some_at x xs false e = let o = onto-some x (lines_of xs) in (x ∷ o.0, o.1, rw e o.2)

lines-some : (text : List ℕ) → (first : List ℕ) × (more : List (List ℕ)) × (lines_of text ≡ first ∷ more)
lines-some [] = ([], [], refl)
lines-some (x ∷ xs) = lines-some_at x xs (x == 10) refl

-- one line and those behind it
one_line : {D : Type 0} (adds : Adding D) (line : ℕ) (d : D) (text : List ℕ) (more : List (List ℕ)) (first : List ℕ) (others : List (List ℕ)) → more ≡ first ∷ others → add_lines adds line d (text ∷ more) ≡ (at_line line (add_line adds d line text) >>= λ new. add_lines adds (line + 1) new more)
unfolding add_lines
one_line adds line d text more first others e =
    subst (λ (rest : List (List ℕ)). add_lines adds line d (text ∷ rest) ≡ (at_line line (add_line adds d line text) >>= λ new. add_lines adds (line + 1) new rest)) (sym e) refl

cut_one : {D : Type 0} (adds : Adding D) (line : ℕ) (d : D) (rest text more : List ℕ) → rest ≡ text ++ 10 ∷ more → list_any is_line_feed text ≡ false → add_lines adds line d (lines_of rest) ≡ (at_line line (add_line adds d line text) >>= λ new. add_lines adds (line + 1) new (lines_of more))
cut_one adds line d rest text more e h =
    let o = lines-some more in
    ap (λ r. add_lines adds line d (lines_of r)) e ∙ (ap (add_lines adds line d) (slice_split_at is_line_feed text 10 more (none_here text h) refl) ∙ one_line adds line d text (lines_of more) o.0 o.1 o.2)

pub line_taken : {D : Type 0} (adds : Adding D) (line : ℕ) (d new : D) (rest text more : List ℕ) (all : Result D BrokenLine) → rest ≡ text ++ 10 ∷ more → list_any is_line_feed text ≡ false → at_line line (add_line adds d line text) ≡ Ok new → add_lines adds line d (lines_of rest) ≡ all → add_lines adds (line + 1) new (lines_of more) ≡ all
line_taken adds line d new rest text more all cut none taken kept =
    sym (ap (λ r. r >>= λ n. add_lines adds (line + 1) n (lines_of more)) taken) ∙ (sym (cut_one adds line d rest text more cut none) ∙ kept)

fails_on : {D : Type 0} (e : TextError) (r : Result D BrokenLine) (f : D → Result D BrokenLine) → TextFails e r → TextFails e (r >>= f)
fails_on (errors.Broken broken) r f h = ap (λ x. x >>= f) h
fails_on errors.NoMemory r f h = tt

pub line_fails : {D : Type 0} (adds : Adding D) (line : ℕ) (d : D) (rest text more : List ℕ) (all : Result D BrokenLine) (e : TextError) → rest ≡ text ++ 10 ∷ more → list_any is_line_feed text ≡ false → TextFails e (at_line line (add_line adds d line text)) → add_lines adds line d (lines_of rest) ≡ all → TextFails e all
line_fails adds line d rest text more all e cut none fails kept =
    subst (TextFails e) (sym (cut_one adds line d rest text more cut none) ∙ kept) (fails_on e (at_line line (add_line adds d line text)) (λ n. add_lines adds (line + 1) n (lines_of more)) fails)

-- no line feed comes any more
pub last_broken : {D : Type 0} (adds : Adding D) (line : ℕ) (d : D) (rest : List ℕ) (all : Result D BrokenLine) → list_any is_line_feed rest ≡ false → 0 < length rest → add_lines adds line d (lines_of rest) ≡ all → all ≡ Err (record { line = line; why = Length })
unfolding add_lines
last_broken adds line d [] all h some kept = absurd (omega arith)
last_broken adds line d (x ∷ xs) all h some kept = sym kept ∙ ap (add_lines adds line d) (slice_split_none is_line_feed (x ∷ xs) (none_here (x ∷ xs) h))

pub none_left : {D : Type 0} (adds : Adding D) (line : ℕ) (d : D) (rest : List ℕ) (all : Result D BrokenLine) → length rest ≡ 0 → add_lines adds line d (lines_of rest) ≡ all → all ≡ Ok d
unfolding add_lines
none_left adds line d [] all h kept = sym kept
none_left adds line d (x ∷ xs) all h kept = absurd (omega arith)

pub gives_err : {A : Type 0} (r : Result A TextError) (found : Result A BrokenLine) (e : TextError) → r ≡ Err e → TextFails e found → TextGives r found
gives_err r found e h f = rw h f

-- what a line that is taken keeps
pub kept_on_ok : {X A : Type 0} (new : A) (P : Type 0) (r : Result X LineError) (found : Result A Why) → LineGives new r found → (found ≡ Ok new → P) → OnOk r P
kept_on_ok new P (Ok x) found h f = f h
kept_on_ok new P (Err e) found h f = tt
