-- The lines of a text, one after another, and what each adds to those before it.
use Rattle.std.specs.Prelude.{◌≡◌, ◌≤◌, ℕ, ◌+◌, ◌==◌, ◌||◌, nat_lt, List, [], ◌∷◌, length, sum_by, All, Bool, true, Result, Ok, Err, if◌then◌else◌}
use Rattle.std.specs.List.{list_any, slice_split}
use Rattle.job_text.specs.declared.fault.BrokenLine.{BrokenLine}
use Rattle.job_text.specs.declared.fault.LineError.{LineError}
use Rattle.job_text.specs.declared.fault.LineError.TheVariants as line_errors
use Rattle.job_text.specs.declared.fault.TextError.{TextError}
use Rattle.job_text.specs.declared.fault.TextError.TheVariants as text_errors
use Rattle.job_text.specs.declared.fault.Why.{Why}
use Rattle.job_text.specs.declared.fault.Why.TheVariants.{Length, Byte}
use Rattle.job_text.specs.Checks.{◌>>=◌, refuse_if}
use Rattle.job_text.specs.Words.{words_of}

-- ---- one line

abbrev pub is_odd_byte : ℕ → Bool
is_odd_byte b = nat_lt b 32 || nat_lt 126 b

-- an empty line, or one that begins with #
abbrev pub is_skipped : List ℕ → Bool
is_skipped [] = true
is_skipped (b ∷ bs) = b == 35

-- what the words of a line with that number add
abbrev pub Adding : Type 0 → Type 0
Adding D = D → ℕ → List (List ℕ) → Result D Why

-- one line without its line feed, by the checks in order
unfoldable pub add_line : {D : Type 0} → Adding D → D → ℕ → List ℕ → Result D Why
add_line adds d line bytes =
    refuse_if (nat_lt 1024 (length bytes)) Length
    (refuse_if (list_any is_odd_byte bytes) Byte
    (if is_skipped bytes then Ok d else adds d line (words_of bytes)))

-- bytes 0x21 to 0x7e
abbrev pub AreVisible : List ℕ → Type 0
AreVisible word = All (λ b. (33 ≤ b) × (b ≤ 126)) word

-- what the words of each line keep that passed its first two checks
pub record IsLine (words : List (List ℕ)) : Type 0 where
  pub visible : All AreVisible words
  pub small : sum_by (λ w. length w + 1) words ≤ 1025

-- ---- all lines

abbrev pub is_line_feed : ℕ → Bool
is_line_feed b = b == 10

-- the lines of a text, and what stands behind its last line feed
abbrev pub lines_of : List ℕ → List (List ℕ)
lines_of text = slice_split is_line_feed text

abbrev pub at_line : {D : Type 0} → ℕ → Result D Why → Result D BrokenLine
at_line line (Ok d) = Ok d
at_line line (Err why) = Err (record { line = line; why = why })

-- what stands behind the last line feed has to be nothing
abbrev pub at_end : {D : Type 0} → ℕ → D → List ℕ → Result D BrokenLine
at_end line d [] = Ok d
at_end line d (b ∷ bs) = Err (record { line = line; why = Length })

-- the lines from one number on, and what stands behind the last one
unfoldable pub add_lines : {D : Type 0} → Adding D → ℕ → D → List (List ℕ) → Result D BrokenLine
add_lines adds line d [] = Ok d
add_lines adds line d (last ∷ []) = at_end line d last
add_lines adds line d (text ∷ next ∷ more) = at_line line (add_line adds d line text) >>= λ new. add_lines adds (line + 1) new (next ∷ more)

-- ---- what a call answers

-- What a line does to the lines before it is what the definition gives, unless memory ran out.
abbrev pub LineFails : {A : Type 0} → LineError → Result A Why → Type 0
LineFails (line_errors.Broken why) found = found ≡ Err why
LineFails line_errors.NoMemory found = Unit {0}

abbrev pub LineGives : {X A : Type 0} → A → Result X LineError → Result A Why → Type 0
LineGives new (Ok x) found = found ≡ Ok new
LineGives new (Err e) found = LineFails e found

-- What a text answers is what its lines give, unless memory ran out.
abbrev pub TextFails : {A : Type 0} → TextError → Result A BrokenLine → Type 0
TextFails (text_errors.Broken broken) found = found ≡ Err broken
TextFails text_errors.NoMemory found = Unit {0}

abbrev pub TextGives : {A : Type 0} → Result A TextError → Result A BrokenLine → Type 0
TextGives (Ok x) found = found ≡ Ok x
TextGives (Err e) found = TextFails e found
