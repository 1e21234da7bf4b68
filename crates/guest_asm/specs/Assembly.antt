-- The words of an assembler text, or its first broken line.
use Rattle.std.specs.Prelude.{◌≡◌, ℕ, ◌+◌, ◌==◌, List, [], ◌∷◌, ◌++◌, bytes_eq, Bool, false, Option, Some, None, Result, Ok, Err, if◌then◌else◌}
use Rattle.std.specs.List.{slice_split}
use Rattle.std.specs.Option.{option_to_list, option_or}
use Rattle.guest_asm.specs.declared.fault.AsmError.{AsmError}
use Rattle.guest_asm.specs.declared.fault.AsmError.TheVariants as errors
use Rattle.guest_asm.specs.declared.marks.Mark.{Mark}
use Rattle.guest_asm.specs.Lines.{Marks, defined_in, words_in, said}

abbrev pub lines_of : List ℕ → List (List ℕ)
lines_of text = slice_split (λ b. b == 10) text

-- ---- labels

abbrev pub is_it : List ℕ → Option (List ℕ) → Bool
is_it name None = false
is_it name (Some other) = bytes_eq other name

-- where a label is defined first, in the lines from that number on, with so many words above
abbrev pub marks_from : ℕ → ℕ → List (List ℕ) → List ℕ → Option Mark
marks_from line here [] name = None
marks_from line here (text ∷ more) name =
    if is_it name (defined_in text) then Some (record { line = line; place = here }) else marks_from (line + 1) (here + words_in text) more name

-- the marks with one more, unless its label has one
abbrev pub with_mark : Marks → List ℕ → Mark → Marks
with_mark marks name mark other = option_or (marks other) (if bytes_eq name other then Some mark else None)

-- the marks with the label that a line defines, if it defines one
abbrev pub with_defined : Marks → ℕ → ℕ → Option (List ℕ) → Marks
with_defined marks line place None = marks
with_defined marks line place (Some name) = with_mark marks name (record { line = line; place = place })

abbrev pub with_line : Marks → ℕ → ℕ → List ℕ → Marks
with_line marks line place text = with_defined marks line place (defined_in text)

-- ---- words

infixl 10 ◌>>=◌
abbrev pub ◌>>=◌ : {A B : Type 0} → Result A ℕ → (A → Result B ℕ) → Result B ℕ
(Ok x) >>= f = f x
(Err e) >>= f = Err e

abbrev pub or_broken : {A : Type 0} → ℕ → Option A → Result A ℕ
or_broken line None = Err line
or_broken line (Some x) = Ok x

-- the words of the lines from that number on, with so many words above, or the first broken line
unfoldable pub words_from : Marks → ℕ → ℕ → List (List ℕ) → Result (List ℕ) ℕ
words_from marks line here [] = Ok []
words_from marks line here (text ∷ more) = do
  found ← or_broken line (said marks line here text)
  others ← words_from marks (line + 1) (here + words_in text) more
  Ok (option_to_list found ++ others)

-- The words of a text, or the number of its first broken line.
unfoldable pub words_of : List ℕ → Result (List ℕ) ℕ
words_of text = words_from (marks_from 1 0 (lines_of text)) 1 0 (lines_of text)

-- ---- what a call answers

-- What a call answers is what the text gives, unless memory ran out.
abbrev pub Fails : {A : Type 0} → AsmError → Result A ℕ → Type 0
Fails (errors.Line line) found = found ≡ Err line
Fails errors.NoMemory found = Unit {0}

abbrev pub Gives : {A : Type 0} → Result A AsmError → Result A ℕ → Type 0
Gives (Ok x) found = found ≡ Ok x
Gives (Err e) found = Fails e found

-- the same with these before
abbrev pub after_these : List ℕ → Result (List ℕ) ℕ → Result (List ℕ) ℕ
after_these front found = found >>= λ more. Ok (front ++ more)
