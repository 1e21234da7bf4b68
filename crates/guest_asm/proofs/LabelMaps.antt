-- A map of labels with one more.
use Rattle.std.proofs.Common.{◌≡◌, ℕ, ◌+◌, List, ◌∷◌, Option, Some, None, Bool, true, false, cond, bytes_eq, is_some, refl, sym, ◌∙◌, ap, if◌then◌else◌}
use Rattle.std.specs.Option.{option_or}
use Rattle.std.proofs.lemmas.Slice.Eq.{bytes_eq-Decides}
use Rattle.guest_asm.specs.declared.marks.Mark.{Mark}
use Rattle.guest_asm.specs.Assembly.{with_mark, with_defined, with_line, is_it, marks_from}
use Rattle.guest_asm.specs.Lines.{Marks, defined_in, words_in}

or_none : (o : Option Mark) → option_or o None ≡ o
or_none None = refl
or_none (Some m) = refl

added_at : (old : Option Mark) (mark : Mark) (b : Bool) → (b ≡ true → old ≡ None) → cond b (Some mark) old ≡ option_or old (if b then Some mark else None)
added_at old mark true h = sym (ap (λ o. option_or o (Some mark)) (h refl))
added_at old mark false h = sym (or_none old)

pub mark_added : (marks : Marks) (name : List ℕ) (mark : Mark) (other : List ℕ) → marks name ≡ None → cond (bytes_eq name other) (Some mark) (marks other) ≡ with_mark marks name mark other
mark_added marks name mark other h =
    added_at (marks other) mark (bytes_eq name other) (λ e. ap marks (sym ((bytes_eq-Decides name other).0 e)) ∙ h)

pub not_some : (o : Option Mark) → is_some o ≡ false → o ≡ None
not_some None h = refl
not_some (Some m) h = cc

-- ---- the labels of the lines that are left

or_or : (m : Option Mark) (mark : Mark) (b : Bool) (rest : Option Mark) → option_or (option_or m (if b then Some mark else None)) rest ≡ option_or m (if b then Some mark else rest)
or_or None mark true rest = refl
or_or None mark false rest = refl
or_or (Some m) mark true rest = refl
or_or (Some m) mark false rest = refl

defined_or : (marks : Marks) (line place : ℕ) (d : Option (List ℕ)) (name : List ℕ) (rest : Option Mark) → option_or (with_defined marks line place d name) rest ≡ option_or (marks name) (if is_it name d then Some (record { line = line; place = place }) else rest)
defined_or marks line place None name rest = refl
defined_or marks line place (Some other) name rest = or_or (marks name) (record { line = line; place = place }) (bytes_eq other name) rest

pub marks_more : (marks new : Marks) (line place n : ℕ) (text : List ℕ) (texts more : List (List ℕ)) (name : List ℕ) (all : Option Mark) → texts ≡ text ∷ more → n ≡ words_in text → new name ≡ with_line marks line place text name → option_or (marks name) (marks_from line place texts name) ≡ all → option_or (new name) (marks_from (line + 1) (place + n) more name) ≡ all
marks_more marks new line place n text texts more name all e f h kept =
    ap (λ o. option_or o (marks_from (line + 1) (place + n) more name)) h
    ∙ (ap (λ k. option_or (with_line marks line place text name) (marks_from (line + 1) (place + k) more name)) f
    ∙ (defined_or marks line place (defined_in text) name (marks_from (line + 1) (place + words_in text) more name)
    ∙ (ap (λ ts. option_or (marks name) (marks_from line place ts name)) (sym e) ∙ kept)))
