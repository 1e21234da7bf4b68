-- What the files of a job leave alone: descriptors, until the consoles are there.
use Rattle.file_model.specs.Files.{Files, Name, made, root, with_console}
use Rattle.file_model.specs.Paths.{add_file, child, names_of}
use Rattle.job_model.specs.declared.job.FileLine.{FileLine}
use Rattle.kernel_model.specs.OneKernel.{with_line}
use Rattle.mck_word.specs.MapLaws.{at-put}
use Rattle.mck_word.specs.Maps.{Map, at, put}
use Rattle.std.proofs.Common.{ap, arith, refl, ◌∙◌}
use Rattle.std.proofs.lemmas.Bool.Decides.{nat_tests}
use Rattle.std.specs.Prelude.{List, None, Option, Some, [], cond, false, fold, true, ℕ, ◌+◌, ◌==◌, ◌∷◌, ◌≡◌, ◌≤◌}

abbrev pub Has : Map (Map ℕ) → Files → Type 0
Has m files = files.descriptors ≡ m

added-descriptors : (names : List Name) (place : ℕ) (bytes : List ℕ) (files : Files) → Has files.descriptors (add_file place names bytes files)
added-descriptors [] place bytes files = refl
added-descriptors (name ∷ []) place bytes files = refl
added-descriptors (name ∷ next ∷ names) place bytes files =
    go (child files place name) (λ n. added-descriptors (next ∷ names) n bytes files) (added-descriptors (next ∷ names) files.next_node bytes (made place name true files))
  where
    go : (o : Option ℕ) → ((n : ℕ) → Has files.descriptors (add_file n (next ∷ names) bytes files)) → Has files.descriptors (add_file files.next_node (next ∷ names) bytes (made place name true files))
        → Has files.descriptors (elim o [ None ↦ add_file files.next_node (next ∷ names) bytes (made place name true files) | Some n ↦ add_file n (next ∷ names) bytes files ])
    go None k j = j
    go (Some n) k j = k n

pub lines-descriptors : (lines : List FileLine) (files : Files) → Has files.descriptors (fold with_line files lines)
lines-descriptors [] files = refl
lines-descriptors (l ∷ lines) files = lines-descriptors lines (with_line files l) ∙ added-descriptors (names_of l.path) root l.bytes files

-- no process from the number on has descriptors
abbrev pub NoneFrom : ℕ → Map (Map ℕ) → Type 0
NoneFrom n m = (p : ℕ) → n ≤ p → at m p ≡ None

put-none : (m : Map (Map ℕ)) (n : ℕ) (v : Map ℕ) → NoneFrom n m → NoneFrom (n + 1) (put m n v)
put-none m n v h p l = at-put m n v p ∙ (let e : (p == n) ≡ false = grind (arith, nat_tests, l) in ap (λ b. cond b (Some v) (at m p)) e ∙ h p (omega (arith, l)))

put-again : (m : Map (Map ℕ)) (n : ℕ) (v : Map ℕ) → NoneFrom (n + 1) m → NoneFrom (n + 1) (put m n v)
put-again m n v h p l = at-put m n v p ∙ (let e : (p == n) ≡ false = grind (arith, nat_tests, l) in ap (λ b. cond b (Some v) (at m p)) e ∙ h p l)

-- a console more
pub console-none : (guest : ℕ) (input : List ℕ) (files : Files) → NoneFrom guest files.descriptors → NoneFrom (guest + 1) (with_console guest input files).descriptors
console-none guest input files h = put-again _ guest _ (put-again _ guest _ (put-none files.descriptors guest _ h))
