-- A list that is mapped twice, and the lines of a summary.
use Rattle.file_model.specs.Files.{Console}
use Rattle.kernel_model.specs.Nodes.{Process, ScriptLine}
use Rattle.kernel_model.specs.declared.Life.{Life}
use Rattle.kernel_model.specs.declared.Life.TheVariants.{Living, Dying, Ended}
use Rattle.run_model.specs.Reports.{PathEntry, guest_line, life_words, path_lines, escaped}
use Rattle.run_model.specs.Texts.{Text, Number, Part, Line, Block, Word}
use Rattle.run_summary.specs.Summaries.{end_line, end_of, end_or_running, path_parts, path_row, process_end}
use Rattle.std.proofs.Common.{◌≡◌, Bool, List, [], ap, codes, cond, false, flat_map, length, map, refl, true, ℕ, ◌++◌, ◌∙◌, ◌∷◌}

pub map-map : {A B C : Type 0} (f : A → C) (g : B → C) (h : A → B) (same : (a : A) → f a ≡ g (h a)) (xs : List A) → map f xs ≡ map g (map h xs)
map-map f g h same [] = refl
map-map f g h same (x ∷ xs) = ap (λ y. y ∷ map f xs) (same x) ∙ ap (λ ys. g (h x) ∷ ys) (map-map f g h same xs)

pub flat_map-map : {A B C : Type 0} (f : A → List C) (g : B → List C) (h : A → B) (same : (a : A) → f a ≡ g (h a)) (xs : List A) → flat_map f xs ≡ flat_map g (map h xs)
flat_map-map f g h same [] = refl
flat_map-map f g h same (x ∷ xs) = ap (λ ys. ys ++ flat_map f xs) (same x) ∙ ap (λ ys. g (h x) ++ ys) (flat_map-map f g h same xs)

life : (l : Life) → life_words l ≡ end_or_running (end_of l)
life Living = refl
life (Dying e) = refl
life (Ended e) = refl

pub guest : (e : ℕ × Process) → guest_line e ≡ end_line (process_end e)
guest e = ap (λ (words : List Word). Line (Text (codes "guest") ∷ Number e.0 ∷ words)) (life e.1.life)

file_or_directory : (directory : Bool) (name : List ℕ) (bytes : List ℕ) →
    cond directory (Line (Text (codes "dir") ∷ Text name ∷ []) ∷ []) (Line (Text (codes "file") ∷ Text name ∷ Number (length bytes) ∷ []) ∷ Block bytes ∷ [])
    ≡ cond directory (Line (Text (codes "dir") ∷ Text name ∷ []) ∷ [])
    (Line (Text (codes "file") ∷ Text name ∷ Number (length (cond directory [] bytes)) ∷ []) ∷ Block (cond directory [] bytes) ∷ [])
file_or_directory true name bytes = refl
file_or_directory false name bytes = refl

pub path : (e : PathEntry) → path_lines e ≡ path_parts (path_row e)
path e = file_or_directory e.node.directory (flat_map escaped e.text) e.node.bytes
