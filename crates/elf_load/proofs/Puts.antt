-- Parts of one file that are written over another file.
use Rattle.elf_load.proofs.Alike.{Alike}
use Rattle.elf_load.specs.Written.{put}
use Rattle.std.proofs.Common.{◌≡◌, ◌⊎◌, inl, inr, ℕ, ◌+◌, ◌-◌, ◌<◌, ◌≤◌, List, [], ◌∷◌, ◌++◌, length, take, drop, get_or, refl, sym, ◌∙◌, ap, arith, add-zero, get_or-drop, get_or-take, length-append, length-drop, length-take-le}
use Rattle.std.proofs.lemmas.Bool.{cases_lt}
use Rattle.std.proofs.lemmas.List.{get_or_append_left, get_or-append_right, take-append-drop}

-- a part that is put stands within the file, unless it is empty
abbrev pub Fits : List ℕ → ℕ → List ℕ → Type 0
Fits file at part = 0 < length part → at + length part ≤ length file

put_none : (file : List ℕ) (at : ℕ) → put file at [] ≡ file
unfolding put
put_none file at = rw add-zero (take-append-drop at file)

put_long : (file part : List ℕ) (at : ℕ) → at + length part ≤ length file → length (put file at part) ≡ length file
unfolding put
put_long file part at within =
    let front : length (take at file) ≡ at = length-take-le at file (omega arith) in
    let back : length (drop (at + length part) file) ≡ length file - (at + length part) = length-drop (at + length part) file in
    let inner : length (part ++ drop (at + length part) file) ≡ length part + length (drop (at + length part) file) = length-append part (drop (at + length part) file) in
    let whole : length (put file at part) ≡ length (take at file) + length (part ++ drop (at + length part) file) = length-append (take at file) (part ++ drop (at + length part) file) in
    omega arith

pub length-put : (file part : List ℕ) (at : ℕ) → Fits file at part → length (put file at part) ≡ length file
length-put file [] at h = ap length (put_none file at)
length-put file (b ∷ bs) at h = put_long file (b ∷ bs) at (h (omega arith))

put_inside : (file part : List ℕ) (at k : ℕ) → at + length part ≤ length file → k < length part → get_or (put file at part) (at + k) 0 ≡ get_or part k 0
unfolding put
put_inside file part at k within below =
    let front : length (take at file) ≡ at = length-take-le at file (omega arith) in
    let rest : at + k - at ≡ k = omega arith in
    get_or-append_right (take at file) (part ++ drop (at + length part) file) at (at + k) 0 front (omega arith)
    ∙ (ap (λ (p : ℕ). get_or (part ++ drop (at + length part) file) p 0) rest ∙ get_or_append_left part (drop (at + length part) file) 0 k below)

put_before : (file part : List ℕ) (at k : ℕ) → at + length part ≤ length file → k < at → get_or (put file at part) k 0 ≡ get_or file k 0
unfolding put
put_before file part at k within below =
    let front : length (take at file) ≡ at = length-take-le at file (omega arith) in
    get_or_append_left (take at file) (part ++ drop (at + length part) file) 0 k (omega arith) ∙ get_or-take at file k 0 below

put_behind : (file part : List ℕ) (at k : ℕ) → at + length part ≤ length file → at + length part ≤ k → get_or (put file at part) k 0 ≡ get_or file k 0
unfolding put
put_behind file part at k within past =
    let front : length (take at file) ≡ at = length-take-le at file (omega arith) in
    let place : at + length part + (k - at - length part) ≡ k = omega arith in
    get_or-append_right (take at file) (part ++ drop (at + length part) file) at k 0 front (omega arith)
    ∙ (get_or-append_right part (drop (at + length part) file) (length part) (k - at) 0 refl (omega arith)
    ∙ (get_or-drop (at + length part) file (k - at - length part) 0 ∙ ap (λ (p : ℕ). get_or file p 0) place))

-- each byte is as before or as in the file that the part is of
abbrev pub EitherAt : List ℕ → List ℕ → List ℕ → ℕ → Type 0
EitherAt new file old k = (get_or new k 0 ≡ get_or old k 0) ⊎ (get_or new k 0 ≡ get_or file k 0)

put_either_at : (file old part : List ℕ) (at k : ℕ) → at + length part ≤ length file → Alike part 0 old at (length part) → EitherAt (put file at part) file old k
put_either_at file old part at k within h = elim (cases_lt k at) [
  | inl before ↦ inr (put_before file part at k within before)
  | inr low ↦ elim (cases_lt k (at + length part)) [
    | inl inside ↦
        let place : at + (k - at) ≡ k = omega arith in
        let start : k - at ≡ 0 + (k - at) = omega arith in
        inl (ap (λ (p : ℕ). get_or (put file at part) p 0) (sym place)
        ∙ (put_inside file part at (k - at) within (omega arith)
        ∙ (ap (λ (p : ℕ). get_or part p 0) start ∙ (h (k - at) (omega arith) ∙ ap (λ (p : ℕ). get_or old p 0) place))))
    | inr past ↦ inr (put_behind file part at k within past)
  ]
]

pub put_either : (file old part : List ℕ) (at k : ℕ) → Fits file at part → Alike part 0 old at (length part) → EitherAt (put file at part) file old k
put_either file old [] at k fits h = inr (ap (λ (xs : List ℕ). get_or xs k 0) (put_none file at))
put_either file old (b ∷ bs) at k fits h = put_either_at file old (b ∷ bs) at k (fits (omega arith)) h

-- where the part stands
put_here_at : (file old part : List ℕ) (at k : ℕ) → k < length part → Fits file at part → Alike part 0 old at (length part) → get_or (put file at part) (at + k) 0 ≡ get_or old (at + k) 0
put_here_at file old part at k below fits h =
    let start : k ≡ 0 + k = omega arith in
    put_inside file part at k (fits (omega arith)) below ∙ (ap (λ (p : ℕ). get_or part p 0) start ∙ h k below)

pub put_here : (file old part : List ℕ) (at : ℕ) → Fits file at part → Alike part 0 old at (length part) → Alike (put file at part) at old at (length part)
put_here file old part at fits h k below = put_here_at file old part at k below fits h

-- what was alike stays alike
pub either_keeps : (new file old : List ℕ) (i n : ℕ) → ((k : ℕ) → EitherAt new file old k) → Alike file i old i n → Alike new i old i n
either_keeps new file old i n either h k below = elim (either (i + k)) [ inl same ↦ same | inr before ↦ before ∙ h k below ]

pub either_again : (newest new file old : List ℕ) → ((k : ℕ) → EitherAt newest new old k) → ((k : ℕ) → EitherAt new file old k) → (k : ℕ) → EitherAt newest file old k
either_again newest new file old last first k = elim (last k) [
  | inl same ↦ inl same
  | inr before ↦ elim (first k) [ inl same ↦ inl (before ∙ same) | inr kept ↦ inr (before ∙ kept) ]
]
