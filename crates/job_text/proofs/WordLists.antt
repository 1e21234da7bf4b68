-- What the words of a line keep.
use Rattle.std.proofs.Common.{◌≡◌, ℕ, zero, suc, ◌+◌, ◌<◌, ◌≤◌, ◌==◌, ◌||◌, nat_lt, cond, List, [], ◌∷◌, Bool, true, false, All, sum_by, length, get_or, drop, refl, sym, ◌∙◌, subst, arith}
use Rattle.std.specs.List.{list_any, onto_first}
use Rattle.std.specs.Str.{IsAscii}
use Rattle.std.proofs.lemmas.Bool.Decides.{nat_tests}
use Rattle.std.proofs.lemmas.List.Sums.{sum_by-cons}
use Rattle.std.proofs.lemmas.Option.{unwrap_or-slice_get}
use Rattle.std.proofs.lemmas.Str.{IsUtf8-from_ascii}
use Rattle.job_text.specs.Kept.{IsWord}
use Rattle.job_text.specs.TextLines.{AreVisible, IsLine, is_odd_byte}
use Rattle.job_text.specs.Words.{words_of, word_at, is_empty, has_empty}

abbrev pub IsVisible : ℕ → Type 0
IsVisible b = (33 ≤ b) × (b ≤ 126)

pub neither : (b c : Bool) → (b || c) ≡ false → (b ≡ false) × (c ≡ false)
neither true c h = cc
neither false c h = (refl, h)

all_cons : {X : Type 0} (P : X → Type 0) (x : X) (xs : List X) → P x → All P xs → All P (x ∷ xs)
all_cons P x xs h all zero d i = h
all_cons P x xs h all (suc k) d i = all k d (omega arith)

all_none : {X : Type 0} (P : X → Type 0) → All P []
all_none P k d i = absurd (omega arith)

visible_byte : (b : ℕ) → is_odd_byte b ≡ false → (b == 32) ≡ false → IsVisible b
visible_byte b h e = let low : 33 ≤ b = grind (arith, nat_tests) in let high : b ≤ 126 = grind (arith, nat_tests) in (low, high)

onto_visible : (b : ℕ) (words : List (List ℕ)) → IsVisible b → All AreVisible words → All AreVisible (onto_first b words)
onto_visible b [] h all = all_cons AreVisible (b ∷ []) [] (all_cons IsVisible b [] h (all_none IsVisible)) (all_none AreVisible)
onto_visible b (word ∷ words) h all =
    all_cons AreVisible (b ∷ word) words (all_cons IsVisible b word h (all 0 [] (omega arith))) (λ k d i. all (suc k) d (omega arith))

split_visible : (b : ℕ) (rest : List (List ℕ)) (space : Bool) → (b == 32) ≡ space → is_odd_byte b ≡ false → All AreVisible rest → All AreVisible (cond space ([] ∷ rest) (onto_first b rest))
split_visible b rest true e h all = all_cons AreVisible [] rest (all_none IsVisible) all
split_visible b rest false e h all = onto_visible b rest (visible_byte b h e) all

-- the words of a line that passed its second check
pub words_visible : (line : List ℕ) → list_any is_odd_byte line ≡ false → All AreVisible (words_of line)
words_visible [] h = all_cons AreVisible [] [] (all_none IsVisible) (all_none AreVisible)
words_visible (b ∷ bs) h =
    let both = neither (is_odd_byte b) (list_any is_odd_byte bs) h in
    split_visible b (words_of bs) (b == 32) refl both.0 (words_visible bs both.1)

ascii_visible : (word : List ℕ) → AreVisible word → IsAscii word
ascii_visible [] h i = omega arith
ascii_visible (b ∷ bs) h zero = let one = h 0 0 (omega arith) in omega (arith, one.1)
ascii_visible (b ∷ bs) h (suc i) = ascii_visible bs (λ k d w. h (suc k) d (omega arith)) i

word_kept : (word : List ℕ) → is_empty word ≡ false → AreVisible word → IsWord word
word_kept word e h = record { some = grind (arith, nat_tests); bytes = h; text = IsUtf8-from_ascii word (ascii_visible word h) }

none_empty : (words : List (List ℕ)) → has_empty words ≡ false → All (λ w. is_empty w ≡ false) words
none_empty [] h = all_none (λ w. is_empty w ≡ false)
none_empty (w ∷ ws) h =
    let both = neither (is_empty w) (has_empty ws) h in all_cons (λ x. is_empty x ≡ false) w ws both.0 (none_empty ws both.1)

pub words_kept : (words : List (List ℕ)) → has_empty words ≡ false → All AreVisible words → All IsWord words
words_kept words e h k d i = word_kept (get_or words k d) (none_empty words e k d i) (h k d i)

pub word_kept_at : (words : List (List ℕ)) (k : ℕ) → k < length words → All IsWord words → IsWord (word_at words k)
word_kept_at words k i h = subst IsWord (sym (unwrap_or-slice_get words k [])) (h k [] i)

-- ---- their size

onto_size : (b : ℕ) (words : List (List ℕ)) → 0 < length words → sum_by (λ w. length w + 1) (onto_first b words) ≡ sum_by (λ w. length w + 1) words + 1
onto_size b [] h = absurd (omega arith)
onto_size b (w ∷ ws) h = omega (arith, sum_by-cons (λ x. length x + 1) w ws, sum_by-cons (λ x. length x + 1) (b ∷ w) ws)

split_some : (b : ℕ) (rest : List (List ℕ)) (space : Bool) → 0 < length rest → 0 < length (cond space ([] ∷ rest) (onto_first b rest))
split_some b rest true h = omega arith
split_some b [] false h = omega arith
split_some b (w ∷ ws) false h = omega arith

words_some : (line : List ℕ) → 0 < length (words_of line)
words_some [] = omega arith
words_some (b ∷ bs) = split_some b (words_of bs) (b == 32) (words_some bs)

split_size : (b : ℕ) (rest : List (List ℕ)) (space : Bool) → 0 < length rest → sum_by (λ w. length w + 1) (cond space ([] ∷ rest) (onto_first b rest)) ≡ sum_by (λ w. length w + 1) rest + 1
split_size b rest true h = omega (arith, sum_by-cons (λ x. length x + 1) [] rest)
split_size b rest false h = onto_size b rest h

pub words_size : (line : List ℕ) → sum_by (λ w. length w + 1) (words_of line) ≡ length line + 1
words_size [] = refl
words_size (b ∷ bs) = split_size b (words_of bs) (b == 32) (words_some bs) ∙ omega (arith, words_size bs)

pub words_behind : (words : List (List ℕ)) → 0 < length words → sum_by (λ w. length w + 1) (drop 1 words) + 1 ≤ sum_by (λ w. length w + 1) words
words_behind [] h = absurd (omega arith)
words_behind (w ∷ ws) h = omega (arith, sum_by-cons (λ x. length x + 1) w ws)

-- the words of a line that passed its first two checks
pub line_words : (bytes : List ℕ) → nat_lt 1024 (length bytes) ≡ false → list_any is_odd_byte bytes ≡ false → IsLine (words_of bytes)
line_words bytes h e =
    let short : length bytes ≤ 1024 = grind (arith, nat_tests, h) in
    record { visible = words_visible bytes e; small = omega (arith, words_size bytes) }
