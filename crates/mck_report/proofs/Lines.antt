-- Lines and texts, one part after another.
use Rattle.std.proofs.Common.{◌≡◌, ℕ, List, [], ◌∷◌, ◌++◌, map, flat_map, refl, sym, ◌∙◌, ap, append_assoc}
use Rattle.std.proofs.lemmas.List.{append-nil}
use Rattle.run_model.specs.Texts.{Word, Text, Line, word_bytes, spaced, Part, part_bytes, text_of}
use Rattle.mck_report.specs.Writing.{word_of, spaced_token}
use Rattle.mck_report.specs.declared.writing.Token.{Token}

-- the words of a line: the first, then each of the others behind a space
spaced-cons : (w : Word) (tokens : List Token) → spaced (w ∷ map word_of tokens) ≡ word_bytes w ++ flat_map spaced_token tokens
spaced-cons w [] = sym (append-nil (word_bytes w))
spaced-cons w (t ∷ ts) = ap (λ xs. word_bytes w ++ (32 ∷ xs)) (spaced-cons (word_of t) ts)

pub line_bytes : (front word : List ℕ) (tokens : List Token) → ((front ++ word) ++ flat_map spaced_token tokens) ++ 10 ∷ [] ≡ front ++ part_bytes (Line (Text word ∷ map word_of tokens))
line_bytes front word tokens =
    append_assoc (front ++ word) (flat_map spaced_token tokens) (10 ∷ []) ∙ (append_assoc front word (flat_map spaced_token tokens ++ 10 ∷ [])
    ∙ ap (λ xs. front ++ xs) (sym (append_assoc word (flat_map spaced_token tokens) (10 ∷ [])) ∙ ap (λ xs. xs ++ 10 ∷ []) (sym (spaced-cons (Text word) tokens))))

pub text_of-append : (ps qs : List Part) → text_of (ps ++ qs) ≡ text_of ps ++ text_of qs
text_of-append [] qs = refl
text_of-append (p ∷ ps) qs = ap (λ xs. part_bytes p ++ xs) (text_of-append ps qs) ∙ sym (append_assoc (part_bytes p) (text_of ps) (text_of qs))

-- the parts of the first element, then those of the others
pub text_of_front : {X : Type 0} (f : X → List Part) (text front : List ℕ) (x : X) (xs : List X) → text ≡ front ++ text_of (f x) → text ++ text_of (flat_map f xs) ≡ front ++ text_of (flat_map f (x ∷ xs))
text_of_front f text front x xs e =
    ap (λ t. t ++ text_of (flat_map f xs)) e ∙ (append_assoc front (text_of (f x)) (text_of (flat_map f xs)) ∙ ap (λ t. front ++ t) (sym (text_of-append (f x) (flat_map f xs))))

-- texts that were added one after another
pub last_line : (a b : List ℕ) (p : Part) → b ≡ a ++ part_bytes p → b ≡ a ++ text_of (p ∷ [])
last_line a b p e = e ∙ ap (λ t. a ++ t) (sym (append-nil (part_bytes p)))

pub line_then : (a b c : List ℕ) (p : Part) (ps : List Part) → b ≡ a ++ part_bytes p → c ≡ b ++ text_of ps → c ≡ a ++ text_of (p ∷ ps)
line_then a b c p ps e f = f ∙ (ap (λ t. t ++ text_of ps) e ∙ append_assoc a (part_bytes p) (text_of ps))

pub parts_then : (a b c : List ℕ) (ps qs : List Part) → b ≡ a ++ text_of ps → c ≡ b ++ text_of qs → c ≡ a ++ text_of (ps ++ qs)
parts_then a b c ps qs e f =
    f ∙ (ap (λ t. t ++ text_of qs) e ∙ (append_assoc a (text_of ps) (text_of qs) ∙ ap (λ t. a ++ t) (sym (text_of-append ps qs))))

-- parts in front of others
pub parts_front : (ps qs : List Part) (a b : List ℕ) → b ≡ a ++ text_of ps → b ++ text_of qs ≡ a ++ text_of (ps ++ qs)
parts_front ps qs a b e = ap (λ t. t ++ text_of qs) e ∙ (append_assoc a (text_of ps) (text_of qs) ∙ ap (λ t. a ++ t) (sym (text_of-append ps qs)))
