-- The words of the lines that are left.
use Rattle.std.proofs.Common.{◌≡◌, ℕ, ◌+◌, ◌<◌, ◌≤◌, length, map, drop, get_or, add-one, drop-cons, List, [], ◌∷◌, ◌++◌, Option, Some, None, Result, Ok, Err, refl, sym, ◌∙◌, ap, append_assoc}
use Rattle.std.specs.Option.{option_to_list}
use Rattle.std.proofs.lemmas.List.{append-nil, drop_all}
use Rattle.guest_asm.specs.Assembly.{◌>>=◌, or_broken, words_from, after_these}
use Rattle.guest_asm.specs.Lines.{Marks, said, words_in}

prepended : (front first : List ℕ) (r : Result (List ℕ) ℕ) → after_these (front ++ first) r ≡ after_these front (r >>= λ more. Ok (first ++ more))
prepended front first (Ok xs) = ap (λ ys. Ok ys) (append_assoc front first xs)
prepended front first (Err e) = refl

pub one_line : (marks : Marks) (line here : ℕ) (text : List ℕ) (more : List (List ℕ)) (found : Option (Option ℕ)) → said marks line here text ≡ found → words_from marks line here (text ∷ more) ≡ (or_broken line found >>= λ word. words_from marks (line + 1) (here + words_in text) more >>= λ others. Ok (option_to_list word ++ others))
unfolding words_from
one_line marks line here text more found h = ap (λ f. or_broken line f >>= λ word. words_from marks (line + 1) (here + words_in text) more >>= λ others. Ok (option_to_list word ++ others)) h

pub words_more : (marks : Marks) (line here n : ℕ) (text : List ℕ) (texts more : List (List ℕ)) (front front' : List ℕ) (found : Option ℕ) (all : Result (List ℕ) ℕ) → texts ≡ text ∷ more → n ≡ words_in text → front' ≡ front ++ option_to_list found → said marks line here text ≡ Some found → after_these front (words_from marks line here texts) ≡ all → after_these front' (words_from marks (line + 1) (here + n) more) ≡ all
words_more marks line here n text texts more front front' found all e f g h kept =
    ap (λ ws. after_these ws (words_from marks (line + 1) (here + n) more)) g
    ∙ (ap (λ k. after_these (front ++ option_to_list found) (words_from marks (line + 1) (here + k) more)) f
    ∙ (prepended front (option_to_list found) (words_from marks (line + 1) (here + words_in text) more)
    ∙ (sym (ap (after_these front) (ap (words_from marks line here) e ∙ one_line marks line here text more (Some found) h)) ∙ kept)))

pub words_broken : (marks : Marks) (line here : ℕ) (text : List ℕ) (texts more : List (List ℕ)) (front : List ℕ) (all : Result (List ℕ) ℕ) → texts ≡ text ∷ more → said marks line here text ≡ None → after_these front (words_from marks line here texts) ≡ all → all ≡ Err line
words_broken marks line here text texts more front all e h kept =
    sym kept ∙ ap (after_these front) (ap (words_from marks line here) e ∙ one_line marks line here text more None h)

pub words_done : (marks : Marks) (line here : ℕ) (texts : List (List ℕ)) (front : List ℕ) (all : Result (List ℕ) ℕ) → texts ≡ [] → after_these front (words_from marks line here texts) ≡ all → all ≡ Ok front
unfolding words_from
words_done marks line here texts front all e kept =
    sym kept ∙ (ap (λ ts. after_these front (words_from marks line here ts)) e ∙ ap (λ ws. Ok ws) (append-nil front))

-- ---- what is left of a list

pub next_mapped : {X Y : Type 0} (f : X → Y) (xs : List X) (i : ℕ) (d : X) → i < length xs → map f (drop i xs) ≡ f (get_or xs i d) ∷ map f (drop (i + 1) xs)
next_mapped f xs i d h = rw add-one (ap (map f) (drop-cons xs i d h))

pub none_mapped : {X Y : Type 0} (f : X → Y) (xs : List X) (i : ℕ) → length xs ≤ i → map f (drop i xs) ≡ []
none_mapped f xs i h = ap (map f) (drop_all i xs h)
