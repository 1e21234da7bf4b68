-- The text of words assembles again.
use Rattle.std.proofs.Common.{◌≡◌, ℕ, zero, suc, ◌+◌, ◌^◌, ◌<◌, ◌==◌, not, List, [], ◌∷◌, ◌++◌, map, get_or, None, Ok, Bool, true, false, All, refl, ◌∙◌, ap, append_assoc, arith, Fits, w32}
use Rattle.std.proofs.lemmas.List.Splits.{slice_split_at}
use Rattle.guest_asm.specs.Assembly.{lines_of, marks_from, words_from, words_of}
use Rattle.guest_asm.specs.Lines.{Marks, said, words_in}
use Rattle.guest_asm.specs.Listing.{line_of, listing_of}
use Rattle.guest_asm.proofs.Again.{line_again, said_again}
use Rattle.guest_asm.proofs.NameFacts.{lacks}
use Rattle.guest_asm.proofs.Pieces.{split_lack}

not_false : (b : Bool) → not b ≡ true → b ≡ false
not_false true h = cc
not_false false h = refl

none_passes : (text : List ℕ) → lacks 10 text ≡ true → All (λ b. (b == 10) ≡ false) text
none_passes [] h k d i = absurd (omega arith)
none_passes (b ∷ bs) h zero d i = not_false (b == 10) (split_lack 10 b bs h).0
none_passes (b ∷ bs) h (suc k) d i = none_passes bs (split_lack 10 b bs h).1 k d (omega arith)

abbrev pub AreWords : List ℕ → Type 0
AreWords words = All (λ w. w < 2 ^ 32) words

later : (w : ℕ) (ws : List ℕ) → AreWords (w ∷ ws) → AreWords ws
later w ws h k d i = h (suc k) d (omega arith)

no_marks : Marks
no_marks name = None

lines_again : (ws : List ℕ) → AreWords ws → lines_of (listing_of ws) ≡ map line_of ws ++ [] ∷ []
lines_again [] h = refl
lines_again (w ∷ ws) h =
    let r = line_again no_marks 0 w (h 0 0 (omega arith)) in
    ap lines_of (append_assoc (line_of w) (10 ∷ []) (listing_of ws))
    ∙ (slice_split_at (λ b. b == 10) (line_of w) 10 (listing_of ws) (none_passes (line_of w) r.no_line_feed) refl
    ∙ ap (λ ts. line_of w ∷ ts) (lines_again ws (later w ws h)))

from_again : (marks : Marks) (line here : ℕ) (ws : List ℕ) → AreWords ws → words_from marks line here (map line_of ws ++ [] ∷ []) ≡ Ok ws
unfolding words_from said
from_again marks line here [] h = refl
from_again marks line here (w ∷ ws) h =
    let s = said_again marks line here (line_of w) w (line_again marks here w (h 0 0 (omega arith))) in
    rw (s, from_again marks (line + 1) (here + words_in (line_of w)) ws (later w ws h)) refl

pub text_again : (ws : List ℕ) → AreWords ws → words_of (listing_of ws) ≡ Ok ws
unfolding words_of
text_again ws h =
    let e = lines_again ws h in
    ap (λ ts. words_from (marks_from 1 0 ts) 1 0 ts) e ∙ from_again (marks_from 1 0 (map line_of ws ++ [] ∷ [])) 1 0 ws h

pub words_fit : (ws : List ℕ) → ((i : ℕ) → Fits w32 (get_or ws i 0)) → AreWords ws
words_fit [] h k d i = absurd (omega arith)
words_fit (w ∷ ws) h zero d i = let here : Fits w32 w = h 0 in omega (arith, here)
words_fit (w ∷ ws) h (suc k) d i = words_fit ws (λ j. h (suc j)) k d (omega arith)
