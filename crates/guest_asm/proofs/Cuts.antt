-- A text cut at a byte.
use Rattle.std.proofs.Common.{◌≡◌, ◌≢◌, ℕ, zero, suc, ◌<◌, ◌==◌, List, [], ◌∷◌, length, take, drop, get_or, Some, None, option_map, true, false, refl, ◌∙◌, ap, arith}
use Rattle.std.proofs.lemmas.Bool.Decides.{nat_tests}
use Rattle.guest_asm.specs.Lines.{cut}

abbrev onto : ℕ → List ℕ × List ℕ → List ℕ × List ℕ
onto b p = (b ∷ p.0, p.1)

other : (b at : ℕ) → b ≢ at → (b == at) ≡ false
other b at h = grind (arith, nat_tests)

same : (b at : ℕ) → b ≡ at → (b == at) ≡ true
same b at h = grind (arith, nat_tests)

here : (at b : ℕ) (bs : List ℕ) → b ≡ at → cut at (b ∷ bs) ≡ Some ([], bs)
here at b bs e = rw (same b at e) refl

pub further : (at b : ℕ) (bs : List ℕ) → b ≢ at → cut at (b ∷ bs) ≡ option_map (onto b) (cut at bs)
further at b bs h = rw (other b at h) refl

pub cut_none : (at : ℕ) (text : List ℕ) → ((k : ℕ) → k < length text → get_or text k 0 ≢ at) → cut at text ≡ None
cut_none at [] h = refl
cut_none at (b ∷ bs) h = further at b bs (h 0 (omega arith)) ∙ ap (option_map (onto b)) (cut_none at bs (λ k i. h (suc k) (omega arith)))

pub cut_found : (at : ℕ) (text : List ℕ) (i : ℕ) → i < length text → ((k : ℕ) → k < i → get_or text k 0 ≢ at) → get_or text i 0 ≡ at → cut at text ≡ Some (take i text, drop (suc i) text)
cut_found at [] i w h e = absurd (omega arith)
cut_found at (b ∷ bs) zero w h e = here at b bs e
cut_found at (b ∷ bs) (suc i) w h e = further at b bs (h 0 (omega arith)) ∙ ap (option_map (onto b)) (cut_found at bs i (omega arith) (λ k j. h (suc k) (omega arith)) e)
