-- Bytes written in a page, one part after another.
use Rattle.frame_mem.specs.Pages.{written}
use Rattle.std.proofs.Common.{ap, arith, refl, sym, ◌∙◌}
use Rattle.std.specs.Prelude.{List, [], ◌∷◌, ◌++◌, drop, length, suc, take, zero, ℕ, ◌+◌, ◌≡◌, ◌≤◌}

length-written-here : (bs page : List ℕ) → length bs ≤ length page → length (bs ++ drop (length bs) page) ≡ length page
length-written-here [] page l = refl
length-written-here (b ∷ bs) [] l = absurd (omega arith)
length-written-here (b ∷ bs) (x ∷ xs) l = ap suc (length-written-here bs xs (omega arith))

written-at-zero : (page bs : List ℕ) → written page 0 bs ≡ bs ++ drop (length bs) page
written-at-zero page bs = let e : 0 + length bs ≡ length bs = omega arith in ap (λ k. bs ++ drop k page) e

written-later : (x : ℕ) (xs : List ℕ) (off : ℕ) (bs : List ℕ) → written (x ∷ xs) (suc off) bs ≡ x ∷ written xs off bs
written-later x xs off bs = let e : suc off + length bs ≡ suc (off + length bs) = omega arith in ap (λ k. x ∷ (take off xs ++ (bs ++ drop k (x ∷ xs)))) e

pub length-written : (page : List ℕ) (off : ℕ) (bs : List ℕ) → off + length bs ≤ length page → length (written page off bs) ≡ length page
length-written page zero bs l = ap length (written-at-zero page bs) ∙ length-written-here bs page (omega arith)
length-written [] (suc off) bs l = absurd (omega arith)
length-written (x ∷ xs) (suc off) bs l = ap length (written-later x xs off bs) ∙ ap suc (length-written xs off bs (omega arith))

more-here : (ps bs page : List ℕ) → length ps + length bs ≤ length page → written (ps ++ drop (length ps) page) (length ps) bs ≡ (ps ++ bs) ++ drop (length (ps ++ bs)) page
more-here [] bs page l = written-at-zero page bs
more-here (a ∷ ps) bs [] l = absurd (omega arith)
more-here (a ∷ ps) bs (x ∷ xs) l = written-later a (ps ++ drop (length ps) xs) (length ps) bs ∙ ap (λ ys. a ∷ ys) (more-here ps bs xs (omega arith))

-- a part that is written behind another
pub written-more : (page : List ℕ) (off : ℕ) (ps bs : List ℕ) → off + (length ps + length bs) ≤ length page → written (written page off ps) (off + length ps) bs ≡ written page off (ps ++ bs)
written-more page zero ps bs l =
    let e : 0 + length ps ≡ length ps = omega arith in
    (λ i. written (written-at-zero page ps i) (e i) bs) ∙ (more-here ps bs page (omega arith) ∙ sym (written-at-zero page (ps ++ bs)))
written-more [] (suc off) ps bs l = absurd (omega arith)
written-more (x ∷ xs) (suc off) ps bs l =
    let e : suc off + length ps ≡ suc (off + length ps) = omega arith in
    (λ i. written (written-later x xs off ps i) (e i) bs) ∙ (written-later x (written xs off ps) (off + length ps) bs
    ∙ (ap (λ ys. x ∷ ys) (written-more xs off ps bs (omega arith)) ∙ sym (written-later x xs off (ps ++ bs))))

drop-nothing : (page : List ℕ) → drop 0 page ≡ page
drop-nothing [] = refl
drop-nothing (x ∷ xs) = refl

-- nothing written
pub written-nothing : (page : List ℕ) (off : ℕ) → off ≤ length page → written page off [] ≡ page
written-nothing page zero l = written-at-zero page [] ∙ drop-nothing page
written-nothing [] (suc off) l = absurd (omega arith)
written-nothing (x ∷ xs) (suc off) l = written-later x xs off [] ∙ ap (λ ys. x ∷ ys) (written-nothing xs off (omega arith))
