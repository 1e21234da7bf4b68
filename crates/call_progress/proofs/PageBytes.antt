-- The bytes of a page, of which a piece was filled from its front on.
use Rattle.file_calls.specs.Placed.{placed}
use Rattle.mck_word.specs.Lists.{spliced}
use Rattle.std.proofs.Common.{◌≡◌, ◌≤◌, ◌+◌, ◌-◌, ℕ, List, ◌++◌, length, take, drop, replicate, append_assoc, sym, ap, ◌∙◌, arith}
use Rattle.std.proofs.lemmas.List.{drop-append-le, drop-drop, take-append-drop}

pub filled-in : (page : List ℕ) (off len : ℕ) (out : List ℕ) → length out ≤ length (take len (drop off page)) → off ≤ length page
    → take off page ++ (placed out (take len (drop off page)) ++ drop len (drop off page)) ≡ spliced page off out
filled-in page off len out short low =
    let there = take len (drop off page) in
    let back = drop len (drop off page) in
    let none : off - length page ≡ 0 = omega arith in
    let rest : drop (length out) there ++ back ≡ drop (off + length out) page =
    sym (drop-append-le (length out) there back short) ∙ ap (λ (bs : List ℕ). drop (length out) bs) (take-append-drop len (drop off page)) ∙ drop-drop (length out) off page in
    let behind = out ++ drop (off + length out) page in
    let gap : behind ≡ replicate (off - length page) 0 ++ behind = ap (λ (n : ℕ). replicate n 0 ++ behind) (sym none) in
    let all : placed out there ++ back ≡ replicate (off - length page) 0 ++ behind =
    append_assoc out (drop (length out) there) back ∙ ap (λ (bs : List ℕ). out ++ bs) rest ∙ gap in
    let zeros : List ℕ = replicate (off - length page) 0 in
    let end = drop (off + length out) page in
    ap (λ (bs : List ℕ). take off page ++ bs) all ∙ sym (append_assoc (take off page ++ zeros) out end ∙ append_assoc (take off page) zeros (out ++ end))
