-- A page added with given bytes, and how its frame comes to have them.
use Rattle.frame_mem.specs.Pages.{written}
use Rattle.hybrid_model.specs.Sides.{Row}
use Rattle.lwk_space.proofs.OnePage.{first-is, frames-set, rest-is}
use Rattle.lwk_space.specs.Fills.{fill_page, placed}
use Rattle.lwk_space.specs.Frames.{frames_map}
use Rattle.mck_flags.specs.declared.rights.Rights.{Rights}
use Rattle.mck_word.specs.Lists.{tail}
use Rattle.mck_word.specs.Maps.{Map, put}
use Rattle.std.proofs.Common.{ap, append_assoc, arith, refl, sym, ◌∙◌}
use Rattle.std.proofs.lemmas.List.{drop-replicate, get_or-set_same, length-drop, length-take, take-replicate}
use Rattle.std.specs.Prelude.{List, Some, [], ◌∷◌, ◌++◌, drop, length, min, replicate, slice_get, slice_index_or, slice_set, suc, take, zero, ℕ, ◌*◌, ◌+◌, ◌-◌, ◌<◌, ◌≡◌, ◌≤◌}

pub filled : (rights : Rights) (start : ℕ) (bytes : List ℕ) (page f : ℕ) (rows : Map Row) (pages : List (List ℕ)) (free : List ℕ) → slice_get free 0 ≡ Some f → f < length pages
    → record { table = put rows page (record { 0 = f }, rights); frames = frames_map (slice_set pages f (placed start bytes page)); free = tail free }
    ≡ fill_page rights start bytes page (record { table = rows; frames = frames_map pages; free = free })
unfolding fill_page
filled rights start bytes page f rows pages free first l =
    let k = sym (first-is free f first) in
    let content = placed start bytes page in
    λ i. record { table = put rows page (record { 0 = k i }, rights); frames = (frames-set pages f content l ∙ ap (λ n. put (frames_map pages) n content) k) i; free = rest-is free i }

set-set : (m : List (List ℕ)) (f : ℕ) (a b : List ℕ) → slice_set (slice_set m f a) f b ≡ slice_set m f b
set-set [] f a b = refl
set-set (x ∷ xs) zero a b = refl
set-set (x ∷ xs) (suc f) a b = ap (λ ys. x ∷ ys) (set-set xs f a b)

take-zero : (xs : List ℕ) → take 0 xs ≡ []
take-zero [] = refl
take-zero (x ∷ xs) = refl

drop-min : (d : ℕ) (xs : List ℕ) → drop (min d (length xs)) xs ≡ drop d xs
drop-min zero [] = refl
drop-min (suc d) [] = let e : min (suc d) 0 ≡ 0 = omega arith in ap (λ k. drop {A = ℕ} k []) e
drop-min zero (x ∷ xs) = let e : min 0 (suc (length xs)) ≡ 0 = omega arith in ap (λ k. drop k (x ∷ xs)) e
drop-min (suc d) (x ∷ xs) = let e : min (suc d) (suc (length xs)) ≡ suc (min d (length xs)) = omega arith in ap (λ k. drop k (x ∷ xs)) e ∙ drop-min d xs

take-min : (j : ℕ) (xs : List ℕ) → take (min (length xs) j) xs ≡ take j xs
take-min zero xs = let e : min (length xs) 0 ≡ 0 = omega arith in ap (λ k. take k xs) e
take-min (suc j) [] = let e : min 0 (suc j) ≡ 0 = omega arith in ap (λ k. take {A = ℕ} k []) e
take-min (suc j) (x ∷ xs) = let e : min (suc (length xs)) (suc j) ≡ suc (min (length xs) j) = omega arith in ap (λ k. take k (x ∷ xs)) e ∙ ap (λ ys. x ∷ ys) (take-min j xs)

take-zeros : (n k : ℕ) (xs : List ℕ) → take n (replicate k 0 ++ xs) ≡ replicate (min k n) 0 ++ take (n - k) xs
take-zeros n zero xs =
    let e : min 0 n ≡ 0 = omega arith in
    let f : n - 0 ≡ n = omega arith in
    sym ((λ i. replicate (e i) 0 ++ take (f i) xs))
take-zeros zero (suc k) xs =
    let e : min (suc k) 0 ≡ 0 = omega arith in
    let f : 0 - suc k ≡ 0 = omega arith in
    sym ((λ i. replicate (e i) 0 ++ take (f i) xs) ∙ take-zero xs)
take-zeros (suc n) (suc k) xs =
    let e : min (suc k) (suc n) ≡ suc (min k n) = omega arith in
    let f : suc n - suc k ≡ n - k = omega arith in
    ap (λ ys. 0 ∷ ys) (take-zeros n k xs) ∙ sym ((λ i. replicate (e i) 0 ++ take (f i) xs))

take-padded : (n : ℕ) (xs : List ℕ) (m : ℕ) → n ≤ m → take n (xs ++ replicate m 0) ≡ take n xs ++ replicate (n - length xs) 0
take-padded zero xs m l =
    let e : 0 - length xs ≡ 0 = omega arith in
    take-zero (xs ++ replicate m 0) ∙ sym ((λ i. take-zero xs i ++ replicate (e i) 0))
take-padded (suc n) [] m l =
    let e : suc n ≡ suc n - 0 = omega arith in
    take-replicate {X = ℕ} (suc n) m 0 l ∙ ap (λ k. replicate {A = ℕ} k 0) e
take-padded (suc n) (x ∷ xs) m l =
    let e : n - length xs ≡ suc n - suc (length xs) = omega arith in
    ap (λ ys. x ∷ ys) (take-padded n xs m (omega arith) ∙ ap (λ k. take n xs ++ replicate k 0) e)

-- the bytes of a page of n bytes, k zeros first
page-bytes : (n k d : ℕ) (bytes : List ℕ) (off from len : ℕ) → off ≡ min k n → from ≡ min d (length bytes) → len ≡ min (length bytes - from) (n - off)
    → written (replicate n 0) off (take len (drop from bytes)) ≡ take n (replicate k 0 ++ drop d bytes ++ replicate n 0)
page-bytes n k d bytes off from len eo ef el =
    let ys = drop d bytes in
    let same : drop from bytes ≡ ys = ap (λ j. drop j bytes) ef ∙ drop-min d bytes in
    let long : length ys ≡ length bytes - d = length-drop d bytes in
    let short : len ≡ min (length ys) (n - k) = omega arith in
    let taken : take len (drop from bytes) ≡ take (n - k) ys = (λ i. take (short i) (same i)) ∙ take-min (n - k) ys in
    let many : length (take (n - k) ys) ≡ min (n - k) (length ys) = length-take (n - k) ys in
    let rest : n - (off + length (take (n - k) ys)) ≡ n - k - length ys = omega arith in
    let fits : off ≤ n = omega arith in
    let within : n - k ≤ n = omega arith in
    ap (written (replicate n 0) off) taken
    ∙ ((λ i. take-replicate off n 0 fits i ++ (take (n - k) ys ++ drop-replicate (off + length (take (n - k) ys)) n 0 i))
    ∙ ((λ i. replicate (eo i) 0 ++ (take (n - k) ys ++ replicate (rest i) 0))
    ∙ sym (ap (take n) (append_assoc (replicate k 0) ys (replicate n 0)) ∙ take-zeros n k (ys ++ replicate n 0) ∙ ap (λ zs. replicate (min k n) 0 ++ zs) (take-padded (n - k) ys n within))))

-- a frame that was set to zeros and then got its part of the bytes
pub filled-frame : (m : List (List ℕ)) (f start : ℕ) (bytes : List ℕ) (page off from len : ℕ) → f < length m → off ≡ min (start - page * 4096) 4096 → from ≡ min (page * 4096 - start) (length bytes)
    → len ≡ min (length bytes - from) (4096 - off)
    → slice_set (slice_set m f (replicate 4096 0)) f (written (slice_index_or (slice_set m f (replicate 4096 0)) f []) off (take len (drop from bytes))) ≡ slice_set m f (placed start bytes page)
unfolding placed
filled-frame m f start bytes page off from len l eo ef el =
    set-set m f (replicate 4096 0) _
    ∙ ap (slice_set m f) (ap (λ zs. written zs off (take len (drop from bytes))) (get_or-set_same m f (replicate 4096 0) [] l)
    ∙ page-bytes 4096 (start - page * 4096) (page * 4096 - start) bytes off from len eo ef el)
