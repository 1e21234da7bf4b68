-- Segments one by one.
use Rattle.std.proofs.Common.{◌≡◌, ℕ, zero, suc, ◌+◌, List, [], ◌∷◌, ◌++◌, length, take, drop, find, Option, Some, None, Result, Ok, Err, refl, sym, ◌∙◌, ap, subst, append_assoc, arith, add-one, ◌≤◌, All, IfSome, Bool, false}
use Rattle.std.specs.Option.{option_to_list}
use Rattle.std.proofs.lemmas.List.Elements.{All-push}
use Rattle.std.proofs.lemmas.List.{append-nil}
use Rattle.elf_load.specs.declared.fault.ElfFault.{ElfFault}
use Rattle.elf_load.specs.declared.fault.ElfError.{ElfError}
use Rattle.elf_load.specs.declared.fault.ElfError.TheVariants as errors
use Rattle.elf_load.specs.declared.placed.Placed.{Placed}
use Rattle.elf_load.specs.Profile.{◌>>=◌, after_these, segment_of, segments_of, apart, or_overlap, shares_page, Gives, Fails}

prepended : {A : Type 0} (front first : List A) (r : Result (List A) ElfFault) → after_these (front ++ first) r ≡ after_these front (r >>= λ more. Ok (first ++ more))
prepended front first (Ok xs) = ap (λ ys. Ok ys) (append_assoc front first xs)
prepended front first (Err e) = refl

-- one header more
pub segments_more : (bytes : List ℕ) (at k n m : ℕ) (front front' : List Placed) (first : Option Placed) (all : Result (List Placed) ElfFault) → n ≡ suc m → front' ≡ front ++ option_to_list first → segment_of bytes at k ≡ Ok first → after_these front (segments_of bytes at k n) ≡ all → after_these front' (segments_of bytes (at + 56) (k + 1) m) ≡ all
unfolding segments_of
segments_more bytes at k n m front front' first all e f h kept =
    let now : after_these front (segments_of bytes at k (suc m)) ≡ all = rw e at kept in
    let made : segments_of bytes at k (suc m) ≡ (segments_of bytes (at + 56) (k + 1) m >>= λ more. Ok (option_to_list first ++ more)) = rw h refl in
    ap (λ ys. after_these ys (segments_of bytes (at + 56) (k + 1) m)) f ∙ (prepended front (option_to_list first) (segments_of bytes (at + 56) (k + 1) m) ∙ (ap (after_these front) (sym made) ∙ now))

err_on : {A B : Type 0} (s : ElfFault) (r : Result A ElfFault) (f : A → Result B ElfFault) → r ≡ Err s → (r >>= f) ≡ Err s
err_on s r f h = rw h refl

pub fails_on : {A B : Type 0} (e : ElfError) (r : Result A ElfFault) (f : A → Result B ElfFault) → Fails e r → Fails e (r >>= f)
fails_on (errors.Fault s) r f h = err_on s r f h
fails_on errors.NoMemory r f h = tt

-- one header that fails
pub segments_fail : (bytes : List ℕ) (at k n m : ℕ) (front : List Placed) (all : Result (List Placed) ElfFault) (e : ElfError) → n ≡ suc m → Fails e (segment_of bytes at k) → after_these front (segments_of bytes at k n) ≡ all → Fails e all
unfolding segments_of
segments_fail bytes at k n m front all e eq h kept =
    let now : after_these front (segments_of bytes at k (suc m)) ≡ all = rw eq at kept in
    let made : Fails e (segments_of bytes at k (suc m)) = fails_on e (segment_of bytes at k) (λ first. segments_of bytes (at + 56) (k + 1) m >>= λ more. Ok (option_to_list first ++ more)) h in
    subst (Fails e) now (fails_on e (segments_of bytes at k (suc m)) (λ more. Ok (front ++ more)) made)

pub segments_done : (bytes : List ℕ) (at k n : ℕ) (front : List Placed) (all : Result (List Placed) ElfFault) → n ≡ 0 → after_these front (segments_of bytes at k n) ≡ all → all ≡ Ok front
unfolding segments_of
segments_done bytes at k n front all e kept =
    let now : after_these front (segments_of bytes at k 0) ≡ all = rw e at kept in sym now ∙ ap (λ xs. Ok xs) (append-nil front)

-- one segment more that shares no page with those before it
pub apart_more : (before rest more : List Placed) (s : Placed) → rest ≡ s ∷ more → find (λ t. shares_page t s) before ≡ None → apart (before ++ s ∷ []) more ≡ apart before rest
unfolding apart
apart_more before rest more s e h =
    let step : apart before (s ∷ more) ≡ apart (before ++ s ∷ []) more = rw h refl in
    sym step ∙ ap (apart before) (sym e)

pub apart_fails : (before rest more : List Placed) (s t : Placed) → rest ≡ s ∷ more → find (λ u. shares_page u s) before ≡ Some t → apart before rest ≡ or_overlap (Some t) s (apart (before ++ s ∷ []) more)
unfolding apart
apart_fails before rest more s t e h =
    let step : apart before (s ∷ more) ≡ or_overlap (Some t) s (apart (before ++ s ∷ []) more) = rw h refl in
    ap (apart before) e ∙ step

pub apart_done : (before : List Placed) → apart before [] ≡ Ok before
unfolding apart
apart_done before = refl

-- one element off the rest
pub cut_more : (xs : List Placed) (i : ℕ) (s : Placed) (more : List Placed) → drop i xs ≡ s ∷ more → (take (suc i) xs ≡ take i xs ++ s ∷ []) × (drop (suc i) xs ≡ more)
cut_more [] zero s more e = cc
cut_more [] (suc i) s more e = cc
cut_more (x ∷ xs) zero s more e = (cc, cc)
cut_more (x ∷ xs) (suc i) s more e = let h = cut_more xs i s more e in (ap (λ ys. x ∷ ys) h.0, h.1)

pub all_taken : (xs : List Placed) (i : ℕ) → length xs ≤ i → (take i xs ≡ xs) × (drop i xs ≡ [])
all_taken [] zero h = (refl, refl)
all_taken [] (suc i) h = (refl, refl)
all_taken (x ∷ xs) zero h = absurd (omega arith)
all_taken (x ∷ xs) (suc i) h = let r = all_taken xs i (omega arith) in (ap (λ ys. x ∷ ys) r.0, r.1)

-- the check of the segments, one further
pub apart_kept : (xs : List Placed) (i : ℕ) (s : Placed) (more : List Placed) (all : Result (List Placed) ElfFault) → drop i xs ≡ s ∷ more → find (λ t. shares_page t s) (take i xs) ≡ None → apart (take i xs) (drop i xs) ≡ all → apart (take (i + 1) xs) (drop (i + 1) xs) ≡ all
apart_kept xs i s more all e f kept =
    let c = cut_more xs i s more e in
    rw (add-one, c.0, c.1) (apart_more (take i xs) (drop i xs) more s e f ∙ kept)

pub apart_all : (xs : List Placed) (i : ℕ) (all : Result (List Placed) ElfFault) → length xs ≤ i → apart (take i xs) (drop i xs) ≡ all → all ≡ Ok xs
apart_all xs i all h kept =
    let t = all_taken xs i h in
    let now : apart xs [] ≡ all = subst (λ ys. apart ys [] ≡ all) t.0 (subst (λ ys. apart (take i xs) ys ≡ all) t.1 kept) in
    sym now ∙ apart_done xs

pub length_found : {X : Type 0} (o : Option X) → length (option_to_list o) ≤ 1
length_found None = omega arith
length_found (Some x) = omega arith

pub gives_err : {X A : Type 0} (view : X → A) (r : Result X ElfError) (found : Result A ElfFault) (e : ElfError) → r ≡ Err e → Fails e found → Gives view r found
gives_err view r found e h f = rw h f

pub All_found : (P : Placed → Type 0) (front : List Placed) (o : Option Placed) → All P front → IfSome o P → All P (front ++ option_to_list o)
All_found P front None a h = subst (All P) (sym (append-nil front)) a
All_found P front (Some x) a h = All-push P front x a h

pub find_skip : (p : Placed → Bool) (rest more : List Placed) (s : Placed) (all : Option Placed) → rest ≡ s ∷ more → p s ≡ false → find p rest ≡ all → find p more ≡ all
find_skip p rest more s all e h kept =
    let now : find p (s ∷ more) ≡ all = rw e at kept in
    let step : find p (s ∷ more) ≡ find p more = rw h refl in
    sym step ∙ now
