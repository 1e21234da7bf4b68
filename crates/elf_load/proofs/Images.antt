-- What an image keeps of its segments.
use Rattle.std.proofs.Common.{◌≡◌, ℕ, zero, suc, ◌+◌, ◌*◌, ◌/◌, ◌%◌, ◌<◌, ◌≤◌, ◌==◌, ◌&&◌, ◌||◌, cond, List, [], ◌∷◌, ◌++◌, length, find, map, Option, Some, None, Result, Ok, Bool, true, false, All, AllPairs, Any, refl, sym, ◌∙◌, ap, subst, arith, get_or, nat_le, nat_lt, Fits, w8, if◌then◌else◌}
use Rattle.std.specs.List.{list_any}
use Rattle.std.proofs.lemmas.Bool.Decides.{nat_tests}
use Rattle.std.proofs.lemmas.List.{get_or-map, length-map, length-take}
use Rattle.std.proofs.lemmas.List.Elements.{All-map}
use Rattle.std.proofs.lemmas.List.Folds.{Any-from_list_any}
use Rattle.std.proofs.lemmas.List.Quantifiers.{all_pairs_push}
use Rattle.mck_flags.specs.Rights.{includes}
use Rattle.job_model.specs.declared.image.Segment.{Segment}
use Rattle.elf_load.specs.declared.fault.ElfFault.{ElfFault}
use Rattle.elf_load.specs.declared.placed.Placed.{Placed}
use Rattle.elf_load.specs.Profile.{shares_page, or_overlap, apart, segment_from, is_entry, rights_of, has_entry}
use Rattle.elf_load.specs.Kept.{IsInside, AreApart, AreBytes}
use Rattle.job_model.specs.Images.{AreRights, IsSegment, SharesNoPage, RunsAt}

rights_kept_at : (read : Bool) (write exec : ℕ) → write < 2 → exec < 2 → (write ≡ 1 → read ≡ true) → AreRights (record { 0 = (if read then 1 else 0) + 2 * write + 4 * exec })
rights_kept_at true zero zero w e h = record { known = omega arith; readable = λ t. refl }
rights_kept_at true zero (suc zero) w e h = record { known = omega arith; readable = λ t. refl }
rights_kept_at true (suc zero) zero w e h = record { known = omega arith; readable = λ t. refl }
rights_kept_at true (suc zero) (suc zero) w e h = record { known = omega arith; readable = λ t. refl }
rights_kept_at false zero zero w e h = record { known = omega arith; readable = λ t. cc }
rights_kept_at false zero (suc zero) w e h = record { known = omega arith; readable = λ t. cc }
rights_kept_at false (suc zero) exec w e h = let no : false ≡ true = h refl in cc
rights_kept_at read (suc (suc write)) exec w e h = absurd (omega arith)
rights_kept_at read write (suc (suc exec)) w e h = absurd (omega arith)

either_true : (b : Bool) (n : ℕ) → n ≡ 1 → (b || n == 1) ≡ true
either_true true n h = refl
either_true false n h = rw h refl

pub rights_kept : (flags : ℕ) → AreRights (rights_of flags)
rights_kept flags = rights_kept_at (flags / 4 % 2 == 1 || flags / 2 % 2 == 1) (flags / 2 % 2) (flags % 2) (omega arith) (omega arith) (either_true (flags / 4 % 2 == 1) (flags / 2 % 2))

-- ---- segments

segment_kept : (bytes : List ℕ) (s : Placed) → IsInside (length bytes) s → IsSegment (segment_from bytes s)
segment_kept bytes s h =
    record { low = h.low; range = h.range; some = h.some; whole = simp length-take (omega (arith, h.whole)); rights = h.rights }

pub segments_kept : (bytes : List ℕ) (placed : List Placed) → All (IsInside (length bytes)) placed → All IsSegment (map (segment_from bytes) placed)
segments_kept bytes placed h = All-map IsSegment (segment_from bytes) placed (λ k d i. segment_kept bytes (get_or placed k d) (h k d i))

-- ---- pages

none_here : (b : Bool) (x : Placed) (rest : Option Placed) → cond b (Some x) rest ≡ None → (b ≡ false) × (rest ≡ None)
none_here true x rest h = cc
none_here false x rest h = (refl, h)

find_none : (p : Placed → Bool) (xs : List Placed) → find p xs ≡ None → (k : ℕ) (d : Placed) → k < length xs → p (get_or xs k d) ≡ false
find_none p [] h k d i = absurd (omega arith)
find_none p (x ∷ xs) h zero d i = (none_here (p x) x (find p xs) h).0
find_none p (x ∷ xs) h (suc k) d i = find_none p xs (none_here (p x) x (find p xs) h).1 k d (omega arith)

no_overlap : (o : Option Placed) (s : Placed) (r : Result (List Placed) ElfFault) (all : List Placed) → or_overlap o s r ≡ Ok all → (o ≡ None) × (r ≡ Ok all)
no_overlap None s r all h = (refl, h)
no_overlap (Some t) s r all h = cc

same_ok : (xs ys : List Placed) → (let left : Result (List Placed) ElfFault = Ok xs in left) ≡ Ok ys → xs ≡ ys
same_ok xs ys h = cc

pub apart_pairs : (before rest all : List Placed) → apart before rest ≡ Ok all → AreApart before → AreApart all
unfolding apart
apart_pairs before [] all h a = subst AreApart (same_ok before all h) a
apart_pairs before (s ∷ ss) all h a =
    let split = no_overlap (find (λ t. shares_page t s) before) s (apart (before ++ s ∷ []) ss) all h in
    apart_pairs (before ++ s ∷ []) ss all split.1
    (all_pairs_push (λ x y. shares_page x y ≡ false) before s a (λ k d i. find_none (λ t. shares_page t s) before split.0 k d i))

shares_none : (bytes : List ℕ) (s t : Placed) → shares_page s t ≡ false → SharesNoPage (segment_from bytes s) (segment_from bytes t)
shares_none bytes s t h begins = grind (arith, nat_tests)

apart_places : (bytes : List ℕ) (xs : List Placed) (p : Placed) → AreApart xs → (i j : ℕ) (d : Segment) → i < j → j < length (map (segment_from bytes) xs) → SharesNoPage (get_or (map (segment_from bytes) xs) i d) (get_or (map (segment_from bytes) xs) j d)
apart_places bytes xs p a i j d below within =
    let last : j < length xs = omega (arith, length-map xs (segment_from bytes)) in
    let at_i : get_or (map (segment_from bytes) xs) i d ≡ segment_from bytes (get_or xs i p) = get_or-map (segment_from bytes) xs i p d (omega arith) in
    let at_j : get_or (map (segment_from bytes) xs) j d ≡ segment_from bytes (get_or xs j p) = get_or-map (segment_from bytes) xs j p d last in
    subst (λ s. SharesNoPage s (get_or (map (segment_from bytes) xs) j d)) (sym at_i)
    (subst (λ t. SharesNoPage (segment_from bytes (get_or xs i p)) t) (sym at_j) (shares_none bytes (get_or xs i p) (get_or xs j p) (a i j p below last)))

pub apart_images : (bytes : List ℕ) (placed : List Placed) → AreApart placed → AllPairs SharesNoPage (map (segment_from bytes) placed)
apart_images bytes [] a i j d below within = absurd (omega arith)
apart_images bytes (p ∷ ps) a i j d below within = apart_places bytes (p ∷ ps) p a i j d below within

pub none_apart : AreApart []
none_apart i j d below within = absurd (omega arith)

-- ---- the entry

both : (b c : Bool) → (b && c) ≡ true → (b ≡ true) × (c ≡ true)
both true c h = (refl, h)
both false c h = cc

entry_from : (bytes : List ℕ) (entry : ℕ) (s : Placed) → is_entry entry s ≡ true → RunsAt entry (segment_from bytes s)
entry_from bytes entry s h =
    let e = both (includes s.rights 4) (nat_le s.addr entry && nat_lt entry (s.addr + s.mem)) h in
    let r = both (nat_le s.addr entry) (nat_lt entry (s.addr + s.mem)) e.1 in
    let low : s.addr ≤ entry = grind (arith, nat_tests, r.0) in
    let high : entry < s.addr + s.mem = grind (arith, nat_tests, r.1) in
    (e.0, low, high)

any_map : (bytes : List ℕ) (entry : ℕ) (xs : List Placed) → Any (λ s. is_entry entry s ≡ true) xs → Any (RunsAt entry) (map (segment_from bytes) xs)
any_map bytes entry xs (k, s, within, here, runs) = (
  k,
  segment_from bytes s,
  omega (arith, length-map xs (segment_from bytes)),
  get_or-map (segment_from bytes) xs k s (segment_from bytes s) within ∙ ap (segment_from bytes) here,
  entry_from bytes entry s runs,
)

pub entry_kept : (bytes : List ℕ) (entry : ℕ) (xs : List Placed) → has_entry entry xs ≡ true → (entry % 4 ≡ 0) × Any (RunsAt entry) (map (segment_from bytes) xs)
entry_kept bytes entry xs h =
    let e = both (entry % 4 == 0) (list_any (is_entry entry) xs) h in
    let aligned : entry % 4 ≡ 0 = grind (arith, nat_tests, e.0) in
    (aligned, any_map bytes entry xs (Any-from_list_any (is_entry entry) xs e.1))

-- ---- bytes

pub bytes_fit : (xs : List ℕ) → ((i : ℕ) → Fits w8 (get_or xs i 0)) → AreBytes xs
bytes_fit [] h k d i = absurd (omega arith)
bytes_fit (x ∷ xs) h zero d i = let here : Fits w8 x = h 0 in omega (arith, here)
bytes_fit (x ∷ xs) h (suc k) d i = bytes_fit xs (λ j. h (suc j)) k d (omega arith)
