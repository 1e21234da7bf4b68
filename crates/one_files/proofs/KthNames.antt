-- The names in a directory, in the order of bytes and by their nodes' numbers.
use Rattle.file_model.specs.Files.{Inode, Name}
use Rattle.file_model.specs.Paths.{bytes_before, name_in}
use Rattle.mck_word.specs.Lists.{sorted_by}
use Rattle.one_files.proofs.Sorting.{get-within, kth, kth-found, length-sorted, passing}
use Rattle.one_files.specs.Named.{is_kth, name_below, names_by_number, some_name}
use Rattle.one_files.specs.Slotted.{passes}
use Rattle.std.proofs.Common.{◌≡◌, ◌≤◌, ◌<◌, ◌+◌, ◌∙◌, ℕ, suc, Bool, true, false, cond, not, List, [], ◌∷◌, Option, Some, None, ap, arith, length, refl, sym}
use Rattle.std.proofs.lemmas.Bool.{lt-ltb, true≢false}
use Rattle.std.specs.Cmp.Lexicographic.{nat_list_cmp_total, slice_cmp}
use Rattle.std.specs.FinMap.{nat_cmp-IsAntisymmetric, slice_cmp-IsAntisymmetric}
use Rattle.std.specs.List.{cons_option, filter_map, slice_get}
use Rattle.std.specs.Ordering.{is_lt, nat_cmp, ordering_reverse}
use Rattle.std.specs.Prelude.{find, fold, is_some, nat_le, nat_lt, ◌&&◌, ◌||◌}
use Rattle.std.specs.declared.cmp.Ordering.TheVariants.{Equal, Greater, Less}
use Rattle.std.specs.declared.cmp.Ordering.{Ordering}

-- the order of bytes is one
lower : (o : Ordering) → is_lt o ≡ true → o ≡ Less
lower Less h = refl
lower Equal h = absurd (true≢false (sym h))
lower Greater h = absurd (true≢false (sym h))

turn : (a b : Name) → slice_cmp nat_cmp b a ≡ ordering_reverse (slice_cmp nat_cmp a b)
turn a b = nat_list_cmp_total.antisymm b a

asym : (a b : Name) → bytes_before a b ≡ true → bytes_before b a ≡ false
asym a b h = ap is_lt (turn a b ∙ ap ordering_reverse (lower _ h))

trans : (a b c : Name) → bytes_before a b ≡ true → bytes_before b c ≡ true → bytes_before a c ≡ true
trans a b c h g = ap is_lt (nat_list_cmp_total.trans a b c (lower _ h) (lower _ g))

same : (a b : Name) → bytes_before a b ≡ false → bytes_before b a ≡ false → a ≡ b
same a b h g = go (slice_cmp nat_cmp a b) refl
  where
    go : (o : Ordering) → slice_cmp nat_cmp a b ≡ o → a ≡ b
    go Less e = absurd (true≢false (sym (ap is_lt e) ∙ h))
    go Equal e = slice_cmp-IsAntisymmetric nat_cmp-IsAntisymmetric a b e
    go Greater e = absurd (true≢false (sym (ap is_lt (turn a b ∙ ap ordering_reverse e)) ∙ g))

-- a count of rows by their names is one of the names
counted : (p : Name → Bool) (d n : ℕ) (es : List (ℕ × Inode)) → fold (λ a (e : ℕ × Inode). a + cond (passes p (name_below d e.1)) 1 0) n es ≡ n + passing p (filter_map (name_in d) es)
counted p d n [] = omega arith
counted p d n (e ∷ es) = go (name_below d e.1) (λ m. counted p d m es)
  where
    go : (o : Option Name) → ((m : ℕ) → fold (λ a (e : ℕ × Inode). a + cond (passes p (name_below d e.1)) 1 0) m es ≡ m + passing p (filter_map (name_in d) es))
        → fold (λ a (e : ℕ × Inode). a + cond (passes p (name_below d e.1)) 1 0) (n + cond (passes p o) 1 0) es ≡ n + passing p (cons_option o (filter_map (name_in d) es))
    go None rest = rest (n + 0) ∙ omega arith
    go (Some x) rest = by_test (p x)
      where
        by_test : (b : Bool) → fold (λ a (e : ℕ × Inode). a + cond (passes p (name_below d e.1)) 1 0) (n + cond b 1 0) es ≡ n + cond b (suc (passing p (filter_map (name_in d) es))) (passing p (filter_map (name_in d) es))
        by_test true = rest (n + 1) ∙ omega arith
        by_test false = rest (n + 0) ∙ omega arith

counted-all : (p : Name → Bool) (d : ℕ) (es : List (ℕ × Inode)) → fold (λ a (e : ℕ × Inode). a + cond (passes p (name_below d e.1)) 1 0) 0 es ≡ passing p (names_by_number es d)
counted-all p d es = counted p d 0 es ∙ (let e : 0 + passing p (names_by_number es d) ≡ passing p (names_by_number es d) = omega arith in e)

find-same : {A : Type 0} (p q : A → Bool) → ((x : A) → p x ≡ q x) → (xs : List A) → find p xs ≡ find q xs
find-same p q h [] = refl
find-same p q h (x ∷ xs) = λ i. cond (h x i) (Some x) (find-same p q h xs i)

-- the first name that has so many before it is the k-th
pub kth-name : (es : List (ℕ × Inode)) (d k : ℕ) → find (is_kth es d k) (names_by_number es d) ≡ slice_get (sorted_by bytes_before (filter_map (name_in d) es)) k
kth-name es d k =
    find-same (is_kth es d k) (kth bytes_before asym trans same (names_by_number es d) k)
    (λ x i. nat_le (counted-all (λ n. bytes_before n x) d es i) k && nat_lt k (counted-all (λ n. not (bytes_before x n)) d es i)) (names_by_number es d)
    ∙ kth-found bytes_before asym trans same (names_by_number es d) k

length-names : (d : ℕ) (es : List (ℕ × Inode)) → length (filter_map (name_in d) es) ≤ length es
length-names d [] = omega arith
length-names d (e ∷ es) =
    let rest = length-names d es in
    elim (name_below d e.1) as (λ o. length (cons_option o (filter_map (name_in d) es)) ≤ suc (length es)) [ None ↦ omega arith | Some x ↦ omega arith ]

-- a k-th name is one of so many
pub kth-few : (es : List (ℕ × Inode)) (d k most : ℕ) → length es ≤ most → is_some (slice_get (sorted_by bytes_before (filter_map (name_in d) es)) k) ≡ true → k < most
kth-few es d k most h s =
    let within = get-within (sorted_by bytes_before (filter_map (name_in d) es)) k s in
    let whole = length-sorted bytes_before (filter_map (name_in d) es) in
    let few = length-names d es in
    omega arith

-- there is a name where some node has one
pub some-names : (es : List (ℕ × Inode)) (d : ℕ) → some_name es d ≡ nat_lt 0 (length (sorted_by bytes_before (filter_map (name_in d) es)))
some-names es d = by_rows es ∙ ap (nat_lt 0) (sym (length-sorted bytes_before (filter_map (name_in d) es)))
  where
    by_rows : (es : List (ℕ × Inode)) → some_name es d ≡ nat_lt 0 (length (filter_map (name_in d) es))
    by_rows [] = refl
    by_rows (e ∷ es) = elim (name_below d e.1) as (λ o. (is_some o || some_name es d) ≡ nat_lt 0 (length (cons_option o (filter_map (name_in d) es)))) [
      | None ↦ by_rows es
      | Some x ↦ sym (lt-ltb 0 (suc (length (filter_map (name_in d) es))) (omega arith))
    ]
