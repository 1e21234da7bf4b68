-- The entries of a directory, one after another.
use Rattle.file_calls.specs.Placed.{Gives, IsFilled, fitting, len_said, placed}
use Rattle.file_calls.specs.declared.entries.Filled.{Filled}
use Rattle.file_model.specs.Acts.{all_records, entry_record, entry_records, joined, list_node, list_records, records_that_fit}
use Rattle.file_model.specs.Errno.{EINVAL, ENOENT, ENOTDIR}
use Rattle.file_model.specs.Files.{Files, Name, description_of, node_of, set_offset}
use Rattle.file_model.specs.Operations.{FileResult, fails}
use Rattle.file_model.specs.Paths.{is_unlinked, names_in}
use Rattle.mck_word.specs.Words.{refused}
use Rattle.std.proofs.Common.{◌≡◌, ◌+◌, ◌-◌, ◌<◌, ◌≤◌, ℕ, zero, suc, Bool, true, false, cond, not, min, List, [], ◌∷◌, ◌++◌, length, drop, refl, sym, ap, subst, ◌∙◌, arith, length-append, append_assoc}
use Rattle.std.proofs.lemmas.Bool.{lt-leb, le-leb, lt-ltb}
use Rattle.std.proofs.lemmas.Bool.Decides.{nat_tests}
use Rattle.std.proofs.Math.Seq.{drop-drop}
use Rattle.std.specs.Prelude.{◌&&◌, ◌==◌, Option, None, Some, is_some, nat_lt, option_map, slice_get, ℤ, pos}

records-name : (files : Files) (here place k : ℕ) (names : List Name)
    → slice_get (entry_records files here place names) k ≡ option_map (λ name. entry_record files here (place + k + 1) name) (slice_get names k)
records-name files here place k [] = refl
records-name files here place zero (name ∷ names) =
    let e : place + 1 ≡ place + 0 + 1 = omega arith in ap (λ p. Some (entry_record files here p name)) e
records-name files here place (suc k) (name ∷ names) =
    let e : place + 1 + k + 1 ≡ place + suc k + 1 = omega arith in
    records-name files here (place + 1) k names ∙ ap (λ p. option_map (λ name. entry_record files here p name) (slice_get names k)) e

-- the records behind the first two are those of the names
pub all-names : (files : Files) (here place k : ℕ) → place ≡ suc (suc k)
    → slice_get (all_records files here) place ≡ option_map (λ name. entry_record files here (place + 1) name) (slice_get (names_in files here) k)
all-names files here place k is =
    let e : 2 + k + 1 ≡ place + 1 = omega arith in
    ap (slice_get (all_records files here)) is ∙ records-name files here 2 k (names_in files here)
    ∙ ap (λ p. option_map (λ name. entry_record files here p name) (slice_get (names_in files here) k)) e

-- ---- the records that fit

drop-none : (xs : List (List ℕ)) (k : ℕ) → slice_get xs k ≡ None → drop k xs ≡ []
drop-none [] zero e = refl
drop-none [] (suc k) e = refl
drop-none (x ∷ xs) zero e = cc
drop-none (x ∷ xs) (suc k) e = drop-none xs k e

drop-some : (xs : List (List ℕ)) (k : ℕ) (r : List ℕ) → slice_get xs k ≡ Some r → drop k xs ≡ r ∷ drop (suc k) xs
drop-some [] k r e = cc
drop-some (x ∷ xs) zero r e = ap (λ (y : List ℕ). y ∷ xs) (cc)
drop-some (x ∷ xs) (suc k) r e = drop-some xs k r e

pub fit-none : (files : Files) (here place most : ℕ) → slice_get (all_records files here) place ≡ None → fitting files here place most ≡ []
unfolding fitting
fit-none files here place most e = ap (records_that_fit most) (drop-none (all_records files here) place e)

pub fit-short : (files : Files) (here place most : ℕ) (r : List ℕ) → slice_get (all_records files here) place ≡ Some r → most < length r → fitting files here place most ≡ []
unfolding fitting
fit-short files here place most r e l =
    ap (records_that_fit most) (drop-some (all_records files here) place r e)
    ∙ ap (λ v. cond v (r ∷ records_that_fit (most - length r) (drop (suc place) (all_records files here))) []) (lt-leb (length r) most l)

pub fit-more : (files : Files) (here place next most left : ℕ) (r : List ℕ) → slice_get (all_records files here) place ≡ Some r → length r ≤ most → next ≡ place + 1 → left ≡ most - length r
    → fitting files here place most ≡ r ∷ fitting files here next left
unfolding fitting
fit-more files here place next most left r e l n m =
    ap (records_that_fit most) (drop-some (all_records files here) place r e)
    ∙ ap (λ v. cond v (r ∷ records_that_fit (most - length r) (drop (suc place) (all_records files here))) []) (le-leb (length r) most l)
    ∙ (let p : suc place ≡ next = omega arith in λ i. r ∷ records_that_fit (sym m i) (drop (p i) (all_records files here)))

pub none-filled : (rs : List (List ℕ)) (before : List ℕ) → rs ≡ [] → IsFilled rs (record { entries = 0; bytes = 0 }) before before
none-filled rs before e = subst (λ rs. IsFilled rs (record { entries = 0; bytes = 0 }) before before) (sym e) (record { entries = refl; bytes = refl; fills = refl })

pub one-filled : (all rs : List (List ℕ)) (r before rest after : List ℕ) (f : Filled) → all ≡ r ∷ rs → rest ≡ drop (length r) before → IsFilled rs f rest after
    → IsFilled all (record { entries = f.entries + 1; bytes = f.bytes + length r }) before (r ++ after)
one-filled all rs r before rest after f e d h = subst (λ rs. IsFilled rs (record { entries = f.entries + 1; bytes = f.bytes + length r }) before (r ++ after)) (sym e)
    (record {
      entries = omega (arith, h.entries);
      bytes = omega (arith, h.bytes, length-append r (joined rs));
      fills = ap (λ (xs : List ℕ). r ++ xs) (h.fills ∙ ap (λ (xs : List ℕ). joined rs ++ drop (length (joined rs)) xs) d)
          ∙ ap (λ (xs : List ℕ). r ++ (joined rs ++ xs)) (drop-drop (length (joined rs)) (length r) before ∙ ap (λ k. drop k before) (sym (length-append r (joined rs))))
          ∙ sym (append_assoc r (joined rs) (drop (length (r ++ joined rs)) before));
    })

pub has-entry : (xs : List (List ℕ)) (k : ℕ) → is_some (slice_get xs k) ≡ nat_lt 0 (length (drop k xs))
has-entry [] zero = refl
has-entry [] (suc k) = refl
has-entry (x ∷ xs) zero = sym (lt-ltb 0 (suc (length xs)) (omega arith))
has-entry (x ∷ xs) (suc k) = has-entry xs k

pub is_some-map : {X Y : Type 0} (f : X → Y) (o : Option X) → is_some (option_map f o) ≡ is_some o
is_some-map f None = refl
is_some-map f (Some x) = refl

abbrev listed : Files → ℕ → List (List ℕ) → FileResult
listed files d fit = record { answer = pos (length (joined fit)); out = joined fit; files = set_offset d ((description_of files d).offset + length fit) files }

pub list-is : (files : Files) (d most node len : ℕ) → (node_of files node).directory ≡ true → is_unlinked node (node_of files node).name ≡ false → len ≡ min most 65_536
    → let place = (description_of files d).offset in let fit = fitting files node place len in
    list_node files d most node ≡ cond (nat_lt 0 (length (drop place (all_records files node))) && length fit == 0) (fails EINVAL files) (listed files d fit)
unfolding fitting
list-is files d most node len dir name is =
    let left = drop (description_of files d).offset (all_records files node) in
    (λ i. cond (not (dir i)) (fails ENOTDIR files) (cond (name i) (fails ENOENT files) (list_records files d most left)))
    ∙ ap (λ (m : ℕ). let fit = records_that_fit m left in cond (nat_lt 0 (length left) && length fit == 0) (fails EINVAL files) (listed files d fit)) (sym is)

no_records : (rs : List (List ℕ)) → length rs ≡ 0 → joined rs ≡ []
no_records [] e = refl
no_records (r ∷ rs) e = absurd (omega (arith, e))

both : (a b : Bool) → (a && b) ≡ true → b ≡ true
both true b e = e
both false b e = cc

pub list-stuck : (files : Files) (d most node len : ℕ) (f : Filled) (before after : List ℕ) (value : ℤ) → (node_of files node).directory ≡ true → is_unlinked node (node_of files node).name ≡ false → len ≡ min most 65_536
    → IsFilled (fitting files node (description_of files d).offset len) f before after
    → (nat_lt 0 (length (drop (description_of files d).offset (all_records files node))) && f.entries == 0) ≡ true → value ≡ refused EINVAL
    → Gives (list_node files d most node) value (len_said value) before after files
list-stuck files d most node len f before after value dir name is h stuck v =
    let fit = fitting files node (description_of files d).offset len in
    let test = nat_lt 0 (length (drop (description_of files d).offset (all_records files node))) in
    let none : length fit ≡ 0 = sym h.entries ∙ grind (arith, nat_tests, both test (f.entries == 0) stuck) in
    subst (λ (r : FileResult). Gives r value (len_said value) before after files)
    (sym (list-is files d most node len dir name is ∙ ap (λ k. cond (test && k == 0) (fails EINVAL files) (listed files d fit)) (sym h.entries) ∙ ap (λ b. cond b (fails EINVAL files) (listed files d fit)) stuck))
    (record { answers = v; gives = sym (ap len_said v); fills = h.fills ∙ ap (λ (xs : List ℕ). placed xs before) (no_records fit none); leaves = refl })

pub list-filled : (files left : Files) (d most node len : ℕ) (f : Filled) (before after : List ℕ) → (node_of files node).directory ≡ true → is_unlinked node (node_of files node).name ≡ false → len ≡ min most 65_536
    → IsFilled (fitting files node (description_of files d).offset len) f before after
    → (nat_lt 0 (length (drop (description_of files d).offset (all_records files node))) && f.entries == 0) ≡ false
    → left ≡ set_offset d ((description_of files d).offset + f.entries) files
    → Gives (list_node files d most node) (pos f.bytes) f.bytes before after left
list-filled files left d most node len f before after dir name is h stuck l =
    let fit = fitting files node (description_of files d).offset len in
    let test = nat_lt 0 (length (drop (description_of files d).offset (all_records files node))) in
    subst (λ (r : FileResult). Gives r (pos f.bytes) f.bytes before after left)
    (sym (list-is files d most node len dir name is ∙ ap (λ k. cond (test && k == 0) (fails EINVAL files) (listed files d fit)) (sym h.entries) ∙ ap (λ b. cond b (fails EINVAL files) (listed files d fit)) stuck))
    (record { answers = ap pos h.bytes; gives = sym h.bytes; fills = h.fills; leaves = l ∙ ap (λ k. set_offset d ((description_of files d).offset + k) files) h.entries })
