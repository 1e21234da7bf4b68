-- The pages of a guest at the boot, one after another.
use Rattle.isa_model.specs.Memory.{Memory, Page, lacks, lacks_in, put_byte, write_bytes}
use Rattle.job_model.specs.declared.image.Segment.{Segment}
use Rattle.kernel_model.specs.Layout.{add_stack, add_trampoline, page_with, segment_page}
use Rattle.kernel_model.specs.MemoryCalls.{rights_of_prot}
use Rattle.kernel_model.specs.Pages.{zero_page}
use Rattle.mck_flags.specs.declared.rights.Rights.{Rights}
use Rattle.mck_word.specs.Lists.{count_from}
use Rattle.mck_word.specs.MapLaws.{at-put}
use Rattle.mck_word.specs.Maps.{at, change_row, put}
use Rattle.mck_word.specs.declared.Access.{Access}
use Rattle.mck_word.specs.declared.Access.TheVariants.{Write}
use Rattle.one_memory.specs.Pages.{written}
use Rattle.std.proofs.Common.{ap, append_assoc, arith, inl, inr, refl, subst, sym, ◌∙◌}
use Rattle.std.proofs.lemmas.Bool.{cases_eq, eq-eqb, ne_eqb}
use Rattle.std.proofs.lemmas.List.{drop-replicate, length-drop, length-take, take-replicate}
use Rattle.std.specs.Prelude.{All, List, None, Option, Some, [], ◌∷◌, ◌++◌, cond, drop, false, fold, length, min, replicate, slice_set, suc, take, zero, ℕ, ◌%◌, ◌*◌, ◌+◌, ◌-◌, ◌/◌, ◌<◌, ◌≡◌, ◌≤◌}

-- ---- the bytes of one page

drop-min : (d : ℕ) (xs : List ℕ) → drop (min d (length xs)) xs ≡ drop d xs
drop-min zero [] = refl
drop-min (suc d) [] = let e : min (suc d) 0 ≡ 0 = omega arith in ap (λ k. drop {A = ℕ} k []) e
drop-min zero (x ∷ xs) = let e : min 0 (suc (length xs)) ≡ 0 = omega arith in ap (λ k. drop k (x ∷ xs)) e
drop-min (suc d) (x ∷ xs) = let e : min (suc d) (suc (length xs)) ≡ suc (min d (length xs)) = omega arith in ap (λ k. drop k (x ∷ xs)) e ∙ drop-min d xs

take-min : (j : ℕ) (xs : List ℕ) → take (min (length xs) j) xs ≡ take j xs
take-min zero xs = let e : min (length xs) 0 ≡ 0 = omega arith in ap (λ k. take k xs) e
take-min (suc j) [] = let e : min 0 (suc j) ≡ 0 = omega arith in ap (λ k. take {A = ℕ} k []) e
take-min (suc j) (x ∷ xs) = let e : min (suc (length xs)) (suc j) ≡ suc (min (length xs) j) = omega arith in ap (λ k. take k (x ∷ xs)) e ∙ ap (λ ys. x ∷ ys) (take-min j xs)

take-zero : (xs : List ℕ) → take 0 xs ≡ []
take-zero [] = refl
take-zero (x ∷ xs) = refl

take-zeros : (n k : ℕ) (xs : List ℕ) → take n (replicate k 0 ++ xs) ≡ replicate (min k n) 0 ++ take (n - k) xs
take-zeros n zero xs =
    let e : min 0 n ≡ 0 = omega arith in
    let f : n - 0 ≡ n = omega arith in
    sym ((λ i. replicate (e i) 0 ++ take (f i) xs))
take-zeros zero (suc k) xs =
    let e : min (suc k) 0 ≡ 0 = omega arith in
    let f : 0 - suc k ≡ 0 = omega arith in
    sym ((λ i. replicate (e i) 0 ++ take (f i) xs) ∙ take-zero xs)
take-zeros (suc n) (suc k) xs =
    let e : min (suc k) (suc n) ≡ suc (min k n) = omega arith in
    let f : suc n - suc k ≡ n - k = omega arith in
    ap (λ ys. 0 ∷ ys) (take-zeros n k xs) ∙ sym ((λ i. replicate (e i) 0 ++ take (f i) xs))

take-padded : (n : ℕ) (xs : List ℕ) (m : ℕ) → n ≤ m → take n (xs ++ replicate m 0) ≡ take n xs ++ replicate (n - length xs) 0
take-padded zero xs m l =
    let e : 0 - length xs ≡ 0 = omega arith in
    take-zero (xs ++ replicate m 0) ∙ sym ((λ i. take-zero xs i ++ replicate (e i) 0))
take-padded (suc n) [] m l =
    let e : suc n ≡ suc n - 0 = omega arith in
    take-replicate {X = ℕ} (suc n) m 0 l ∙ ap (λ k. replicate {A = ℕ} k 0) e
take-padded (suc n) (x ∷ xs) m l =
    let e : n - length xs ≡ suc n - suc (length xs) = omega arith in
    ap (λ ys. x ∷ ys) (take-padded n xs m (omega arith) ∙ ap (λ k. take n xs ++ replicate k 0) e)

-- the bytes of a page of n bytes, k zeros first
page-bytes : (n k d : ℕ) (bytes : List ℕ) (off from len : ℕ) → off ≡ min k n → from ≡ min d (length bytes) → len ≡ min (length bytes - from) (n - off)
    → written (replicate n 0) off (take len (drop from bytes)) ≡ take n (replicate k 0 ++ drop d bytes ++ replicate n 0)
page-bytes n k d bytes off from len eo ef el =
    let ys = drop d bytes in
    let same : drop from bytes ≡ ys = ap (λ j. drop j bytes) ef ∙ drop-min d bytes in
    let long : length ys ≡ length bytes - d = length-drop d bytes in
    let short : len ≡ min (length ys) (n - k) = omega arith in
    let taken : take len (drop from bytes) ≡ take (n - k) ys = (λ i. take (short i) (same i)) ∙ take-min (n - k) ys in
    let many : length (take (n - k) ys) ≡ min (n - k) (length ys) = length-take (n - k) ys in
    let rest : n - (off + length (take (n - k) ys)) ≡ n - k - length ys = omega arith in
    let fits : off ≤ n = omega arith in
    let within : n - k ≤ n = omega arith in
    ap (written (replicate n 0) off) taken
    ∙ ((λ i. take-replicate off n 0 fits i ++ (take (n - k) ys ++ drop-replicate (off + length (take (n - k) ys)) n 0 i))
    ∙ ((λ i. replicate (eo i) 0 ++ (take (n - k) ys ++ replicate (rest i) 0))
    ∙ sym (ap (take n) (append_assoc (replicate k 0) ys (replicate n 0)) ∙ take-zeros n k (ys ++ replicate n 0) ∙ ap (λ zs. replicate (min k n) 0 ++ zs) (take-padded (n - k) ys n within))))

pub segment-bytes : (s : Segment) (page off from len : ℕ) → off ≡ min (s.addr - page * 4096) 4096 → from ≡ min (page * 4096 - s.addr) (length s.bytes) → len ≡ min (length s.bytes - from) (4096 - off)
    → written zero_page off (take len (drop from s.bytes)) ≡ segment_page s page
segment-bytes s page off from len eo ef el = page-bytes 4096 (s.addr - page * 4096) (page * 4096 - s.addr) s.bytes off from len eo ef el

-- ---- one page after another

abbrev pub with_pages : (ℕ → Page) → Memory → List ℕ → Memory
with_pages f m ps = fold (λ (n : Memory) page. put n page (f page)) m ps

abbrev pub content : Segment → ℕ → Page
content s p = page_with s.rights (segment_page s p)

-- the pages that are left after one more
pub pages-next : (f : ℕ → Page) (m w : Memory) (page hi : ℕ) (x : Page) → page < hi → w ≡ put m page x → x ≡ f page
    → with_pages f w (count_from (page + 1) (hi - (page + 1))) ≡ with_pages f m (count_from page (hi - page))
pages-next f m w page hi x l e is =
    let one : suc (hi - (page + 1)) ≡ hi - page = omega (arith, l) in
    ap (λ (n : Memory). with_pages f n (count_from (page + 1) (hi - (page + 1)))) (e ∙ ap (put m page) is)
    ∙ ap (λ k. with_pages f m (count_from page k)) one

-- no page is left
pub pages-end : (f : ℕ → Page) (m : Memory) (page hi : ℕ) → hi ≤ page → m ≡ with_pages f m (count_from page (hi - page))
pages-end f m page hi l = let none : 0 ≡ hi - page = omega (arith, l) in ap (λ k. with_pages f m (count_from page k)) none

pages-out : (f : ℕ → Page) (n lo : ℕ) (m : Memory) (p : ℕ) → p < lo → at (with_pages f m (count_from lo n)) p ≡ at m p
pages-out f zero lo m p l = refl
pages-out f (suc n) lo m p l =
    pages-out f n (lo + 1) (put m lo (f lo)) p (omega arith) ∙ (at-put m lo (f lo) p ∙ ap (λ b. cond b (Some (f lo)) (at m p)) (ne_eqb p lo (omega arith)))

pages-in : (f : ℕ → Page) (n lo : ℕ) (m : Memory) (p : ℕ) → lo ≤ p → p < lo + n → at (with_pages f m (count_from lo n)) p ≡ Some (f p)
pages-in f zero lo m p a b = absurd (omega arith)
pages-in f (suc n) lo m p a b = elim (cases_eq p lo) [
  | inl e ↦
      pages-out f n (lo + 1) (put m lo (f lo)) p (omega arith)
      ∙ (at-put m lo (f lo) p ∙ (ap (λ b. cond b (Some (f lo)) (at m p)) (eq-eqb p lo e) ∙ ap (λ k. Some (f k)) (sym e)))
  | inr o ↦ pages-in f n (lo + 1) (put m lo (f lo)) p (omega arith) (omega arith)
]

-- ---- the stack and the trampoline

abbrev pub stack_page : ℕ → Page
stack_page _ = page_with (rights_of_prot 3) zero_page

pub zero-written : (r : Rights) → r ≡ record { 0 = 3 } → page_with r (written zero_page 0 []) ≡ stack_page 0
unfolding rights_of_prot
zero-written r e = ap (λ (x : Rights). page_with x (written zero_page 0 [])) e

pub trampoline-written : (m : Memory) (r : Rights) (bytes : List ℕ) → r ≡ record { 0 = 5 } → bytes ≡ 0x93 ∷ 0x08 ∷ 0xb0 ∷ 0x08 ∷ 0x73 ∷ 0 ∷ 0 ∷ 0 ∷ []
    → put m 0x3ffffff (page_with r (written zero_page 0 bytes)) ≡ add_trampoline m
unfolding rights_of_prot
trampoline-written m r bytes e b = λ i. put m 0x3ffffff (page_with (e i) (written zero_page 0 (b i)))

-- the stack's last page may be written
pub top-there : (m : Memory) → lacks (add_trampoline (add_stack m)) Write 0x3fffffe ≡ false
unfolding rights_of_prot
top-there m =
    ap (lacks_in Write)
    (at-put (add_stack m) 0x3ffffff (page_with (rights_of_prot 5) _) 0x3fffffe
    ∙ pages-in stack_page 16 0x3ffffef m 0x3fffffe (omega arith) (omega arith))

-- ---- what an access lacks after bytes are written

lacks-changed : (m : Memory) (a : Access) (k q : ℕ) (f : Page → Page) → ((x : Page) → (f x).rights ≡ x.rights) → (o : Option Page) → at m k ≡ o → lacks (change_row m k f o) a q ≡ lacks m a q
lacks-changed m a k q f keeps None e = refl
lacks-changed m a k q f keeps (Some x) e = elim (cases_eq q k) [
  | inl same ↦
      ap (lacks_in a) (at-put m k (f x) q ∙ ap (λ b. cond b (Some (f x)) (at m q)) (eq-eqb q k same))
      ∙ (ap (λ (r : Rights). lacks_in a (Some (page_with r []))) (keeps x) ∙ sym (ap (lacks_in a) (ap (at m) same ∙ e)))
  | inr other ↦ ap (lacks_in a) (at-put m k (f x) q ∙ ap (λ b. cond b (Some (f x)) (at m q)) (ne_eqb q k other))
]

pub lacks-written : (bs : List ℕ) (m : Memory) (a : Access) (address q : ℕ) → lacks (write_bytes m address bs) a q ≡ lacks m a q
unfolding write_bytes
lacks-written [] m a address q = refl
lacks-written (b ∷ bs) m a address q =
    lacks-written bs (put_byte m address b) a (address + 1) q
    ∙ lacks-changed m a (address / 4096) q (λ (x : Page). record x { bytes = slice_set x.bytes (address % 4096) b }) (λ x. refl) (at m (address / 4096)) refl

-- ---- lists of which the first element is taken

pub all-first : {X : Type 0} (P : X → Type 0) (xs ys : List X) (x : X) → xs ≡ x ∷ ys → All P xs → P x
all-first P xs ys x e h = let all : All P (x ∷ ys) = subst (All P) e h in all 0 x (omega arith)

pub all-rest : {X : Type 0} (P : X → Type 0) (xs ys : List X) (x : X) → xs ≡ x ∷ ys → All P xs → All P ys
all-rest P xs ys x e h = let all : All P (x ∷ ys) = subst (All P) e h in λ k d l. all (suc k) d (omega arith)
