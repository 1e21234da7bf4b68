-- Where the pages of a guest's memory are, and what they hold.
use Rattle.frame_mem.specs.Pages.{written}
use Rattle.isa_model.specs.Memory.{Memory, Page, write_bytes}
use Rattle.job_model.specs.Images.{IsImage, IsSegment}
use Rattle.job_model.specs.declared.image.Image.{Image}
use Rattle.job_model.specs.declared.image.Segment.{Segment}
use Rattle.kernel_model.specs.Layout.{add_segment, add_stack, add_trampoline, addresses_from, auxiliary_bytes, guest_memory, page_with, segment_page, stack_pointer, stack_words, strings, strings_address}
use Rattle.kernel_model.specs.MemoryCalls.{rights_of_prot}
use Rattle.kernel_model.specs.Pages.{zero_page}
use Rattle.lwk_boot.proofs.Copies.{at-other, at-same}
use Rattle.lwk_boot.proofs.TopBytes.{length-written}
use Rattle.lwk_boot.specs.Guests.{AreArguments, HasSegments, first_page, last_end, no_segment, segment_at, stack_first, stack_last, trampoline_page}
use Rattle.lwk_boot.specs.Top.{strings_place, top_address, top_page, words_place}
use Rattle.lwk_space.proofs.BytesWritten.{write-in-page}
use Rattle.lwk_space.specs.Fills.{placed}
use Rattle.mck_word.specs.Lists.{count_from}
use Rattle.mck_word.specs.MapLaws.{at-none}
use Rattle.mck_word.specs.Maps.{at, no_rows, put}
use Rattle.mck_word.specs.Words.{little_endian}
use Rattle.std.proofs.Common.{ap, arith, inl, inr, refl, sym, ◌∙◌}
use Rattle.std.proofs.lemmas.Bool.{cases_eq, cases_lt}
use Rattle.std.proofs.lemmas.List.Concat.{length-flat_map}
use Rattle.std.proofs.lemmas.List.{length-replicate, take-append-le, take-replicate}
use Rattle.std.specs.Prelude.{List, None, Some, [], ◌∷◌, ◌++◌, drop, flat_map, fold, length, replicate, suc, sum_by, take, zero, ℕ, ◌*◌, ◌+◌, ◌-◌, ◌/◌, ◌<◌, ◌≡◌, ◌≢◌, ◌≤◌}

-- ---- one range of pages

abbrev with_pages : (ℕ → Page) → Memory → List ℕ → Memory
with_pages f m ps = fold (λ (n : Memory) page. put n page (f page)) m ps

pages-out : (f : ℕ → Page) (n lo : ℕ) (m : Memory) (p : ℕ) → (lo ≤ p → lo + n ≤ p) → at (with_pages f m (count_from lo n)) p ≡ at m p
pages-out f zero lo m p h = refl
pages-out f (suc n) lo m p h =
    pages-out f n (lo + 1) (put m lo (f lo)) p (λ (l : lo + 1 ≤ p). let k : lo + suc n ≤ p = h (omega arith) in omega arith)
    ∙ at-other m lo p (f lo) (λ (e : p ≡ lo). absurd (let k : lo + suc n ≤ p = h (omega arith) in omega arith))

pages-in : (f : ℕ → Page) (n lo : ℕ) (m : Memory) (p : ℕ) → lo ≤ p → p < lo + n → at (with_pages f m (count_from lo n)) p ≡ Some (f p)
pages-in f zero lo m p a b = absurd (omega arith)
pages-in f (suc n) lo m p a b = elim (cases_eq p lo) [
  | inl e ↦ pages-out f n (lo + 1) (put m lo (f lo)) p (λ (l : lo + 1 ≤ p). absurd (omega arith)) ∙ (at-same m lo p (f lo) e ∙ ap (λ k. Some (f k)) (sym e))
  | inr o ↦ pages-in f n (lo + 1) (put m lo (f lo)) p (omega arith) (omega arith)
]

-- ---- the segments

abbrev content : Segment → ℕ → Page
content s p = page_with s.rights (segment_page s p)

segments-out : (ss : List Segment) (m : Memory) (p : ℕ) → ((k : ℕ) → k < length ss → first_page (segment_at ss k) ≤ p → last_end (segment_at ss k) ≤ p)
    → at (fold add_segment m ss) p ≡ at m p
segments-out [] m p h = refl
segments-out (s ∷ ss) m p h =
    segments-out ss (add_segment m s) p (λ k l. h (suc k) (omega arith))
    ∙ pages-out (content s) (last_end s - first_page s) (first_page s) m p (λ (l : first_page s ≤ p). let k : last_end s ≤ p = h 0 (omega arith) l in omega arith)

segments-in : (ss : List Segment) (m : Memory) (k p : ℕ) → k < length ss → first_page (segment_at ss k) ≤ p → p < last_end (segment_at ss k)
    → ((j : ℕ) → j < length ss → j ≢ k → first_page (segment_at ss j) ≤ p → last_end (segment_at ss j) ≤ p)
    → at (fold add_segment m ss) p ≡ Some (content (segment_at ss k) p)
segments-in [] m k p l a b h = absurd (omega arith)
segments-in (s ∷ ss) m zero p l a b h =
    segments-out ss (add_segment m s) p (λ j i. h (suc j) (omega arith) (λ (e : suc j ≡ 0). absurd (omega arith)))
    ∙ pages-in (content s) (last_end s - first_page s) (first_page s) m p a (omega arith)
segments-in (s ∷ ss) m (suc k) p l a b h =
    segments-in ss (add_segment m s) k p (omega arith) a b (λ j i n. h (suc j) (omega arith) (λ (e : suc j ≡ suc k). n (omega arith)))

-- a page of a segment is no page of one before it, or behind it
apart-before : (ja jm ka km p : ℕ) → 0 < jm → 0 < km → (ka / 4096 ≤ (ja + jm - 1) / 4096 → (ka + km - 1) / 4096 < ja / 4096) → ka / 4096 ≤ p → p < (ka + km + 4095) / 4096 → ja / 4096 ≤ p → (ja + jm + 4095) / 4096 ≤ p
apart-before ja jm ka km p j k h a b f = elim (cases_lt p ((ja + jm + 4095) / 4096)) [
  | inl l ↦ absurd (let r : (ka + km - 1) / 4096 < ja / 4096 = h (omega arith) in omega arith)
  | inr g ↦ g
]

apart-behind : (ja jm ka km p : ℕ) → 0 < jm → 0 < km → (ja / 4096 ≤ (ka + km - 1) / 4096 → (ja + jm - 1) / 4096 < ka / 4096) → ka / 4096 ≤ p → p < (ka + km + 4095) / 4096 → ja / 4096 ≤ p → (ja + jm + 4095) / 4096 ≤ p
apart-behind ja jm ka km p j k h a b f = let r : (ja + jm - 1) / 4096 < ka / 4096 = h (omega arith) in omega arith

-- segments share no page
pub pages-apart : (image : Image) → IsImage image → (j k p : ℕ) → j < length image.segments → k < length image.segments → j ≢ k
    → first_page (segment_at image.segments k) ≤ p → p < last_end (segment_at image.segments k)
    → first_page (segment_at image.segments j) ≤ p → last_end (segment_at image.segments j) ≤ p
pages-apart image is j k p lj lk n a b f =
    let x = segment_at image.segments j in
    let y = segment_at image.segments k in
    let sx : IsSegment x = is.kept j no_segment lj in
    let sy : IsSegment y = is.kept k no_segment lk in
    elim (cases_lt j k) [
      | inl l ↦ apart-before x.addr x.mem y.addr y.mem p sx.some sy.some (is.apart j k no_segment l lk) a b f
      | inr g ↦ let m : k < j = omega arith in apart-behind x.addr x.mem y.addr y.mem p sx.some sy.some (is.apart k j no_segment m lj) a b f
    ]

-- ---- the stack and the trampoline

abbrev stack_page : Page
stack_page = page_with (rights_of_prot 3) zero_page

abbrev trampoline_bytes : List ℕ
trampoline_bytes = little_endian 4 0x08b00893 ++ little_endian 4 0x73

abbrev last_page : Page
last_page = page_with (rights_of_prot 5) (take 4096 (little_endian 4 0x08b00893 ++ little_endian 4 0x73 ++ zero_page))

-- the memory but for the stack's top
abbrev bare : Image → Memory
bare image = add_trampoline (add_stack (fold add_segment no_rows image.segments))

bare-low : (image : Image) (p : ℕ) → p < stack_first → at (bare image) p ≡ at (fold add_segment no_rows image.segments) p
bare-low image p l =
    at-other (add_stack (fold add_segment no_rows image.segments)) trampoline_page p last_page (λ (e : p ≡ 0x3ffffff). absurd (omega arith))
    ∙ pages-out (λ _. stack_page) 16 stack_first (fold add_segment no_rows image.segments) p (λ (a : 0x3ffffef ≤ p). absurd (omega arith))

bare-stack : (image : Image) (p : ℕ) → stack_first ≤ p → p < trampoline_page → at (bare image) p ≡ Some stack_page
bare-stack image p a b =
    at-other (add_stack (fold add_segment no_rows image.segments)) trampoline_page p last_page (λ (e : p ≡ 0x3ffffff). absurd (omega arith))
    ∙ pages-in (λ _. stack_page) 16 stack_first (fold add_segment no_rows image.segments) p a (omega arith)

bare-trampoline : (image : Image) → at (bare image) trampoline_page ≡ Some last_page
bare-trampoline image = at-same (add_stack (fold add_segment no_rows image.segments)) trampoline_page trampoline_page last_page refl

bare-high : (image : Image) → IsImage image → (p : ℕ) → trampoline_page < p → at (bare image) p ≡ None
bare-high image is p a =
    at-other (add_stack (fold add_segment no_rows image.segments)) trampoline_page p last_page (λ (e : p ≡ 0x3ffffff). absurd (omega arith))
    ∙ (pages-out (λ _. stack_page) 16 stack_first (fold add_segment no_rows image.segments) p (λ (l : 0x3ffffef ≤ p). omega arith)
    ∙ (segments-out image.segments no_rows p (λ k l f. let s : IsSegment (segment_at image.segments k) = is.kept k no_segment l in let r = s.range in omega arith)
    ∙ at-none p))

-- ---- the stack's top

pub length-little : (n x : ℕ) → length (little_endian n x) ≡ n
length-little zero x = refl
length-little (suc n) x = ap suc (length-little n (x / 256))

pub length-words : (ws : List ℕ) → length (flat_map (little_endian 8) ws) ≡ 8 * length ws
length-words [] = refl
length-words (w ∷ ws) = length-both (little_endian 8 w) (flat_map (little_endian 8) ws) ∙ (let rest = length-words ws in let one : length (little_endian 8 w) ≡ 8 = length-little 8 w in omega arith)
  where
    length-both : (xs ys : List ℕ) → length (xs ++ ys) ≡ length xs + length ys
    length-both [] ys = omega arith
    length-both (x ∷ xs) ys = let rest = length-both xs ys in omega arith

pub length-with-zero : (xs : List ℕ) → length (xs ++ 0 ∷ []) ≡ length xs + 1
length-with-zero [] = refl
length-with-zero (x ∷ xs) = let rest = length-with-zero xs in omega arith

pub length-strings : (arguments : List (List ℕ)) → length (strings arguments) ≡ sum_by (λ a. length a + 1) arguments
length-strings arguments = length-flat_map (λ a. a ++ 0 ∷ []) arguments ∙ (λ i. sum_by (λ a. length-with-zero a i) arguments)

length-addresses : (a : ℕ) (ss : List (List ℕ)) (rest : List ℕ) → length (addresses_from a ss ++ rest) ≡ length ss + length rest
length-addresses a [] rest = omega arith
length-addresses a (s ∷ ss) rest = let e = length-addresses (a + length s + 1) ss rest in omega arith

pub length-stack : (image : Image) (arguments : List (List ℕ)) → length (stack_words image arguments) ≡ length arguments + 17
length-stack image arguments =
    let e = length-addresses (strings_address arguments) arguments (0 ∷ 0 ∷ 3 ∷ image.phdr ∷ 4 ∷ 56 ∷ 5 ∷ image.phnum ∷ 6 ∷ 4096 ∷ 9 ∷ image.entry ∷ 25 ∷ auxiliary_bytes ∷ 0 ∷ 0 ∷ []) in
    omega arith

-- where the strings and the words stand
pub record Places (arguments : List (List ℕ)) : Type 0 where
  pub strings_at : strings_address arguments ≡ stack_last * 4096 + strings_place arguments
  pub strings_fit : strings_place arguments + length (strings arguments) ≡ 0xff0
  pub words_at : stack_pointer arguments ≡ stack_last * 4096 + words_place arguments
  pub words_fit : words_place arguments + 8 * (length arguments + 17) ≤ 0xff0

places-of : (n m : ℕ) → n ≤ 1024 → m ≤ 64 → record {
  at : 0x3fffffeff0 - n ≡ 0x3fffffe * 4096 + (0xff0 - n);
  fit : 0xff0 - n + n ≡ 0xff0;
  words : (0x3fffffeff0 - n - 8 * (m + 17)) / 16 * 16 ≡ 0x3fffffe * 4096 + ((0x3fffffeff0 - n - 8 * (m + 17)) / 16 * 16 - 0x3fffffe000);
  below : (0x3fffffeff0 - n - 8 * (m + 17)) / 16 * 16 - 0x3fffffe000 + 8 * (m + 17) ≤ 0xff0;
}
places-of n m a b = record { at = omega arith; fit = omega arith; words = omega arith; below = omega arith }

pub places : (arguments : List (List ℕ)) → AreArguments arguments → Places arguments
places arguments are =
    let long : length (strings arguments) ≤ 1024 = omega (arith, length-strings arguments, are.small) in
    let all = places-of (length (strings arguments)) (length arguments) long are.most in
    record { strings_at = all.at; strings_fit = all.fit; words_at = all.words; words_fit = all.below }

-- three parts written in one page
top-written : (m : Memory) (page : ℕ) (x : Page) (ps bs cs : List ℕ) (a b c i j k : ℕ) → at m page ≡ Some x → length x.bytes ≡ 4096
    → a ≡ page * 4096 + i → i + length ps ≤ 4096 → b ≡ page * 4096 + j → j + length bs ≤ 4096 → c ≡ page * 4096 + k → k + length cs ≤ 4096
    → write_bytes (write_bytes (write_bytes m a ps) b bs) c cs
    ≡ put (put (put m page (page_with x.rights (written x.bytes i ps))) page (page_with x.rights (written (written x.bytes i ps) j bs))) page (page_with x.rights (written (written (written x.bytes i ps) j bs) k cs))
top-written m page x ps bs cs a b c i j k there long ea la eb lb ec lc =
    let x1 = written x.bytes i ps in
    let x2 = written x1 j bs in
    let p1 : Page = page_with x.rights x1 in
    let p2 : Page = page_with x.rights x2 in
    let l1 : length x1 ≡ 4096 = length-written x.bytes i ps (omega arith) ∙ long in
    let l2 : length x2 ≡ 4096 = length-written x1 j bs (omega arith) ∙ l1 in
    let s1 = ap (λ n. write_bytes m n ps) ea ∙ write-in-page ps m page i x there long la in
    let m1 = put m page p1 in
    let s2 = ap (λ n. write_bytes m1 n bs) eb ∙ write-in-page bs m1 page j p1 (at-same m page page p1 refl) l1 lb in
    let m2 = put m1 page p2 in
    let s3 = ap (λ n. write_bytes m2 n cs) ec ∙ write-in-page cs m2 page k p2 (at-same m1 page page p2 refl) l2 lc in
    ap (λ n. write_bytes (write_bytes n b bs) c cs) s1 ∙ (ap (λ n. write_bytes n c cs) s2 ∙ s3)

guest-is : (image : Image) (arguments : List (List ℕ)) → AreArguments arguments → (x1 x2 : Page) × (guest_memory image arguments ≡ put (put (put (bare image) stack_last x1) stack_last x2) stack_last (page_with (rights_of_prot 3) (top_page image arguments)))
unfolding guest_memory top_page
guest-is image arguments are =
    let p = places arguments are in
    let ws = flat_map (little_endian 8) (stack_words image arguments) in
    let many : length ws ≡ 8 * (length arguments + 17) = length-words (stack_words image arguments) ∙ ap (λ n. 8 * n) (length-stack image arguments) in (
      _,
      _,
      top-written (bare image) stack_last stack_page (count_from 0 16) (strings arguments) ws auxiliary_bytes (strings_address arguments) (stack_pointer arguments)
          0xff0 (strings_place arguments) (words_place arguments) (bare-stack image stack_last (omega arith) (omega arith)) (length-replicate {A = ℕ} 4096 0)
          refl (omega arith) p.strings_at (omega (arith, p.strings_fit)) p.words_at (omega (arith, p.words_fit)),
    )

guest-other : (image : Image) (arguments : List (List ℕ)) → AreArguments arguments → (p : ℕ) → p ≢ stack_last → at (guest_memory image arguments) p ≡ at (bare image) p
guest-other image arguments are p o =
    let is = guest-is image arguments are in
    ap (λ m. at m p) is.2 ∙ (at-other _ stack_last p _ o ∙ (at-other _ stack_last p is.1 o ∙ at-other (bare image) stack_last p is.0 o))

pub guest-top : (image : Image) (arguments : List (List ℕ)) → AreArguments arguments → at (guest_memory image arguments) stack_last ≡ Some (page_with (rights_of_prot 3) (top_page image arguments))
guest-top image arguments are =
    let is = guest-is image arguments are in
    ap (λ m. at m stack_last) is.2 ∙ at-same _ stack_last stack_last _ refl

pub length-top : (image : Image) (arguments : List (List ℕ)) → AreArguments arguments → length (top_page image arguments) ≡ 4096
unfolding top_page
length-top image arguments are =
    let p = places arguments are in
    let ws = flat_map (little_endian 8) (stack_words image arguments) in
    let many : length ws ≡ 8 * (length arguments + 17) = length-words (stack_words image arguments) ∙ ap (λ n. 8 * n) (length-stack image arguments) in
    let x1 = written zero_page 0xff0 (count_from 0 16) in
    let x2 = written x1 (strings_place arguments) (strings arguments) in
    let l0 : length zero_page ≡ 4096 = length-replicate {A = ℕ} 4096 0 in
    let l1 : length x1 ≡ 4096 = length-written zero_page 0xff0 (count_from 0 16) (omega arith) ∙ l0 in
    let l2 : length x2 ≡ 4096 = length-written x1 (strings_place arguments) (strings arguments) (omega (arith, p.strings_fit)) ∙ l1 in
    length-written x2 (words_place arguments) ws (omega (arith, p.words_fit)) ∙ l2

-- ---- the whole

pub guest-segments : (image : Image) (arguments : List (List ℕ)) → IsImage image → AreArguments arguments → HasSegments image.segments (guest_memory image arguments)
guest-segments image arguments is are = record {
  inside = λ k p l a b.
      let s : IsSegment (segment_at image.segments k) = is.kept k no_segment l in
      let r = s.range in
      let low : p < stack_first = omega arith in
      guest-other image arguments are p (λ (e : p ≡ 0x3fffffe). absurd (omega arith))
      ∙ (bare-low image p low ∙ segments-in image.segments no_rows k p l a b (λ j i n. pages-apart image is j k p i l n a b));
  outside = λ p low h.
      guest-other image arguments are p (λ (e : p ≡ 0x3fffffe). absurd (omega arith))
      ∙ (bare-low image p low ∙ (segments-out image.segments no_rows p h ∙ at-none p));
}

placed-nothing : (n : ℕ) (p : ℕ) → placed 0 [] p ≡ zero_page
unfolding placed
placed-nothing n p =
    let e : 0 - p * 4096 ≡ 0 = omega arith in
    ap (λ k. take 4096 (replicate k 0 ++ drop (p * 4096 - 0) [] ++ zero_page)) e
    ∙ (ap (λ xs. take 4096 (xs ++ zero_page)) (drop-none (p * 4096 - 0)) ∙ take-replicate 4096 4096 0 (omega arith))
  where
    drop-none : (k : ℕ) → drop {A = ℕ} k [] ≡ []
    drop-none zero = refl
    drop-none (suc k) = refl

pub guest-stack : (image : Image) (arguments : List (List ℕ)) → AreArguments arguments → (p : ℕ) → stack_first ≤ p → p < stack_last
    → at (guest_memory image arguments) p ≡ Some (page_with (rights_of_prot 3) (placed 0 [] p))
guest-stack image arguments are p a b =
    guest-other image arguments are p (λ (e : p ≡ 0x3fffffe). absurd (omega arith))
    ∙ (bare-stack image p a (omega arith) ∙ ap (λ bytes. Some (page_with (rights_of_prot 3) bytes)) (sym (placed-nothing 0 p)))

-- a page's own bytes
pub placed-page : (bytes : List ℕ) → length bytes ≡ 4096 → placed top_address bytes stack_last ≡ bytes
unfolding placed
placed-page bytes long = take-append-le 4096 bytes zero_page (omega arith) ∙ (ap (λ n. take n bytes) (sym long) ∙ take-all bytes)
  where
    take-all : (xs : List ℕ) → take (length xs) xs ≡ xs
    take-all [] = refl
    take-all (x ∷ xs) = ap (λ ys. x ∷ ys) (take-all xs)

placed-trampoline : placed 0x3ffffff000 (0x93 ∷ 0x08 ∷ 0xb0 ∷ 0x08 ∷ 0x73 ∷ 0 ∷ 0 ∷ 0 ∷ []) trampoline_page ≡ take 4096 (little_endian 4 0x08b00893 ++ little_endian 4 0x73 ++ zero_page)
unfolding placed
placed-trampoline = refl

pub guest-trampoline : (image : Image) (arguments : List (List ℕ)) → AreArguments arguments
    → at (guest_memory image arguments) trampoline_page ≡ Some (page_with (rights_of_prot 5) (placed 0x3ffffff000 (0x93 ∷ 0x08 ∷ 0xb0 ∷ 0x08 ∷ 0x73 ∷ 0 ∷ 0 ∷ 0 ∷ []) trampoline_page))
guest-trampoline image arguments are =
    guest-other image arguments are trampoline_page (λ (e : 0x3ffffff ≡ 0x3fffffe). absurd (omega arith))
    ∙ (bare-trampoline image ∙ ap (λ bytes. Some (page_with (rights_of_prot 5) bytes)) (sym placed-trampoline))

pub guest-high : (image : Image) (arguments : List (List ℕ)) → IsImage image → AreArguments arguments → (p : ℕ) → trampoline_page < p → at (guest_memory image arguments) p ≡ None
guest-high image arguments is are p a = guest-other image arguments are p (λ (e : p ≡ 0x3fffffe). absurd (omega arith)) ∙ bare-high image is p a
