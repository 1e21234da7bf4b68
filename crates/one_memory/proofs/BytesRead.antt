-- Bytes read from pages, and what an access lacks.
use Rattle.isa_model.specs.Memory.{Memory, Page, byte_at, byte_in, lacks, lacks_in, may_access, read_bytes}
use Rattle.mck_word.specs.Maps.{at}
use Rattle.mck_word.specs.declared.Access.{Access}
use Rattle.one_memory.specs.Lacking.{Allowed, NoneLacks, SomeLacks}
use Rattle.std.proofs.Common.{ap, arith, drop, inl, inr, refl, sym, take, ◌∙◌}
use Rattle.std.proofs.lemmas.Bool.{cases_eq}
use Rattle.std.proofs.lemmas.List.{drop_more}
use Rattle.std.specs.Prelude.{Bool, None, Option, Some, ◌∷◌, ◌++◌, false, length, not, slice_index, suc, true, zero, MatchBool, ℕ, ◌%◌, ◌&&◌, ◌*◌, ◌+◌, ◌-◌, ◌/◌, ◌<◌, ◌≡◌, ◌≤◌}

read-suc : (m : Memory) (a n : ℕ) → read_bytes m a (suc n) ≡ byte_at m a ∷ read_bytes m (a + 1) n
read-suc m a n = refl

pub read-more : (m : Memory) (a k j : ℕ) → read_bytes m a (k + j) ≡ read_bytes m a k ++ read_bytes m (a + k) j
read-more m a zero j = let e : 0 + j ≡ j = omega arith in let f : a ≡ a + 0 = omega arith in ap (read_bytes m a) e ∙ ap (λ b. read_bytes m b j) f
read-more m a (suc k) j =
    let e : suc k + j ≡ suc (k + j) = omega arith in let f : a + 1 + k ≡ a + suc k = omega arith in
    ap (read_bytes m a) e ∙ (read-suc m a (k + j) ∙ (ap (λ bs. byte_at m a ∷ bs) (read-more m (a + 1) k j) ∙ (ap (λ b. byte_at m a ∷ (read_bytes m (a + 1) k ++ read_bytes m b j)) f
    ∙ ap (λ bs. bs ++ read_bytes m (a + suc k) j) (sym (read-suc m a k)))))

-- bytes within one page
pub read-in-page : (m : Memory) (page off n : ℕ) (x : Page) → at m page ≡ Some x → off + n ≤ 4096 → length x.bytes ≡ 4096 → read_bytes m (page * 4096 + off) n ≡ take n (drop off x.bytes)
read-in-page m page off zero x there inside long = refl
read-in-page m page off (suc n) x there inside long =
    let a = page * 4096 + off in
    let p : a / 4096 ≡ page = omega arith in
    let o : a % 4096 ≡ off = omega arith in
    let next : a + 1 ≡ page * 4096 + (off + 1) = omega arith in
    let byte : byte_at m a ≡ slice_index x.bytes off = (λ i. byte_in (at m (p i)) (o i)) ∙ ap (λ y. byte_in y off) there in
    read-suc m a n ∙ ((λ i. byte i ∷ read_bytes m (next i) n) ∙ (ap (λ bs. slice_index x.bytes off ∷ bs) (read-in-page m page (off + 1) n x there (omega arith) long)
    ∙ sym (ap (take (suc n)) (drop_more x.bytes off 0 (omega arith)))))

pub length-read : (m : Memory) (a n : ℕ) → length (read_bytes m a n) ≡ n
length-read m a zero = refl
length-read m a (suc n) = ap length (read-suc m a n) ∙ (let rest = length-read m (a + 1) n in omega arith)

-- a range may be accessed where no page of it lacks the right
pub may-all : (m : Memory) (a : Access) (address n : ℕ) → Allowed m a address n → may_access m a address n ≡ true
may-all m a address zero h = refl
may-all m a address (suc n) h =
    let here = h (address / 4096) (omega arith) (omega arith) (omega arith) in
    let rest = may-all m a (address + 1) n (λ p s x y. h p (omega arith) (omega arith) (omega arith)) in
    rw (here, rest) refl

-- a range of which some page lacks the right may not be accessed
may-not : (m : Memory) (a : Access) (address n page : ℕ) → 1 ≤ n → address / 4096 ≤ page → page * 4096 < address + n → lacks m a page ≡ true → may_access m a address n ≡ false
may-not m a address zero page some from to lacking = absurd (omega arith)
may-not m a address (suc n) page some from to lacking = elim (cases_eq page (address / 4096)) [
  | inl here ↦ ap (λ b. not b && may_access m a (address + 1) n) (ap (lacks m a) (sym here) ∙ lacking)
  | inr other ↦
      ap (λ b. not (lacks m a (address / 4096)) && b) (may-not m a (address + 1) n page (omega arith) (omega arith) (omega arith) lacking)
      ∙ and-false (not (lacks m a (address / 4096)))
]
  where
    and-false : (b : Bool) → (b && false) ≡ false
    and-false true = refl
    and-false false = refl

-- the same of as many pages as the bytes touch
pub some-lacks : (m : Memory) (a : Access) (address n count : ℕ) → (1 ≤ n → address / 4096 + count ≡ (address + n - 1) / 4096 + 1) → (n ≡ 0 → count ≡ 0)
    → SomeLacks m a (address / 4096) (address / 4096 + count) → may_access m a address n ≡ false
some-lacks m a address zero count some none h = let no = none refl in let from = h.from in let to = h.to in absurd (omega arith)
some-lacks m a address (suc n) count some none h =
    let touched = some (omega arith) in let to = h.to in
    may-not m a address (suc n) h.page (omega arith) h.from (omega arith) h.lacking

-- what the pages that the bytes touch tell
pub decided : (m : Memory) (a : Access) (address n count : ℕ) (r : Bool) → (1 ≤ n → address / 4096 + count ≡ (address + n - 1) / 4096 + 1) → (n ≡ 0 → count ≡ 0)
    → MatchBool r (NoneLacks m a (address / 4096) (address / 4096 + count)) (SomeLacks m a (address / 4096) (address / 4096 + count)) → r ≡ may_access m a address n
decided m a address n count true some none h = sym (may-all m a address n (λ p s x y. let touched = some s in h p x (omega arith)))
decided m a address n count false some none h = sym (some-lacks m a address n count some none h)

pub allowed : (m : Memory) (a : Access) (address n count : ℕ) → (1 ≤ n → address / 4096 + count ≡ (address + n - 1) / 4096 + 1)
    → NoneLacks m a (address / 4096) (address / 4096 + count) → Allowed m a address n
allowed m a address n count some h = λ p s x y. let touched = some s in h p x (omega arith)

-- the page of an address that may be accessed is there
pub present : (m : Memory) (a : Access) (page : ℕ) → lacks m a page ≡ false → (x : Page) × (at m page ≡ Some x)
present m a page h = go (at m page) refl h
  where
    go : (o : Option Page) → at m page ≡ o → lacks m a page ≡ false → (x : Page) × (at m page ≡ Some x)
    go None e h = let gone : lacks m a page ≡ true = ap (lacks_in a) e in absurd (cc)
    go (Some x) e h = (x, e)
