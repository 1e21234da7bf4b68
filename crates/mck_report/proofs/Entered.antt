-- What is read as an event is the line of that event.
use Rattle.hybrid_model.specs.declared.events.Event.{Event}
use Rattle.hybrid_model.specs.declared.events.Event.TheVariants.{Run, Fetch, Unpark}
use Rattle.mck_report.proofs.Cuts.{cut}
use Rattle.mck_report.proofs.NumberTexts.{written}
use Rattle.mck_report.specs.Reading.{Fits, Halves, Rule, Small, cut_at, event_from, event_of, made_by, numbers_of, one_from, ones, run_from, same, small_of, small_or_none, three_of, two_from, two_numbers, two_or_three, two_small, twos}
use Rattle.mck_word.specs.Identifiers.{pid, tid, req}
use Rattle.mck_word.specs.Numbers.{number_of}
use Rattle.run_model.specs.Texts.{Word, Text, Number, spaced}
use Rattle.run_model.specs.Traces.{words_of}
use Rattle.std.proofs.Common.{◌≡◌, ◌⊎◌, inl, inr, ℕ, zero, suc, ◌^◌, ◌<◌, ◌==◌, nat_lt, Bool, true, false, List, [], ◌∷◌, ◌++◌, Option, Some, None, codes, refl, sym, ◌∙◌, ap, subst, arith, append_assoc, cond}
use Rattle.std.proofs.lemmas.Bool.Decides.{nat_tests}
use Rattle.std.specs.Cmp.Lexicographic.{bytes_decides}
use Rattle.std.specs.Fmt.{decimal}
use Rattle.std.specs.List.{AllByRecursion}

-- the two ways of a choice
ways : {A : Type 0} (t : Bool) (x y z : A) → cond t x y ≡ z → ((t ≡ true) × (x ≡ z)) ⊎ ((t ≡ false) × (y ≡ z))
ways true x y z e = inl (refl, e)
ways false x y z e = inr (refl, e)

is_same : (a b : List ℕ) → same a b ≡ true → a ≡ b
is_same a b e = (bytes_decides a b).0 e

-- a number of 32 bits and its text
small_number : (r : Option ℕ) (n : ℕ) → small_or_none r ≡ Some n → (r ≡ Some n) × Small n
small_number None n e = cc
small_number (Some m) n e = elim (ways (nat_lt m (2 ^ 32)) (Some m) None (Some n) e) [
  | inl w ↦ (let t : nat_lt m (2 ^ 32) ≡ true = w.0 in let k : m ≡ n = (let h : Some m ≡ Some n = w.1 in cc) in (w.1, subst Small k (grind (arith, nat_tests))))
  | inr w ↦ (let h : None ≡ Some n = w.1 in cc)
]

small : (bytes : List ℕ) (n : ℕ) → small_of bytes ≡ Some n → (bytes ≡ decimal n) × Small n
small bytes n e = let r = small_number (number_of bytes) n e in ((written bytes n r.0).text, r.1)

-- what a table makes has what each of its rules has
made : {N : Type 0} (Q : List ℕ → N → Event → Type 0) (rules : List (Rule N)) → AllByRecursion (λ (r : Rule N). (x : N) → Q r.0 x (r.1 x)) rules →
    (word : List ℕ) (x : N) (e : Event) → made_by rules word x ≡ Some e → Q word x e
made Q [] each word x e h = cc
made Q (r ∷ rs) each word x e h = elim (ways (same word r.0) (Some (r.1 x)) (made_by rs word x) (Some e) h) [
  | inl w ↦ (let k : r.1 x ≡ e = (let s : Some (r.1 x) ≡ Some e = w.1 in cc) in
      subst (λ f. Q word x f) k (subst (λ v. Q v x (r.1 x)) (sym (is_same word r.0 w.0)) (each.0 x)))
  | inr w ↦ made Q rs each.1 word x e w.1
]

abbrev MadeOfOne : List ℕ → ℕ → Event → Type 0
MadeOfOne word n e = Small n → (words_of e ≡ Text word ∷ Number n ∷ []) × Fits e

made_of_one : (word : List ℕ) (n : ℕ) (e : Event) → made_by ones word n ≡ Some e → MadeOfOne word n e
made_of_one word n e h = made MadeOfOne ones (λ n h. (refl, h), (λ n h. (refl, h), (λ n h. (refl, h), (λ n h. (refl, h), (λ n h. (refl, h), (λ n h. (refl, h), (λ n h. (refl, h), (λ n h. (refl, h), (λ n h. (refl, (h, omega arith)), (λ n h. (refl, h), tt)))))))))) word n e h

abbrev IsOfTwo : List ℕ → ℕ → ℕ → Event → Type 0
IsOfTwo word n m e = (words_of e ≡ Text word ∷ Number n ∷ Number m ∷ []) × Fits e

abbrev MadeOfTwo : List ℕ → ℕ × ℕ → Event → Type 0
MadeOfTwo word x e = Small x.0 → Small x.1 → IsOfTwo word x.0 x.1 e

made_of_two : (word : List ℕ) (x : ℕ × ℕ) (e : Event) → made_by twos word x ≡ Some e → MadeOfTwo word x e
made_of_two word x e h = made MadeOfTwo twos (λ x h k. (refl, (h, k)), (λ x h k. (refl, (h, k)), (λ x h k. (refl, (h, k)), (λ x h k. (refl, (h, k)), (λ x h k. (refl, (h, k)), (λ x h k. (refl, (h, k)), (λ x h k. (refl, (h, k)), (λ x h k. (refl, (h, k)), (λ x h k. (refl, (h, k)), tt))))))))) word x e h

fetch_words : (p m : ℕ) → (m == 0) ≡ false → words_of (Fetch (pid p) m) ≡ Text (codes "fetch") ∷ Number p ∷ Number m ∷ []
fetch_words p zero h = cc
fetch_words p (suc m) h = refl

made_fetch : (word : List ℕ) (n m : ℕ) (e : Event) → word ≡ codes "fetch" → cond (m == 0) None (Some (Fetch (pid n) m)) ≡ Some e → Small n → Small m → IsOfTwo word n m e
made_fetch word n m e w h p q = elim (ways (m == 0) None (Some (Fetch (pid n) m)) (Some e) h) [
  | inl x ↦ (let s : None ≡ Some e = x.1 in cc)
  | inr x ↦ (let k : Fetch (pid n) m ≡ e = (let s : Some (Fetch (pid n) m) ≡ Some e = x.1 in cc) in
      subst (λ f. IsOfTwo word n m f) k (subst (λ v. IsOfTwo v n m (Fetch (pid n) m)) (sym w) (fetch_words n m x.0, (p, q))))
]

made_small : (word : List ℕ) (n m : ℕ) (e : Event) → two_small word n m ≡ Some e → Small n → Small m → IsOfTwo word n m e
made_small word n m e h p q = elim (ways (same word (codes "fetch")) (cond (m == 0) None (Some (Fetch (pid n) m))) (made_by twos word (n, m)) (Some e) h) [
  | inl w ↦ made_fetch word n m e (is_same word (codes "fetch") w.0) w.1 p q
  | inr w ↦ made_of_two word (n, m) e w.1 p q
]

made_numbers : (word : List ℕ) (n m : ℕ) (e : Event) → two_numbers word n m ≡ Some e → Small n → m < 2 ^ 64 → IsOfTwo word n m e
made_numbers word n m e h p q =
    elim (ways (same word (codes "unpark")) (Some (Unpark (pid n) (req m))) (cond (nat_lt m (2 ^ 32)) (two_small word n m) None) (Some e) h) [
      | inl w ↦ (let k : Unpark (pid n) (req m) ≡ e = (let s : Some (Unpark (pid n) (req m)) ≡ Some e = w.1 in cc) in
          subst (λ f. IsOfTwo word n m f) k (subst (λ v. IsOfTwo v n m (Unpark (pid n) (req m))) (sym (is_same word (codes "unpark") w.0)) (refl, (p, q))))
      | inr w ↦ (elim (ways (nat_lt m (2 ^ 32)) (two_small word n m) None (Some e) w.1) [
        | inl x ↦ (let t : nat_lt m (2 ^ 32) ≡ true = x.0 in made_small word n m e x.1 p (grind (arith, nat_tests)))
        | inr x ↦ (let s : None ≡ Some e = x.1 in cc)
      ])
    ]

-- ---- the line

pub record IsLine (line : List ℕ) (e : Event) : Type 0 where
  pub text : line ≡ spaced (words_of e)
  pub fits : Fits e

one_line : (word a : List ℕ) (r : Option ℕ) (e : Event) → small_of a ≡ r → one_from word r ≡ Some e → IsLine (word ++ 32 ∷ a) e
one_line word a None e s h = cc
one_line word a (Some n) e s h =
    let x = small a n s in
    let m = made_of_one word n e h x.1 in
    record { text = ap (λ k. word ++ 32 ∷ k) x.0 ∙ ap spaced (sym m.0); fits = m.1 }

two_line : (word a b : List ℕ) (r s : Option ℕ) (e : Event) → small_of a ≡ r → number_of b ≡ s → two_from word r s ≡ Some e → IsLine (word ++ 32 ∷ (a ++ 32 ∷ b)) e
two_line word a b None s e p q h = cc
two_line word a b (Some n) None e p q h = cc
two_line word a b (Some n) (Some m) e p q h =
    let x = small a n p in
    let y = written b m q in
    let z = made_numbers word n m e h x.1 y.fits in
    record { text = ap (λ k. word ++ 32 ∷ (k ++ 32 ∷ b)) x.0 ∙ (ap (λ k. word ++ 32 ∷ (decimal n ++ 32 ∷ k)) y.text ∙ ap spaced (sym z.0)); fits = z.1 }

run_line : (a b c : List ℕ) (r s t : Option ℕ) (e : Event) → small_of a ≡ r → small_of b ≡ s → small_of c ≡ t → run_from r s t ≡ Some e → IsLine (codes "run" ++ 32 ∷ (a ++ 32 ∷ (b ++ 32 ∷ c))) e
run_line a b c None s t e p q u h = cc
run_line a b c (Some i) None t e p q u h = cc
run_line a b c (Some i) (Some j) None e p q u h = cc
run_line a b c (Some i) (Some j) (Some k) e p q u h =
    let x = small a i p in let y = small b j q in let z = small c k u in
    let is : Run i (tid j) k ≡ e = (let g : Some (Run i (tid j) k) ≡ Some e = h in cc) in
    subst (λ f. IsLine (codes "run" ++ 32 ∷ (a ++ 32 ∷ (b ++ 32 ∷ c))) f) is
    (record {
      text = ap (λ v. codes "run" ++ 32 ∷ (v ++ 32 ∷ (b ++ 32 ∷ c))) x.0 ∙ (ap (λ v. codes "run" ++ 32 ∷ (decimal i ++ 32 ∷ (v ++ 32 ∷ c))) y.0
          ∙ ap (λ v. codes "run" ++ 32 ∷ (decimal i ++ 32 ∷ (decimal j ++ 32 ∷ v))) z.0);
      fits = (x.1, y.1, z.1);
    })

three_line : (word a b c : List ℕ) (e : Event) → three_of word a b c ≡ Some e → IsLine (word ++ 32 ∷ (a ++ 32 ∷ (b ++ 32 ∷ c))) e
three_line word a b c e h = elim (ways (same word (codes "run")) (run_from (small_of a) (small_of b) (small_of c)) None (Some e) h) [
  | inl w ↦ subst (λ v. IsLine (v ++ 32 ∷ (a ++ 32 ∷ (b ++ 32 ∷ c))) e) (sym (is_same word (codes "run") w.0)) (run_line a b c (small_of a) (small_of b) (small_of c) e refl refl refl w.1)
  | inr w ↦ (let s : None ≡ Some e = w.1 in cc)
]

later_line : (word a rest : List ℕ) (r : Halves) (e : Event) → cut_at 32 rest ≡ r → two_or_three word a rest r ≡ Some e → IsLine (word ++ 32 ∷ (a ++ 32 ∷ rest)) e
later_line word a rest None e c h = two_line word a rest (small_of a) (number_of rest) e refl refl h
later_line word a rest (Some x) e c h =
    subst (λ v. IsLine (word ++ 32 ∷ (a ++ 32 ∷ v)) e) (sym (cut 32 rest x.0 x.1 c).whole) (three_line word a x.0 x.1 e h)

numbers_line : (word rest : List ℕ) (r : Halves) (e : Event) → cut_at 32 rest ≡ r → numbers_of word rest r ≡ Some e → IsLine (word ++ 32 ∷ rest) e
numbers_line word rest None e c h = one_line word rest (small_of rest) e refl h
numbers_line word rest (Some x) e c h =
    subst (λ v. IsLine (word ++ 32 ∷ v) e) (sym (cut 32 rest x.0 x.1 c).whole) (later_line word x.0 x.1 (cut_at 32 x.1) e refl h)

whole_line : (line : List ℕ) (r : Halves) (e : Event) → cut_at 32 line ≡ r → event_from r ≡ Some e → IsLine line e
whole_line line None e c h = cc
whole_line line (Some x) e c h =
    subst (λ v. IsLine v e) (sym (cut 32 line x.0 x.1 c).whole) (numbers_line x.0 x.1 (cut_at 32 x.1) e refl h)

pub line_of : (line : List ℕ) (e : Event) → event_of line ≡ Some e → IsLine line e
line_of line e h = whole_line line (cut_at 32 line) e refl h
