-- Elements that `find` finds.
use Rattle.elf_load.specs.Kept.{AreApart}
use Rattle.elf_load.specs.Profile.{shares_page}
use Rattle.elf_load.specs.declared.placed.Placed.{Placed}
use Rattle.std.proofs.Common.{◌≡◌, inl, inr, ℕ, zero, suc, ◌+◌, ◌-◌, ◌/◌, ◌<◌, ◌≤◌, cond, Bool, true, false, List, [], ◌∷◌, length, map, find, get_or, Option, Some, None, option_map, refl, sym, ◌∙◌, ap, subst, arith}
use Rattle.std.proofs.lemmas.Bool.{cases_lt}
use Rattle.std.proofs.lemmas.Bool.Decides.{nat_tests}

-- an element that passes, and where it stands
pub record IsFound (X : Type 0) (test : X → Bool) (xs : List X) (x : X) : Type 0 where
  pub place : ℕ
  pub within : place < length xs
  pub is : (d : X) → get_or xs place d ≡ x
  pub passes : test x ≡ true

found_first : (X : Type 0) (test : X → Bool) (y : X) (ys : List X) (x : X) → test y ≡ true → y ≡ x → IsFound X test (y ∷ ys) x
found_first X test y ys x e same = record { place = 0; within = omega arith; is = λ d. same; passes = subst (λ z. test z ≡ true) same e }

found_later : (X : Type 0) (test : X → Bool) (y : X) (ys : List X) (x : X) → IsFound X test ys x → IsFound X test (y ∷ ys) x
found_later X test y ys x r = record { place = suc r.place; within = let w : r.place < length ys = r.within in omega arith; is = λ d. r.is d; passes = r.passes }

same_some : (X : Type 0) (x y : X) → Some x ≡ Some y → x ≡ y
same_some X x y h = cc

found_by : (X : Type 0) (test : X → Bool) (y : X) (ys : List X) (x : X) (b : Bool) → test y ≡ b → (find test ys ≡ Some x → IsFound X test ys x) → cond b (Some y) (find test ys) ≡ Some x → IsFound X test (y ∷ ys) x
found_by X test y ys x true e rest h = found_first X test y ys x e (same_some X y x h)
found_by X test y ys x false e rest h = found_later X test y ys x (rest h)

pub found : (X : Type 0) (test : X → Bool) (xs : List X) (x : X) → find test xs ≡ Some x → IsFound X test xs x
found X test [] x h = cc
found X test (y ∷ ys) x h = found_by X test y ys x (test y) refl (found X test ys x) h

missed_by : (X : Type 0) (y : X) (rest : Option X) (b : Bool) → cond b (Some y) rest ≡ None → (b ≡ false) × (rest ≡ None)
missed_by X y rest true h = cc
missed_by X y rest false h = (refl, h)

pub missed : (X : Type 0) (test : X → Bool) (xs : List X) → find test xs ≡ None → (k : ℕ) (d : X) → k < length xs → test (get_or xs k d) ≡ false
missed X test [] h k d below = absurd (omega arith)
missed X test (y ∷ ys) h zero d below = (missed_by X y (find test ys) (test y) h).0
missed X test (y ∷ ys) h (suc k) d below = missed X test ys (missed_by X y (find test ys) (test y) h).1 k d (omega arith)

by_test : (X Y : Type 0) (g : X → Y) (x : X) (b : Bool) (here : Option Y) (there : Option X) → here ≡ option_map g there → cond b (Some (g x)) here ≡ option_map g (cond b (Some x) there)
by_test X Y g x true here there h = refl
by_test X Y g x false here there h = h

pub find_map : (X Y : Type 0) (g : X → Y) (test : Y → Bool) (xs : List X) → find test (map g xs) ≡ option_map g (find (λ x. test (g x)) xs)
find_map X Y g test [] = refl
find_map X Y g test (x ∷ xs) = by_test X Y g x (test (g x)) (find test (map g xs)) (find (λ y. test (g y)) xs) (find_map X Y g test xs)

pub mapped : (X Y : Type 0) (g : X → Y) (o : Option X) (y : Y) → option_map g o ≡ Some y → (x : X) × (o ≡ Some x) × (g x ≡ y)
mapped X Y g None y h = cc
mapped X Y g (Some x) y h = (x, refl, same_some Y (g x) y h)

-- ---- segments around an address

pub record IsAround (address : ℕ) (p : Placed) : Type 0 where
  pub low : p.addr ≤ address
  pub high : address < p.addr + p.mem

share : (s t : Placed) (address : ℕ) → IsAround address s → IsAround address t → shares_page s t ≡ true
share s t address a b =
    let la : s.addr ≤ address = a.low in
    let ha : address < s.addr + s.mem = a.high in
    let lb : t.addr ≤ address = b.low in
    let hb : address < t.addr + t.mem = b.high in
    let one : s.addr / 4096 ≤ (t.addr + t.mem - 1) / 4096 = omega arith in
    let two : t.addr / 4096 ≤ (s.addr + s.mem - 1) / 4096 = omega arith in
    grind (arith, nat_tests)

true_false : (b : Bool) → b ≡ true → b ≡ false → ⊥
true_false true e f = cc
true_false false e f = cc

not_both : (placed : List Placed) → AreApart placed → (i j : ℕ) (d : Placed) (address : ℕ) → i < j → j < length placed → IsAround address (get_or placed i d) → IsAround address (get_or placed j d) → ⊥
not_both placed apart i j d address below within a b =
    true_false (shares_page (get_or placed i d) (get_or placed j d)) (share (get_or placed i d) (get_or placed j d) address a b) (apart i j d below within)

same_place : (placed : List Placed) → AreApart placed → (i j : ℕ) (d : Placed) (address : ℕ) → i < length placed → j < length placed → IsAround address (get_or placed i d) → IsAround address (get_or placed j d) → i ≡ j
same_place placed apart i j d address wi wj a b = elim (cases_lt i j) [
  | inl below ↦ absurd (not_both placed apart i j d address below wj a b)
  | inr above ↦ elim (cases_lt j i) [ inl below ↦ absurd (not_both placed apart j i d address below wi b a) | inr same ↦ omega arith ]
]

-- at most one segment is around an address
pub one_around : (placed : List Placed) (p q : Placed) (tp tq : Placed → Bool) (address : ℕ) → AreApart placed → IsFound Placed tp placed p → IsFound Placed tq placed q → IsAround address p → IsAround address q → p ≡ q
one_around placed p q tp tq address apart fp fq a b =
    let same : fp.place ≡ fq.place =
    same_place placed apart fp.place fq.place p address fp.within fq.within (subst (IsAround address) (sym (fp.is p)) a) (subst (IsAround address) (sym (fq.is p)) b) in
    sym (fp.is p) ∙ (ap (λ (k : ℕ). get_or placed k p) same ∙ fq.is p)
