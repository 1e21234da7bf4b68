-- A list to which others were added one by one.
use Rattle.elf_load.specs.Written.{placed_at, placed_in}
use Rattle.elf_load.specs.declared.placed.Placed.{Placed}
use Rattle.std.specs.Option.{option_to_list}
use Rattle.std.proofs.Common.{◌≡◌, ℕ, suc, ◌+◌, List, ◌++◌, sym, ◌∙◌, ap, append_assoc, append-nil}

joined2 : (f a b c : List ℕ) (f1 f2 : List ℕ) → f1 ≡ f ++ a → f2 ≡ f1 ++ b → f2 ++ c ≡ f ++ (a ++ (b ++ c))
joined2 f a b c f1 f2 e1 e2 = rw (e2, e1) (append_assoc (f ++ a) b c ∙ append_assoc f a (b ++ c))

pub joined5 : (f a b c d e f1 f2 f3 f4 f5 : List ℕ) → f1 ≡ f ++ a → f2 ≡ f1 ++ b → f3 ≡ f2 ++ c → f4 ≡ f3 ++ d → f5 ≡ f4 ++ e → f5 ≡ f ++ (a ++ (b ++ (c ++ (d ++ e))))
joined5 f a b c d e f1 f2 f3 f4 f5 e1 e2 e3 e4 e5 = e5 ∙ (joined2 f2 c d e f3 f4 e3 e4 ∙ joined2 f a b (c ++ (d ++ e)) f1 f2 e1 e2)

pub joined8 : (f a b c d e g h i f1 f2 f3 f4 f5 f6 f7 f8 : List ℕ) → f1 ≡ f ++ a → f2 ≡ f1 ++ b → f3 ≡ f2 ++ c → f4 ≡ f3 ++ d → f5 ≡ f4 ++ e → f6 ≡ f5 ++ g → f7 ≡ f6 ++ h → f8 ≡ f7 ++ i
    → f8 ≡ f ++ (a ++ (b ++ (c ++ (d ++ (e ++ (g ++ (h ++ i)))))))
joined8 f a b c d e g h i f1 f2 f3 f4 f5 f6 f7 f8 e1 e2 e3 e4 e5 e6 e7 e8 =
    joined5 f3 d e g h i f4 f5 f6 f7 f8 e4 e5 e6 e7 e8
    ∙ (ap (λ (xs : List ℕ). xs ++ (d ++ (e ++ (g ++ (h ++ i))))) e3
    ∙ (append_assoc f2 c (d ++ (e ++ (g ++ (h ++ i)))) ∙ joined2 f a b (c ++ (d ++ (e ++ (g ++ (h ++ i))))) f1 f2 e1 e2))

-- ---- program headers read one by one

pub placed_more : (table : List ℕ) (at k n m : ℕ) (front front' all : List Placed) → n ≡ suc m → front' ≡ front ++ option_to_list (placed_at table at k) → front ++ placed_in table at k n ≡ all → front' ++ placed_in table (at + 56) (k + 1) m ≡ all
unfolding placed_in
placed_more table at k n m front front' all e f kept =
    ap (λ (ps : List Placed). ps ++ placed_in table (at + 56) (k + 1) m) f
    ∙ (append_assoc front (option_to_list (placed_at table at k)) (placed_in table (at + 56) (k + 1) m)
    ∙ (ap (λ (i : ℕ). front ++ placed_in table at k i) (sym e) ∙ kept))

pub placed_done : (table : List ℕ) (at k n : ℕ) (front all : List Placed) → n ≡ 0 → front ++ placed_in table at k n ≡ all → front ≡ all
unfolding placed_in
placed_done table at k n front all e kept = sym (append-nil front) ∙ (ap (λ (i : ℕ). front ++ placed_in table at k i) (sym e) ∙ kept)
