-- A piece of a stream that is cut: it comes to the end of a pipe or a console, or grows a file to its limit, which may be cut no more then; or it is quiet, and its step isn't ready after it.
use Rattle.file_model.specs.Files.{Files, Inode, change_node, description_of, is_open, no_description, no_node, node_of, set_offset, total_bytes}
use Rattle.file_model.specs.Streams.{moved_on}
use Rattle.file_model.specs.declared.descriptions.Description.{Description}
use Rattle.file_model.specs.declared.descriptions.Target.TheVariants.{OfNode, ReadEnd, WriteEnd, OfConsole}
use Rattle.file_model.specs.declared.descriptions.Target.{Target}
use Rattle.hybrid_laws.proofs.node.Primitives.{at-change}
use Rattle.mck_word.specs.Maps.{at, change_row, total}
use Rattle.std.proofs.Common.{ap, arith, refl, subst, sym, ◌∙◌}
use Rattle.std.proofs.lemmas.Bool.Decides.{nat_tests}
use Rattle.std.specs.Prelude.{Bool, None, Option, Some, cond, false, length, option_map, true, unwrap_or, ℕ, ◌==◌, ◌≡◌, ◌≤◌}
use Rattle.work_laws.proofs.files.Adding.{WasOpen, open-less, was-change}
use Rattle.work_laws.proofs.files.Quieter.{AsLong, GoneOn}
use Rattle.work_laws.proofs.node.Left.{total-changed}

-- ---- offsets that go on, and files that keep their lengths
module _ (a b c : Files) where
  pub as-long-then : AsLong a b → AsLong b c → AsLong a c
  as-long-then l m = record {
    descriptions = λ d. (let x = l.descriptions d in let y = m.descriptions d in record { target = y.target ∙ x.target; append = y.append ∙ x.append; offset = (let u = x.offset in let v = y.offset in omega (arith, u, v)) });
    lengths = λ n. m.lengths n ∙ l.lengths n;
    all = m.all ∙ l.all;
    pipes = m.pipes ∙ l.pipes;
    consoles = m.consoles ∙ l.consoles;
    opens = λ t. m.opens t ∙ l.opens t;
  }

as-long-same : (a : Files) → AsLong a a
as-long-same a = record { descriptions = λ d. record { target = refl; append = refl; offset = omega arith }; lengths = λ n. refl; all = refl; pipes = refl; consoles = refl; opens = λ t. refl }

same-test : (a b : Bool) → (a ≡ true → b ≡ true) → (b ≡ true → a ≡ true) → a ≡ b
same-test true true f g = refl
same-test true false f g = absurd (let e = f refl in grind (arith, e))
same-test false true f g = absurd (let e = g refl in grind (arith, e))
same-test false false f g = refl

module _ (a : Files) (d offset : ℕ) (on : (description_of a d).offset ≤ offset) where
  abbrev moved : Description → Description
  moved x = record x { offset = offset }

  gone-on : (e : ℕ) → GoneOn (description_of a e) (description_of (set_offset d offset a) e)
  gone-on e = subst (λ (o : Option Description). GoneOn (description_of a e) (unwrap_or o no_description)) (sym (at-change a.descriptions d moved e)) (go (e == d) refl)
    where
      row : (o : Option Description) → (unwrap_or o no_description).offset ≤ offset → GoneOn (unwrap_or o no_description) (unwrap_or (option_map moved o) no_description)
      row None l = record { target = refl; append = refl; offset = omega arith }
      row (Some x) l = record { target = refl; append = refl; offset = l }

      go : (b : Bool) → (e == d) ≡ b → GoneOn (description_of a e) (unwrap_or (cond b (option_map moved (at a.descriptions d)) (at a.descriptions e)) no_description)
      go false f = record { target = refl; append = refl; offset = omega arith }
      go true f = let g : e ≡ d = grind (arith, nat_tests, f) in subst (λ (j : ℕ). GoneOn (description_of a j) (unwrap_or (option_map moved (at a.descriptions d)) no_description)) (sym g) (row (at a.descriptions d) on)

  -- open on the same, either way
  was-there : WasOpen (set_offset d offset a) a
  was-there e x is = go (e == d) refl
    where
      go : (b : Bool) → (e == d) ≡ b → (y : Description) × (at (set_offset d offset a).descriptions e ≡ Some y) × (y.target ≡ x.target)
      go false f = (x, at-change a.descriptions d moved e ∙ ap (λ b. cond b (option_map moved (at a.descriptions d)) (at a.descriptions e)) f ∙ is, refl)
      go true f =
          let g : e ≡ d = grind (arith, nat_tests, f) in
          (moved x, at-change a.descriptions d moved e ∙ ap (λ b. cond b (option_map moved (at a.descriptions d)) (at a.descriptions e)) f ∙ ap (option_map moved) (ap (at a.descriptions) (sym g) ∙ is), refl)

  pub as-long-offset : AsLong a (set_offset d offset a)
  as-long-offset = record {
    descriptions = gone-on;
    lengths = λ n. refl;
    all = refl;
    pipes = refl;
    consoles = refl;
    opens = λ t. same-test (is_open (set_offset d offset a) t) (is_open a t)
        (open-less a (set_offset d offset a) t (λ e x is f. was-change a d moved (λ y. refl) e x is)) (open-less (set_offset d offset a) a t (λ e x is f. was-there e x is));
  }

module _ (a : Files) (n : ℕ) (f : Inode → Inode) (keeps : (x : Inode) → at a.nodes n ≡ Some x → length (f x).bytes ≡ length x.bytes) where
  length-stays : (m : ℕ) → length (node_of (change_node n f a) m).bytes ≡ length (node_of a m).bytes
  length-stays m = ap (λ (o : Option Inode). length (unwrap_or o no_node).bytes) (at-change a.nodes n f m) ∙ go (m == n) refl
    where
      row : (o : Option Inode) → at a.nodes n ≡ o → length (unwrap_or (option_map f o) no_node).bytes ≡ length (unwrap_or o no_node).bytes
      row None e = refl
      row (Some x) e = keeps x e

      go : (b : Bool) → (m == n) ≡ b → length (unwrap_or (cond b (option_map f (at a.nodes n)) (at a.nodes m)) no_node).bytes ≡ length (node_of a m).bytes
      go false e = refl
      go true e = let g : m ≡ n = grind (arith, nat_tests, e) in row (at a.nodes n) refl ∙ ap (λ (j : ℕ). length (node_of a j).bytes) (sym g)

  total-stays : total_bytes (change_node n f a) ≡ total_bytes a
  total-stays = go (at a.nodes n) refl
    where
      go : (o : Option Inode) → at a.nodes n ≡ o → total_bytes (change_node n f a) ≡ total_bytes a
      go None e = ap (λ (o : Option Inode). total (λ (x : Inode). length x.bytes) (change_row a.nodes n f o)) e
      go (Some x) e = let c = total-changed (λ (y : Inode). length y.bytes) a.nodes n f x e in let k = keeps x e in omega (arith, c, k)

  pub as-long-bytes : AsLong a (change_node n f a)
  as-long-bytes = record { descriptions = λ d. record { target = refl; append = refl; offset = omega arith }; lengths = length-stays; all = total-stays; pipes = refl; consoles = refl; opens = λ t. refl }

pub as-long-moved : (a : Files) (d : ℕ) (own : Option ℕ) (offset : ℕ) → (own ≡ None → (description_of a d).offset ≤ offset) → AsLong a (moved_on d own offset a)
as-long-moved a d None offset h = as-long-offset a d offset (h refl)
as-long-moved a d (Some n) offset h = as-long-same a

-- the offset of a description that is there
pub offset-own : (a : Files) (d offset : ℕ) (x : Description) → at a.descriptions d ≡ Some x → (description_of (set_offset d offset a) d).offset ≡ offset
offset-own a d offset x is =
    let f : Description → Description = (λ (y : Description). record y { offset = offset }) in
    let i : (d == d) ≡ true = grind (arith, nat_tests) in
    ap (λ (o : Option Description). (unwrap_or o no_description).offset) (at-change a.descriptions d f d ∙ ap (λ b. cond b (option_map f (at a.descriptions d)) (at a.descriptions d)) i ∙ ap (option_map f) is)

-- a description that is open on a file is there
is_file : Target → Bool
is_file (OfNode m) = true
is_file (ReadEnd m) = false
is_file (WriteEnd m) = false
is_file (OfConsole m) = false

pub file-there : (a : Files) (d k : ℕ) → (description_of a d).target ≡ OfNode k → (x : Description) × (at a.descriptions d ≡ Some x)
unfolding is_file
file-there a d k is = go (at a.descriptions d) refl
  where
    go : (c : Option Description) → at a.descriptions d ≡ c → (x : Description) × (c ≡ Some x)
    go None e = absurd (let f = ap is_file is in let g = ap (λ (o : Option Description). is_file (unwrap_or o no_description).target) e in grind (arith, f, g))
    go (Some x) e = (x, refl)
