-- A row that is taken out, changed where nobody sees it, and put back.
use Rattle.file_tree.proofs.Members.{In, in-at, no-value}
use Rattle.file_tree.proofs.Stored.{at-here, at-other, put-same}
use Rattle.linux_files.specs.Consoles.{AreOfGuests}
use Rattle.linux_files.specs.Tables.{ConsoleRow}
use Rattle.mck_word.specs.EachLaws.{at-each, each-put}
use Rattle.key_rows.specs.Keeping.{kept}
use Rattle.mck_word.specs.MapLaws.{at-collect, same_rows}
use Rattle.mck_word.specs.Maps.{Map, and_then, at, each, entries, put}
use Rattle.std.proofs.Common.{Bor, ap, arith, get_or, inl, inr, refl, subst, sym, ◌∙◌}
use Rattle.std.proofs.lemmas.Bool.{cases_lt, true≢false}
use Rattle.std.specs.Option.{option_copied}
use Rattle.std.specs.Prelude.{Bool, IfSome, List, None, OnOk, Option, Result, Some, [], cond, false, true, is_some, length, option_map, suc, take, zero, ℕ, ◌<◌, ◌^◌, ◌∷◌, ◌≡◌, ◌≤◌}

module _ {V W : Type 0} (f : V → W) (m : Map V) (k : ℕ) where
  pub row-kept : (old new : V) (n : Map W) → each f m ≡ n → at m k ≡ Some old → f new ≡ f old → each f (put m k new) ≡ n
  row-kept old new n is there same =
      each-put f m k new ∙ ap (put (each f m) k) same ∙ put-same (each f m) k (f old) (at-each f m k ∙ ap (option_map f) there) ∙ is

pub room-made : {V : Type 0} (f : V → ℕ) (m : Map V) (k : ℕ) (new : V) {R E : Type 0} (result : Result R E) (end : ℕ) → OnOk result (end ≤ f new) → OnOk result (IfSome (at (each f (put m k new)) k) (λ room. end ≤ room))
room-made f m k new result end l =
    let here = at-each f (put m k new) k ∙ ap (option_map f) (at-here m k k new refl) in
    subst (λ o. OnOk result (IfSome o (λ room. end ≤ room))) (sym here) l

-- what is lent says whether it is there
pub lent-none : {X : Type 0} (o : Option (Bor X)) (q : Option X) → option_copied o ≡ q → is_some o ≡ false → q ≡ None
lent-none None q e h = sym e
lent-none (Some x) q e h = absurd (true≢false h)

pub absent-shown : {V W : Type 0} (f : V → W) (m : Map V) (k : ℕ) (n : Map W) (o : Option (Bor V)) (b : Bool) → each f m ≡ n → option_copied o ≡ at m k → b ≡ is_some o → b ≡ false → at n k ≡ None
absent-shown f m k n o b are is told no_one = ap (λ m. at m k) (sym are) ∙ at-each f m k ∙ ap (option_map f) (lent-none o (at m k) is (sym told ∙ no_one))

-- nothing is all of nothing
pub none-taken : (xs ys : List ℕ) → length xs ≤ length ys → length ys ≡ 0 → xs ≡ take (length xs) ys
none-taken [] ys l h = refl
none-taken (x ∷ xs) ys l h = absurd (omega arith)

-- the keys of guests
pub guest-put : (m : Map ConsoleRow) (k : ℕ) (v : ConsoleRow) → k < 2 ^ 32 → AreOfGuests m → AreOfGuests (put m k v)
guest-put m k v l h = λ q past. at-other m k q v (λ same. (omega (arith, past, l, same))) ∙ h q past

in-get : {X : Type 0} (xs : List X) (i : ℕ) (d : X) → i < length xs → In (get_or xs i d) xs
in-get [] i d l = absurd (omega arith)
in-get (x ∷ xs) zero d l = inl refl
in-get (x ∷ xs) (suc i) d l = inr (in-get xs i d (omega arith))

pub guest-fits : (m : Map ConsoleRow) (rows : List (ℕ × ConsoleRow)) (i : ℕ) (d : ℕ × ConsoleRow) → AreOfGuests m → rows ≡ entries m → i < length rows → (get_or rows i d).0 < 2 ^ 32
guest-fits m rows i d h are l = elim (cases_lt (get_or rows i d).0 (2 ^ 32)) [
  | inl fits ↦ fits
  | inr past ↦
      let there = in-at m (get_or rows i d) (subst (In (get_or rows i d)) are (in-get rows i d l)) in
      no-value (get_or rows i d).1 (sym there ∙ h (get_or rows i d).0 past)
]

-- the rows that pass a test of their keys
pub kept-each : {V W : Type 0} (f : V → W) (test : ℕ → Bool) (m : Map V) → each f (kept (λ k _. test k) m) ≡ kept (λ k _. test k) (each f m)
kept-each {V} {W} f test m = same_rows _ _ (λ q.
    at-each f (kept (λ k _. test k) m) q ∙ ap (option_map f) (at-collect (λ k v. cond (test k) (Some v) None) m q) ∙ go q (at m q) (test q)
    ∙ sym (at-collect (λ k v. cond (test k) (Some v) None) (each f m) q ∙ ap (λ o. and_then o (λ v. cond (test q) (Some v) None)) (at-each f m q)))
  where
    go : (q : ℕ) (o : Option V) (b : Bool) → option_map f (and_then o (λ v. cond b (Some v) None)) ≡ and_then (option_map f o) (λ v. cond b (Some v) None)
    go q None b = refl
    go q (Some v) true = refl
    go q (Some v) false = refl
