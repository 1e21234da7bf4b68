-- A file that is made with its bytes.
use Rattle.file_model.specs.Files.{Files, Inode, Name}
use Rattle.file_model.specs.Paths.{add_file}
use Rattle.mck_word.specs.MapLaws.{at-put, same_rows}
use Rattle.mck_word.specs.Maps.{Map, at, change, change_row, put}
use Rattle.std.proofs.Common.{◌≡◌, ◌+◌, ◌∙◌, ◌==◌, ℕ, Bool, true, false, cond, List, [], ◌∷◌, Option, Some, None, ap, refl, sym}
use Rattle.std.proofs.lemmas.Bool.{eq-eqb, true≢false}
use Rattle.std.specs.Prelude.{MatchOption, is_some}

pub none-case : {A : Type 0} (P : Type 0) (Q : A → Type 0) (o : Option A) → is_some o ≡ false → MatchOption o P Q → P
none-case P Q None h m = m
none-case P Q (Some x) h m = absurd (true≢false h)

module _ {V : Type 0} where
  put-twice : (m : Map V) (k : ℕ) (v w : V) → put (put m k v) k w ≡ put m k w
  put-twice m k v w = same_rows _ _ (λ q. at-put (put m k v) k w q ∙ ap (cond (q == k) (Some w)) (at-put m k v q) ∙ go (q == k) (Some w) (at m q) ∙ sym (at-put m k w q))
    where
      go : (b : Bool) (o p : Option V) → cond b o (cond b (Some v) p) ≡ cond b o p
      go true o p = refl
      go false o p = refl

  change-put : (m : Map V) (k : ℕ) (v : V) (f : V → V) → change (put m k v) k f ≡ put m k (f v)
  change-put m k v f = ap (change_row (put m k v) k f) (at-put m k v k ∙ ap (λ b. cond b (Some v) (at m k)) (eq-eqb k k refl)) ∙ put-twice m k v (f v)

pub add-last : (files : Files) (here : ℕ) (names rest : List Name) (name : Name) (bytes : List ℕ) (m : Map Inode) (n : ℕ) (x : Inode) → names ≡ name ∷ rest → rest ≡ []
    → x ≡ record { parent = here; name = Some name; directory = false; bytes = bytes } → m ≡ put files.nodes files.next_node x → n ≡ files.next_node + 1
    → record files { nodes = m; next_node = n } ≡ add_file here names bytes files
add-last files here names rest name bytes m n x e f is maps next =
    (λ i. record files { nodes = maps i; next_node = next i })
    ∙ ap (λ (x : Inode). record files { nodes = put files.nodes files.next_node x; next_node = files.next_node + 1 }) is
    ∙ ap (λ (rows : Map Inode). record files { nodes = rows; next_node = files.next_node + 1 })
    (sym (change-put files.nodes files.next_node (record { parent = here; name = Some name; directory = false; bytes = [] }) (λ (x : Inode). record x { bytes = bytes })))
    ∙ ap (λ (ns : List Name). add_file here ns bytes files) (sym (e ∙ ap (λ (ns : List Name). name ∷ ns) f))
