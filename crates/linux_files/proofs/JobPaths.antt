-- A path of a job: the directories that are there, and those that are made.
use Rattle.file_model.specs.Files.{Files, Inode, Name, made}
use Rattle.file_model.specs.Paths.{add_file, child, stands_as}
use Rattle.file_tree.proofs.Members.{In, at-in, find-none, in-at, value-same}
use Rattle.file_tree.proofs.Stored.{at-here}
use Rattle.file_tree.proofs.Totals.{total-put}
use Rattle.file_tree.specs.Trees.{bytes_in}
use Rattle.linux_files.proofs.Keeps.{put-there}
use Rattle.linux_files.specs.Jobs.{AreShort, CanBeMade, IsClear}
use Rattle.mck_word.specs.MapLaws.{at-put, same_rows}
use Rattle.mck_word.specs.Maps.{Map, at, change, change_row, entries, put}
use Rattle.std.proofs.Common.{ap, arith, inl, inr, refl, subst, sym, ◌∙◌}
use Rattle.std.proofs.lemmas.Bool.{ne_eqb, true≢false}
use Rattle.std.specs.Prelude.{Bool, MatchOption, bytes_eq, is_some, List, None, Option, Some, [], cond, false, find, length, option_map, true, ℕ, ◌&&◌, ◌+◌, ◌<◌, ◌==◌, ◌∷◌, ◌≡◌, ◌≢◌, ◌≤◌}

none-mapped : {A B : Type 0} (f : A → B) (o : Option A) → option_map f o ≡ None → o ≡ None
none-mapped f None e = refl
none-mapped f (Some x) e = absurd (true≢false (ap (λ (o : Option _). elim o [ None ↦ false | Some _ ↦ true ]) e))

none-found : {A : Type 0} (p : A → Bool) (xs : List A) → ((x : A) → In x xs → p x ≡ false) → find p xs ≡ None
none-found p [] h = refl
none-found p (x ∷ xs) h = ap (λ (b : Bool). cond b (Some x) (find p xs)) (h x (inl refl)) ∙ none-found p xs (λ y i. h y (inr i))

-- a node in another directory is no child
module _ (files : Files) (here directory : ℕ) (name other : Name) (kind : Bool) (apart : here ≢ directory) where
  x : Inode
  x = record { parent = here; name = Some name; directory = kind; bytes = [] }

  passes : ℕ × Inode → Bool
  passes e = stands_as directory other e.1

  misses : passes (files.next_node, x) ≡ false
  unfolding passes x
  misses = ap (λ (b : Bool). b && bytes_eq name other) (ne_eqb here directory apart)

  pub made-apart : child files directory other ≡ None → child (made here name kind files) directory other ≡ None
  unfolding passes x
  made-apart none = ap (option_map (λ (e : ℕ × Inode). e.0)) (none-found passes (entries (put files.nodes files.next_node x)) each)
    where
      before : find passes (entries files.nodes) ≡ None
      before = none-mapped (λ (e : ℕ × Inode). e.0) (find passes (entries files.nodes)) none

      each : (e : ℕ × Inode) → In e (entries (put files.nodes files.next_node x)) → passes e ≡ false
      each e i =
          let there = in-at (put files.nodes files.next_node x) e i in
          elim (put-there files.nodes files.next_node x e.0 e.1 there) [
            | inl same ↦ ap (stands_as directory other) (value-same e.1 x (sym there ∙ at-here files.nodes files.next_node e.0 x same)) ∙ misses
            | inr old ↦ find-none passes (entries files.nodes) e before (at-in files.nodes e.0 e.1 old.1)
          ]

pub clear-made : (files : Files) (here directory : ℕ) (name : Name) (kind : Bool) (names : List Name) → here < directory → IsClear files directory names → IsClear (made here name kind files) directory names
clear-made files here directory name kind [] l h = tt
clear-made files here directory name kind (other ∷ names) l h =
    (made-apart files here directory name other kind (omega arith) h.0, clear-made files here (directory + 1) name kind names (omega arith) h.1)

-- the files with one more directory
module _ (files : Files) (here : ℕ) (names rest : List Name) (name : Name) (m : Map Inode) (n : ℕ) (are : names ≡ name ∷ rest) (maps : m ≡ put files.nodes files.next_node (record { parent = here; name = Some name; directory = true; bytes = [] }))
    (next : n ≡ files.next_node + 1) (clear : CanBeMade files here names) where
  abbrev pub one_more : Files
  one_more = record files { nodes = m; next_node = n }

  same : one_more ≡ made here name true files
  same = λ i. record files { nodes = maps i; next_node = next i }

  split : CanBeMade files here (name ∷ rest)
  split = subst (CanBeMade files here) are clear

  pub absent : child files here name ≡ None
  absent = split.0

  pub clear-next : (directory : ℕ) → directory ≡ files.next_node → here < files.next_node → CanBeMade one_more directory rest
  clear-next directory e l = subst (λ (n : ℕ). CanBeMade one_more n rest) (sym e) (subst (λ (f : Files). CanBeMade f files.next_node rest) (sym same) (go rest split.1))
    where
      go : (rest : List Name) → IsClear files files.next_node rest → CanBeMade (made here name true files) files.next_node rest
      go [] h = tt
      go (other ∷ names) h = (made-apart files here files.next_node name other true (omega arith) h.0, clear-made files here (files.next_node + 1) name true names (omega arith) h.1)

-- the last name
module _ {V : Type 0} where
  put-twice : (m : Map V) (k : ℕ) (v w : V) → put (put m k v) k w ≡ put m k w
  put-twice m k v w = same_rows _ _ (λ q. at-put (put m k v) k w q ∙ ap (cond (q == k) (Some w)) (at-put m k v q) ∙ go (q == k) (Some w) (at m q) ∙ sym (at-put m k w q))
    where
      go : (b : Bool) (o p : Option V) → cond b o (cond b (Some v) p) ≡ cond b o p
      go true o p = refl
      go false o p = refl

  change-put : (m : Map V) (k : ℕ) (v : V) (f : V → V) → change (put m k v) k f ≡ put m k (f v)
  change-put m k v f = ap (change_row (put m k v) k f) (at-here m k k v refl) ∙ put-twice m k v (f v)

pub add-last : (files : Files) (here : ℕ) (names rest : List Name) (name : Name) (bytes : List ℕ) (m : Map Inode) (n : ℕ) → names ≡ name ∷ rest → rest ≡ []
    → m ≡ put files.nodes files.next_node (record { parent = here; name = Some name; directory = false; bytes = bytes }) → n ≡ files.next_node + 1 → record files { nodes = m; next_node = n } ≡ add_file here names bytes files
add-last files here names rest name bytes m n are e maps next =
    (λ i. record files { nodes = maps i; next_node = next i })
    ∙ ap (λ (rows : Map Inode). record files { nodes = rows; next_node = files.next_node + 1 })
    (sym (change-put files.nodes files.next_node (record { parent = here; name = Some name; directory = false; bytes = [] }) (λ (x : Inode). record x { bytes = bytes })))
    ∙ ap (λ (ns : List Name). add_file here ns bytes files) (sym (are ∙ ap (λ (ns : List Name). name ∷ ns) e))

-- an empty node adds no bytes
pub bytes-made : (m now : Map Inode) (k : ℕ) (x : Inode) → now ≡ put m k x → x.bytes ≡ [] → bytes_in now ≤ bytes_in m
bytes-made m now k x is e = let same = ap bytes_in is in let whole = total-put (λ (x : Inode). length x.bytes) m k x in let none = ap length e in omega arith

pub short-first : (names rest : List Name) (name : Name) → names ≡ name ∷ rest → AreShort names → (length name ≤ 255) × AreShort rest
short-first names rest name e h = subst AreShort e h

pub fewer-left : (names rest : List Name) (name : Name) → names ≡ name ∷ rest → length names ≡ length rest + 1
fewer-left names rest name e = ap length e ∙ (let n : length (name ∷ rest) ≡ length rest + 1 = omega arith in n)

-- what is told where an answer isn't there
pub none-case : {A : Type 0} (P : Type 0) (Q : A → Type 0) (o : Option A) → is_some o ≡ false → MatchOption o P Q → P
none-case P Q None h m = m
none-case P Q (Some x) h m = absurd (true≢false h)
