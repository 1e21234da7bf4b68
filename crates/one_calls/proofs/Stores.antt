-- Stores that are left out where they can't be made, one after another.
use Rattle.isa_model.specs.Memory.{Memory, Page, lacks_in, may_access, page_with, put_byte, write_bytes}
use Rattle.kernel_model.specs.Signals.{Store, View, store, stored_all, try_store}
use Rattle.mck_word.specs.MapLaws.{at-put}
use Rattle.mck_word.specs.Maps.{at, change, change_row}
use Rattle.mck_word.specs.Words.{little_endian}
use Rattle.mck_word.specs.declared.Access.TheVariants.{Write}
use Rattle.mck_word.specs.declared.Access.{Access}
use Rattle.one_calls.specs.Words.{told}
use Rattle.std.proofs.Common.{ap, inl, inr, refl, sym, ◌∙◌}
use Rattle.std.proofs.lemmas.Bool.{cases_eq, eq-eqb, ne_eqb}
use Rattle.std.specs.Prelude.{Bool, List, None, Option, Some, [], cond, false, length, not, suc, true, zero, ℕ, ◌&&◌, ◌+◌, ◌++◌, ◌/◌, ◌==◌, ◌∷◌, ◌≡◌}

-- a row that is changed lacks what it lacked
changed-lacks : (m : Memory) (k : ℕ) (f : Page → Page) (x : Access) (q : ℕ) → ((page : Page) → lacks_in x (Some (f page)) ≡ lacks_in x (Some page)) → lacks_in x (at (change m k f) q) ≡ lacks_in x (at m q)
changed-lacks m k f x q same = go (at m k) refl
  where
    there : (page : Page) → at m k ≡ Some page → lacks_in x (cond (q == k) (Some (f page)) (at m q)) ≡ lacks_in x (at m q)
    there page is = elim (cases_eq q k) [
      | inl e ↦ ap (λ b. lacks_in x (cond b (Some (f page)) (at m q))) (eq-eqb q k e) ∙ (same page ∙ ap (lacks_in x) (sym is ∙ ap (at m) (sym e)))
      | inr d ↦ ap (λ b. lacks_in x (cond b (Some (f page)) (at m q))) (ne_eqb q k d)
    ]

    go : (o : Option Page) → at m k ≡ o → lacks_in x (at (change_row m k f o) q) ≡ lacks_in x (at m q)
    go None is = refl
    go (Some page) is = ap (lacks_in x) (at-put m k (f page) q) ∙ there page is

write-lacks : (bs : List ℕ) (m : Memory) (a : ℕ) (x : Access) (q : ℕ) → lacks_in x (at (write_bytes m a bs) q) ≡ lacks_in x (at m q)
unfolding write_bytes
write-lacks [] m a x q = refl
write-lacks (b ∷ bs) m a x q = write-lacks bs (put_byte m a b) (a + 1) x q ∙ changed-lacks m (a / 4096) (page_with a b) x q (λ page. refl)

-- what may be accessed is what might be before bytes were stored
may-written : (n : ℕ) (m : Memory) (a : ℕ) (bs : List ℕ) (x : Access) (address : ℕ) → may_access (write_bytes m a bs) x address n ≡ may_access m x address n
may-written zero m a bs x address = refl
may-written (suc n) m a bs x address = λ i. not (write-lacks bs m a x (address / 4096) i) && may-written n m a bs x (address + 1) i

pub may-stored : (ss : List Store) (m : Memory) (x : Access) (address n : ℕ) → may_access (stored_all ss m) x address n ≡ may_access m x address n
may-stored [] m x address n = refl
may-stored (s ∷ ss) m x address n = may-stored ss (write_bytes m s.address s.bytes) x address n ∙ may-written n m s.address s.bytes x address

stored-more : (ss : List Store) (s : Store) (m : Memory) → stored_all (ss ++ s ∷ []) m ≡ write_bytes (stored_all ss m) s.address s.bytes
stored-more [] s m = refl
stored-more (x ∷ ss) s m = stored-more ss s (write_bytes m x.address x.bytes)

module _ (asked : Bool) (address n : ℕ) (v : View) where
  -- a number that is told where it is asked for and may be
  abbrev pub tells : View
  tells = cond asked (try_store address (little_endian 4 n) v) v

  abbrev may-tell : Bool
  may-tell = may_access v.memory Write address (length (little_endian 4 n))

  abbrev pub Kept : View → Type 0
  Kept w = (w.node ≡ v.node) × (w.memory ≡ v.memory)

  tells-kept : Kept tells
  tells-kept = go asked may-tell
    where
      go : (a b : Bool) → Kept (cond a (cond b (store address (little_endian 4 n) v) v) v)
      go false b = (refl, refl)
      go true false = (refl, refl)
      go true true = (refl, refl)

  pub tells-node : tells.node ≡ v.node
  tells-node = tells-kept.0

  pub tells-memory : tells.memory ≡ v.memory
  tells-memory = tells-kept.1

  pub tells-stored : (m : Memory) → v.memory ≡ m → stored_all tells.stores m ≡ told asked address n (stored_all v.stores m)
  tells-stored m began = go asked
    where
      bytes : List ℕ
      bytes = little_endian 4 n

      may : may_access v.memory Write address (length bytes) ≡ may_access (stored_all v.stores m) Write address (length bytes)
      may = ap (λ x. may_access x Write address (length bytes)) began ∙ sym (may-stored v.stores m Write address (length bytes))

      stored : (b : Bool) → stored_all (cond b (store address bytes v) v).stores m ≡ cond b (write_bytes (stored_all v.stores m) address bytes) (stored_all v.stores m)
      stored true = stored-more v.stores (record { address = address; bytes = bytes }) m
      stored false = refl

      go : (a : Bool) → stored_all (cond a (try_store address bytes v) v).stores m ≡ told a address n (stored_all v.stores m)
      go false = refl
      go true = stored (may_access v.memory Write address (length bytes)) ∙ ap (λ b. cond b (write_bytes (stored_all v.stores m) address bytes) (stored_all v.stores m)) may
