-- The node with a guest more: its number isn't used before.
use Rattle.file_model.specs.Files.{Files}
use Rattle.hybrid_laws.proofs.memory.Written.{each-entry}
use Rattle.hybrid_model.specs.Tallies.{Each}
use Rattle.job_model.specs.declared.job.Job.{Job}
use Rattle.kernel_model.specs.Layout.{guest_regs}
use Rattle.kernel_model.specs.Nodes.{Node, Process, Thread, no_thread, threads_of}
use Rattle.kernel_model.specs.OneKernel.{Guest, first_free_number, guest_process}
use Rattle.kernel_tables.specs.Shown.{node_of}
use Rattle.kernel_tables.specs.declared.tables.KernelTables.{KernelTables as Tables}
use Rattle.mck_word.specs.MapLaws.{at-none, at-put}
use Rattle.mck_word.specs.Maps.{Map, at, entries, put}
use Rattle.mck_word.specs.declared.Regs.{Regs}
use Rattle.pair_core.specs.Booting.{IsBefore, no_guests, node_with}
use Rattle.pair_core.specs.Kept.{Takes}
use Rattle.pair_core.specs.declared.parts.Side.{Side}
use Rattle.std.proofs.Common.{ap, arith, inl, inr, refl, subst, sym, ◌∙◌}
use Rattle.std.proofs.lemmas.Bool.Decides.{nat_tests}
use Rattle.std.proofs.lemmas.Bool.{cases_lt}
use Rattle.std.specs.Prelude.{Bool, List, None, Some, [], cond, false, filter, length, map, max, true, ℕ, ◌+◌, ◌==◌, ◌∷◌, ◌≡◌, ◌≤◌}

module _ (n : ℕ) (m : Map Thread) (none : (t : ℕ) → n ≤ t → at m t ≡ None) (own : (t : ℕ) (y : Thread) → at m t ≡ Some y → y.process ≡ t) where
  other : (t : ℕ) (y : Thread) → at m t ≡ Some y → (y.process == n) ≡ false
  other t y e = elim (cases_lt t n) [
    | inl l ↦ let same = own t y e in grind (arith, nat_tests, same, l)
    | inr u ↦ absurd (let a = sym (none t (omega (arith, u))) ∙ e in grind (arith, a))
  ]

  none-in : (es : List (ℕ × Thread)) → Each (λ (x : ℕ × Thread). at m x.0 ≡ Some x.1) es → length (filter (λ (x : Thread). x.process == n) (map (λ (e : ℕ × Thread). e.1) es)) ≡ 0
  none-in [] k = refl
  none-in (x ∷ xs) k =
      let rest = filter (λ (y : Thread). y.process == n) (map (λ (e : ℕ × Thread). e.1) xs) in
      ap (λ (b : Bool). length (cond b (x.1 ∷ rest) rest)) (other x.0 x.1 k.0) ∙ none-in xs k.1

pub alone : (n : ℕ) (node : Node) → IsBefore n node → length (threads_of node n) ≡ 0
alone n node before = none-in n node.threads before.none before.own (entries node.threads) (each-entry node.threads)

abbrev pub first : ℕ → Regs → Thread
first n regs = record no_thread { process = n; regs = regs }

same-next : (next n : ℕ) → next ≡ first_free_number → n ≤ 16 → max next (n + 1) ≡ next
same-next next n e l = omega (arith, e, l)

pub guest-more : (g : Guest) (a b z : Node) (process : Process) (regs : Regs) → IsBefore g.number a → g.number ≤ 16
    → b ≡ record a { processes = put a.processes g.number process }
    → z ≡ record b { threads = put b.threads g.number (first g.number regs); next_number = max b.next_number (g.number + 1) }
    → process ≡ guest_process g → regs ≡ guest_regs g.image g.arguments → z ≡ node_with g a
guest-more g a b z process regs before most puts begins is runs =
    begins ∙ ((λ i. record (puts i) { threads = put (puts i).threads g.number (first g.number regs); next_number = max (puts i).next_number (g.number + 1) })
    ∙ (λ i. record a { processes = put a.processes g.number (is i); threads = put a.threads g.number (first g.number (runs i)); next_number = same-next a.next_number g.number before.next most i }))

-- the next number isn't used either
pub before-more : (g : Guest) (a : Node) → IsBefore g.number a → IsBefore (g.number + 1) (node_with g a)
before-more g a before = record {
  next = before.next;
  none = λ t l. at-put a.threads g.number (first g.number (guest_regs g.image g.arguments)) t ∙ (let e : (t == g.number) ≡ false = grind (arith, nat_tests, l) in ap (λ b. cond b (Some (first g.number (guest_regs g.image g.arguments))) (at a.threads t)) e ∙ before.none t (omega (arith, l)));
  own = λ t y e. go t y (t == g.number) refl (sym (at-put a.threads g.number (first g.number (guest_regs g.image g.arguments)) t) ∙ e);
}
  where
    go : (t : ℕ) (y : Thread) (b : Bool) → (t == g.number) ≡ b → cond b (Some (first g.number (guest_regs g.image g.arguments))) (at a.threads t) ≡ Some y → y.process ≡ t
    go t y true s e = let same : first g.number (guest_regs g.image g.arguments) ≡ y = cc in let here : t ≡ g.number = grind (arith, nat_tests, s) in sym (ap (λ (x : Thread). x.process) same) ∙ sym here
    go t y false s e = before.own t y e

-- ---- the tables, whatever the files are

pub any-files : (n : ℕ) (node : Tables) (files others : Files) → IsBefore n (node_of node files) → IsBefore n (node_of node others)
unfolding node_of
any-files n node files others before = record { next = before.next; none = before.none; own = before.own }

pub same-frames : (a b : Tables) (files : Files) (g : Guest) → node_of b files ≡ node_with g (node_of a files) → b.frame_count ≡ a.frame_count
unfolding node_of
same-frames a b files g e = ap (λ (n : Node). n.frame_count) e

-- ---- the rings of the sides

pub rings-more : {T : Type 0} (n : ℕ) (old new : Map (Side T)) (k : ℕ) (v : Side T) → new ≡ put old k v → ((p : ℕ) (s : Side T) → at old p ≡ Some s → Takes n s.channel) → Takes n v.channel
    → (p : ℕ) (s : Side T) → at new p ≡ Some s → Takes n s.channel
rings-more {T} n old new k v puts kept fresh p s e = go (p == k) (sym (ap (λ (m : Map (Side T)). at m p) puts ∙ at-put old k v p) ∙ e)
  where
    go : (b : Bool) → cond b (Some v) (at old p) ≡ Some s → Takes n s.channel
    go true h = let same : v ≡ s = cc in subst (λ (x : Side T). Takes n x.channel) same fresh
    go false h = kept p s h

-- before the first guest no thread was made
pub begins-before : (job : Job) → IsBefore 1 (no_guests job).node
begins-before job = record { next = refl; none = λ t l. at-none t; own = λ t y e. absurd (let a = sym (at-none t) ∙ e in grind (arith, a)) }
