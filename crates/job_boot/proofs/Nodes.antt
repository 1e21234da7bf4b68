-- The node with a guest more: its number isn't used before.
use Rattle.file_model.specs.Files.{Files}
use Rattle.hybrid_laws.proofs.memory.Written.{each-entry}
use Rattle.hybrid_model.specs.Tallies.{Each}
use Rattle.job_boot.specs.Guests.{IsBefore, begun, new_process, new_thread, without_guests}
use Rattle.job_model.specs.declared.job.Job.{Job}
use Rattle.kernel_model.specs.Nodes.{Node, Process, Thread, threads_of}
use Rattle.kernel_model.specs.OneKernel.{first_free_number}
use Rattle.kernel_tables.specs.Shown.{node_of}
use Rattle.kernel_tables.specs.declared.tables.KernelTables.{KernelTables as Tables}
use Rattle.mck_word.specs.MapLaws.{at-none, at-put}
use Rattle.mck_word.specs.Maps.{Map, at, entries, put}
use Rattle.mck_word.specs.declared.Regs.{Regs}
use Rattle.std.proofs.Common.{ap, arith, inl, inr, refl, sym, ◌∙◌}
use Rattle.std.proofs.lemmas.Bool.Decides.{nat_tests}
use Rattle.std.proofs.lemmas.Bool.{cases_lt}
use Rattle.std.specs.Prelude.{Bool, List, None, Some, [], cond, false, filter, length, map, max, true, ℕ, ◌+◌, ◌==◌, ◌∷◌, ◌≡◌, ◌≤◌}

module _ (n : ℕ) (m : Map Thread) (none : (t : ℕ) → n ≤ t → at m t ≡ None) (own : (t : ℕ) (y : Thread) → at m t ≡ Some y → y.process ≡ t) where
  other : (t : ℕ) (y : Thread) → at m t ≡ Some y → (y.process == n) ≡ false
  other t y e = elim (cases_lt t n) [
    | inl l ↦ let same = own t y e in grind (arith, nat_tests, same, l)
    | inr u ↦ absurd (let a = sym (none t (omega (arith, u))) ∙ e in grind (arith, a))
  ]

  none-in : (es : List (ℕ × Thread)) → Each (λ (x : ℕ × Thread). at m x.0 ≡ Some x.1) es → length (filter (λ (x : Thread). x.process == n) (map (λ (e : ℕ × Thread). e.1) es)) ≡ 0
  none-in [] k = refl
  none-in (x ∷ xs) k =
      let rest = filter (λ (y : Thread). y.process == n) (map (λ (e : ℕ × Thread). e.1) xs) in
      ap (λ (b : Bool). length (cond b (x.1 ∷ rest) rest)) (other x.0 x.1 k.0) ∙ none-in xs k.1

pub alone : (n : ℕ) (node : Node) → IsBefore n node → length (threads_of node n) ≡ 0
alone n node before = none-in n node.threads before.none before.own (entries node.threads) (each-entry node.threads)

same-next : (next n : ℕ) → next ≡ first_free_number → n ≤ 16 → max next (n + 1) ≡ next
same-next next n e l = omega (arith, e, l)

pub one-more : (n : ℕ) (regs : Regs) (base : ℕ) (a b z : Node) (process : Process) → IsBefore n a → n ≤ 16 → b ≡ record a { processes = put a.processes n process }
    → z ≡ record b { threads = put b.threads n (new_thread n regs); next_number = max b.next_number (n + 1) } → process ≡ new_process base → z ≡ begun n regs base a
one-more n regs base a b z process before most puts begins is =
    begins ∙ ((λ i. record (puts i) { threads = put (puts i).threads n (new_thread n regs); next_number = max (puts i).next_number (n + 1) })
    ∙ (λ i. record a { processes = put a.processes n (is i); threads = put a.threads n (new_thread n regs); next_number = same-next a.next_number n before.next most i }))

-- the next number isn't used either
pub before-more : (n : ℕ) (regs : Regs) (base : ℕ) (a : Node) → IsBefore n a → IsBefore (n + 1) (begun n regs base a)
before-more n regs base a before = record {
  next = before.next;
  none = λ t l. at-put a.threads n (new_thread n regs) t ∙ (let e : (t == n) ≡ false = grind (arith, nat_tests, l) in ap (λ b. cond b (Some (new_thread n regs)) (at a.threads t)) e ∙ before.none t (omega (arith, l)));
  own = λ t y e. go t y (t == n) refl (sym (at-put a.threads n (new_thread n regs) t) ∙ e);
}
  where
    go : (t : ℕ) (y : Thread) (b : Bool) → (t == n) ≡ b → cond b (Some (new_thread n regs)) (at a.threads t) ≡ Some y → y.process ≡ t
    go t y true s e = let same : new_thread n regs ≡ y = cc in let here : t ≡ n = grind (arith, nat_tests, s) in sym (ap (λ (x : Thread). x.process) same) ∙ sym here
    go t y false s e = before.own t y e

-- ---- the tables, whatever the files are

pub any-files : (n : ℕ) (node : Tables) (files others : Files) → IsBefore n (node_of node files) → IsBefore n (node_of node others)
unfolding node_of
any-files n node files others before = record { next = before.next; none = before.none; own = before.own }

-- before the first guest no thread was made
pub begins-before : (job : Job) → IsBefore 1 (without_guests job)
begins-before job = record { next = refl; none = λ t l. at-none t; own = λ t y e. absurd (let a = sym (at-none t) ∙ e in grind (arith, a)) }
