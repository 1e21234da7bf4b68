-- The node's run of a thread, one instruction after another, is the run of its registers and memory.
use Rattle.hybrid_model.specs.Run.{length_of_run, run_for}
use Rattle.isa_model.specs.Instr.{Outcome, instr, outcome}
use Rattle.isa_model.specs.Memory.{Memory}
use Rattle.isa_model.specs.declared.stops.Stop.{Stop}
use Rattle.isa_model.specs.declared.stops.Stop.TheVariants.{Break, Ecall, Fault, Illegal, Misaligned, On}
use Rattle.kernel_model.specs.Nodes.{Node, Process, Thread, no_thread, ready_to_run, thread_of}
use Rattle.kernel_model.specs.Traps.{Ran, counted, executed}
use Rattle.lwk_run.specs.Counts.{executed_count, node_after, run_process, run_thread, stopped_one}
use Rattle.mck_word.specs.MapLaws.{at-put, same_rows}
use Rattle.mck_word.specs.Maps.{Map, at, change, change_row, put}
use Rattle.mck_word.specs.declared.Regs.{Regs}
use Rattle.rv64i_user.specs.Runs.{count_on, instrs, then_count, then_on}
use Rattle.std.proofs.Common.{ap, arith, refl, sym, ◌∙◌}
use Rattle.std.proofs.lemmas.Bool.Decides.{nat_tests}
use Rattle.std.specs.Prelude.{Bool, None, Option, Some, cond, false, suc, true, unwrap_or, zero, ℕ, ◌+◌, ◌==◌, ◌≡◌, ◌≤◌}

-- ---- a row changed twice
module _ {V : Type 0} (m : Map V) (k : ℕ) where
  at-own : (v : V) → at (put m k v) k ≡ Some v
  at-own v = let same : (k == k) ≡ true = grind (arith, nat_tests) in at-put m k v k ∙ ap (λ b. cond b (Some v) (at m k)) same

  put-twice : (v w : V) → put (put m k v) k w ≡ put m k w
  put-twice v w = same_rows _ _ (λ q. at-put (put m k v) k w q ∙ ap (cond (q == k) (Some w)) (at-put m k v q) ∙ go (q == k) (at m q) ∙ sym (at-put m k w q))
    where
      go : (b : Bool) (o : Option V) → cond b (Some w) (cond b (Some v) o) ≡ cond b (Some w) o
      go true o = refl
      go false o = refl

  change-twice : (f g h : V → V) → ((v : V) → g (f v) ≡ h v) → change (change m k f) k g ≡ change m k h
  change-twice f g h e = go (at m k) refl
    where
      go : (o : Option V) → at m k ≡ o → change (change m k f) k g ≡ change m k h
      go None there =
          ap (λ n. change n k g) (ap (change_row m k f) there) ∙ ap (change_row m k g) there ∙ sym (ap (change_row m k h) there)
      go (Some v) there =
          ap (λ n. change n k g) (ap (change_row m k f) there) ∙ ap (change_row (put m k (f v)) k g) (at-own (f v))
          ∙ put-twice (f v) (g (f v)) ∙ ap (put m k) (e v) ∙ sym (ap (change_row m k h) there)

  at-change : (f : V → V) (v : V) → at m k ≡ Some v → at (change m k f) k ≡ Some (f v)
  at-change f v there = ap (λ n. at n k) (ap (change_row m k f) there) ∙ at-own (f v)

-- ---- one instruction first
thread-is : (node : Node) (t : ℕ) (x : Thread) → at node.threads t ≡ Some x → thread_of node t ≡ x
thread-is node t x there = ap (λ o. unwrap_or o no_thread) there

more-instructions : (k : ℕ) (p : Process) → run_process k (run_process 1 p) ≡ run_process (suc k) p
more-instructions k p = let e : p.instructions + 1 + k ≡ p.instructions + suc k = omega arith in λ i. record p { instructions = e i }

-- what follows the node's first instruction
after-first : (t : ℕ) (node : Node) (x : Thread) (e o : Outcome) (k : ℕ) → at node.threads t ≡ Some x → node_after t o k (counted t e node) ≡ node_after t o (suc k) node
after-first t node x e o k there =
    let p = (thread_of node t).process in
    let same : (thread_of (counted t e node) t).process ≡ p =
    ap (λ (y : Thread). y.process) (thread-is (counted t e node) t (run_thread e x) (at-change node.threads t (run_thread e) x there)) ∙ sym (ap (λ (y : Thread). y.process) (thread-is node t x there)) in
    let processes = ap (λ q. change (change node.processes p (run_process 1)) q (run_process k)) same
    ∙ change-twice node.processes p (run_process 1) (run_process k) (run_process (suc k)) (more-instructions k) in
    let threads = change-twice node.threads t (run_thread e) (run_thread o) (run_thread o) (λ y. refl) in
    λ i. record node { processes = processes i; threads = threads i }

module _ (t : ℕ) where
  abbrev ran : Outcome → Node → Ran
  ran e node = record { node = counted t e node; memory = e.memory }

  abbrev Runs : ℕ → Node → Regs → Memory → Type 0
  Runs n node r m = run_for n t (record { node = node; memory = m }) ≡ record { node = node_after t (instrs n r m) (executed_count n r m) node; memory = (instrs n r m).memory }

  abbrev Follows : ℕ → Node → Outcome → Bool → Type 0
  Follows n node e b = cond b (run_for n t (ran e node)) (ran e node)
      ≡ record { node = node_after t (then_on e.stop (instrs n) e) (then_count e.stop (count_on n) e + stopped_one (then_on e.stop (instrs n) e).stop) node; memory = (then_on e.stop (instrs n) e).memory }

  abbrev Counts : ℕ → Node → Outcome → Bool → Type 0
  Counts n node e b = suc (cond b (length_of_run n t (ran e node)) zero) ≡ then_count e.stop (count_on n) e + stopped_one (then_on e.stop (instrs n) e).stop

  abbrev ready_after : Outcome → Bool
  ready_after e = ready_to_run (run_thread e no_thread).does

  -- the instruction went on
  on-last : (node : Node) (q : Regs) (w : Memory) → Follows 0 node (outcome q w On) true
  unfolding instrs count_on
  on-last node q w = refl

  on-more : (n : ℕ) (node : Node) (x : Thread) (q : Regs) (w : Memory) → at node.threads t ≡ Some x → Runs (suc n) (counted t (outcome q w On) node) q w → Follows (suc n) node (outcome q w On) true
  on-more n node x q w there rest =
      let o = instrs (suc n) q w in
      let k : suc (executed_count (suc n) q w) ≡ suc (count_on (suc n) q w) + stopped_one o.stop = omega arith in
      rest ∙ (λ i. record { node = after-first t node x (outcome q w On) o (executed_count (suc n) q w) there i; memory = o.memory }) ∙ (λ i. record { node = node_after t o (k i) node; memory = o.memory })

  on-follows : (n : ℕ) (node : Node) (x : Thread) (q : Regs) (w : Memory) → at node.threads t ≡ Some x → (1 ≤ n → Runs n (counted t (outcome q w On) node) q w) → Follows n node (outcome q w On) true
  on-follows zero node x q w there rest = on-last node q w
  on-follows (suc n) node x q w there rest = on-more n node x q w there (rest (omega arith))

  follows : (n : ℕ) (node : Node) (x : Thread) (q : Regs) (w : Memory) (s : Stop) → at node.threads t ≡ Some x → (1 ≤ n → Runs n (counted t (outcome q w s) node) q w) → Follows n node (outcome q w s) (ready_after (outcome q w s))
  follows n node x q w On there rest = on-follows n node x q w there rest
  follows n node x q w Ecall there rest = refl
  follows n node x q w Break there rest = refl
  follows n node x q w Illegal there rest = refl
  follows n node x q w Misaligned there rest = refl
  follows n node x q w (Fault l) there rest = refl

  counts : (n : ℕ) (node : Node) (q : Regs) (w : Memory) (s : Stop) → length_of_run n t (ran (outcome q w s) node) ≡ executed_count n q w → Counts n node (outcome q w s) (ready_after (outcome q w s))
  counts n node q w On rest = omega (arith, rest)
  counts n node q w Ecall rest = refl
  counts n node q w Break rest = refl
  counts n node q w Illegal rest = refl
  counts n node q w Misaligned rest = refl
  counts n node q w (Fault l) rest = refl

  ready-is : (node : Node) (x : Thread) (e : Outcome) → at node.threads t ≡ Some x → ready_to_run (thread_of (counted t e node) t).does ≡ ready_after e
  ready-is node x e there = ap (λ (y : Thread). ready_to_run y.does) (thread-is (counted t e node) t (run_thread e x) (at-change node.threads t (run_thread e) x there))

  first-is : (node : Node) (x : Thread) (m : Memory) → at node.threads t ≡ Some x → executed t (record { node = node; memory = m }) ≡ ran (instr x.regs m) node
  first-is node x m there = ap (λ (y : Thread). ran (instr y.regs m) node) (thread-is node t x there)

  abbrev then_run : ℕ → Ran → Ran
  then_run n v = cond (ready_to_run (thread_of v.node t).does) (run_for n t v) v

  one-more : (n : ℕ) (node : Node) (x : Thread) (m : Memory) → at node.threads t ≡ Some x → (1 ≤ n → Runs n (counted t (instr x.regs m) node) (instr x.regs m).regs (instr x.regs m).memory) → Runs (suc n) node x.regs m
  unfolding instrs count_on
  one-more n node x m there rest =
      let e = instr x.regs m in
      ap (then_run n) (first-is node x m there)
      ∙ ap (λ b. cond b (run_for n t (ran e node)) (ran e node)) (ready-is node x e there)
      ∙ follows n node x e.regs e.memory e.stop there rest

  abbrev then_length : ℕ → Ran → ℕ
  then_length n v = suc (cond (ready_to_run (thread_of v.node t).does) (length_of_run n t v) zero)

  count-more : (n : ℕ) (node : Node) (x : Thread) (m : Memory) → at node.threads t ≡ Some x → length_of_run n t (ran (instr x.regs m) node) ≡ executed_count n (instr x.regs m).regs (instr x.regs m).memory
      → length_of_run (suc n) t (record { node = node; memory = m }) ≡ executed_count (suc n) x.regs m
  unfolding instrs count_on
  count-more n node x m there rest =
      let e = instr x.regs m in
      ap (then_length n) (first-is node x m there)
      ∙ ap (λ b. suc (cond b (length_of_run n t (ran e node)) zero)) (ready-is node x e there)
      ∙ counts n node e.regs e.memory e.stop rest

pub run-after : (n t : ℕ) (node : Node) (x : Thread) (m : Memory) → 1 ≤ n → at node.threads t ≡ Some x
    → run_for n t (record { node = node; memory = m }) ≡ record { node = node_after t (instrs n x.regs m) (executed_count n x.regs m) node; memory = (instrs n x.regs m).memory }
run-after zero t node x m some there = absurd (omega (arith, some))
run-after (suc n) t node x m some there =
    let e = instr x.regs m in
    one-more t n node x m there (λ l. run-after n t (counted t e node) (run_thread e x) e.memory l (at-change node.threads t (run_thread e) x there))

pub run-length : (n t : ℕ) (node : Node) (x : Thread) (m : Memory) → at node.threads t ≡ Some x → length_of_run n t (record { node = node; memory = m }) ≡ executed_count n x.regs m
unfolding instrs count_on
run-length zero t node x m there = refl
run-length (suc n) t node x m there =
    let e = instr x.regs m in
    count-more t n node x m there (run-length n t (counted t e node) (run_thread e x) e.memory (at-change node.threads t (run_thread e) x there))
