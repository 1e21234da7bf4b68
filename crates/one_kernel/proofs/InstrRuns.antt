-- Instructions of a thread, one step after another, are the run of its registers and memory.
use Rattle.hybrid_laws.proofs.node.Threads.{counted-more, counted-thread}
use Rattle.isa_model.specs.Instr.{Outcome, instr, outcome}
use Rattle.isa_model.specs.Memory.{Memory}
use Rattle.isa_model.specs.declared.stops.Stop.{Stop}
use Rattle.isa_model.specs.declared.stops.Stop.TheVariants.{Break, Ecall, Fault, Illegal, Misaligned, On}
use Rattle.kernel_model.specs.Nodes.{Node, Process, Thread, change_process, change_thread, has_thread, instructions_in_all, is_living, no_thread, ready_to_run, thread_of}
use Rattle.kernel_model.specs.OneKernel.{OneHere, OneKernel, Own, no_own, one_here, put_one_here}
use Rattle.kernel_model.specs.Steps.{after, after_all, after_here, may, may_all}
use Rattle.kernel_model.specs.Signals.{is_deliverable}
use Rattle.kernel_model.specs.Traps.{does_after, may_run}
use Rattle.kernel_model.specs.declared.steps.Step.TheVariants.{Instr}
use Rattle.mck_word.specs.MapLaws.{at-put, same_rows}
use Rattle.mck_word.specs.Maps.{Map, at, change, change_row, put}
use Rattle.mck_word.specs.declared.Regs.{Regs}
use Rattle.mck_word.specs.declared.Tid.{Tid}
use Rattle.one_kernel.proofs.Calling.{both}
use Rattle.one_memory.specs.Counts.{executed_count, stopped_one}
use Rattle.rv64i_user.specs.Runs.{count_on, instrs, then_count, then_on}
use Rattle.std.proofs.Common.{ap, arith, refl, sym, ◌∙◌}
use Rattle.std.proofs.lemmas.Bool.Decides.{nat_tests}
use Rattle.std.specs.Prelude.{Bool, None, Option, Some, cond, false, nat_lt, not, replicate, suc, true, unwrap_or, zero, ℕ, ◌&&◌, ◌+◌, ◌<◌, ◌==◌, ◌≡◌, ◌≤◌}

-- ---- a row changed twice
module _ {V : Type 0} (m : Map V) (k : ℕ) where
  pub at-own : (v : V) → at (put m k v) k ≡ Some v
  at-own v = let same : (k == k) ≡ true = grind (arith, nat_tests) in at-put m k v k ∙ ap (λ b. cond b (Some v) (at m k)) same

  pub put-twice : (v w : V) → put (put m k v) k w ≡ put m k w
  put-twice v w = same_rows _ _ (λ q. at-put (put m k v) k w q ∙ ap (cond (q == k) (Some w)) (at-put m k v q) ∙ go (q == k) (at m q) ∙ sym (at-put m k w q))
    where
      go : (b : Bool) (o : Option V) → cond b (Some w) (cond b (Some v) o) ≡ cond b (Some w) o
      go true o = refl
      go false o = refl

  change-twice : (f g h : V → V) → ((v : V) → g (f v) ≡ h v) → change (change m k f) k g ≡ change m k h
  change-twice f g h e = go (at m k) refl
    where
      go : (o : Option V) → at m k ≡ o → change (change m k f) k g ≡ change m k h
      go None there =
          ap (λ n. change n k g) (ap (change_row m k f) there) ∙ ap (change_row m k g) there ∙ sym (ap (change_row m k h) there)
      go (Some v) there =
          ap (λ n. change n k g) (ap (change_row m k f) there) ∙ ap (change_row (put m k (f v)) k g) (at-own (f v))
          ∙ put-twice (f v) (g (f v)) ∙ ap (put m k) (e v) ∙ sym (ap (change_row m k h) there)

-- ---- the node after instructions
abbrev pub run_thread : Outcome → Thread → Thread
run_thread o x = record x { regs = o.regs; does = does_after o.stop; back = false }

abbrev run_process : ℕ → Process → Process
run_process k p = record p { instructions = p.instructions + k }

abbrev pub node_after : ℕ → Outcome → ℕ → Node → Node
node_after t o k node = change_process (thread_of node t).process (run_process k) (change_thread t (run_thread o) node)

thread-is : (node : Node) (t : ℕ) (x : Thread) → at node.threads t ≡ Some x → thread_of node t ≡ x
thread-is node t x there = ap (λ o. unwrap_or o no_thread) there

more-instructions : (k : ℕ) (p : Process) → run_process k (run_process 1 p) ≡ run_process (suc k) p
more-instructions k p = let e : p.instructions + 1 + k ≡ p.instructions + suc k = omega arith in λ i. record p { instructions = e i }

-- what follows the node's first instruction
after-first : (t : ℕ) (node : Node) (x : Thread) (e o : Outcome) (k : ℕ) → at node.threads t ≡ Some x → node_after t o k (node_after t e 1 node) ≡ node_after t o (suc k) node
after-first t node x e o k there =
    let p = (thread_of node t).process in
    let same : (thread_of (node_after t e 1 node) t).process ≡ p =
    ap (λ (y : Thread). y.process) (thread-is (node_after t e 1 node) t (run_thread e x) (counted-thread node t e x there)) ∙ sym (ap (λ (y : Thread). y.process) (thread-is node t x there)) in
    let processes = ap (λ q. change (change node.processes p (run_process 1)) q (run_process k)) same
    ∙ change-twice node.processes p (run_process 1) (run_process k) (run_process (suc k)) (more-instructions k) in
    let threads = change-twice node.threads t (run_thread e) (run_thread o) (run_thread o) (λ y. refl) in
    λ i. record node { processes = processes i; threads = threads i }

-- an instruction after which the thread is Ready went on
on-is : (s : Stop) → ready_to_run (does_after s) ≡ true → s ≡ On
on-is On e = refl
on-is Ecall e = absurd (cc)
on-is Break e = absurd (cc)
on-is Illegal e = absurd (cc)
on-is Misaligned e = absurd (cc)
on-is (Fault l) e = absurd (cc)

-- the last instruction, whether it stops or not
last-is : (q : Regs) (w : Memory) (s : Stop) → then_on s (instrs 0) (outcome q w s) ≡ outcome q w s
unfolding instrs
last-is q w On = refl
last-is q w Ecall = refl
last-is q w Break = refl
last-is q w Illegal = refl
last-is q w Misaligned = refl
last-is q w (Fault l) = refl

last-count : (q : Regs) (w : Memory) (s : Stop) → then_count s (count_on 0) (outcome q w s) + stopped_one (then_on s (instrs 0) (outcome q w s)).stop ≡ 1
unfolding instrs count_on
last-count q w On = refl
last-count q w Ecall = refl
last-count q w Break = refl
last-count q w Illegal = refl
last-count q w Misaligned = refl
last-count q w (Fault l) = refl

one-is : (r : Regs) (m : Memory) → instrs 1 r m ≡ instr r m
unfolding instrs
one-is r m = let e = instr r m in last-is e.regs e.memory e.stop

one-count : (r : Regs) (m : Memory) → executed_count 1 r m ≡ 1
unfolding instrs count_on
one-count r m = let e = instr r m in last-count e.regs e.memory e.stop

-- those that follow one that went on
more-is : (n : ℕ) (r : Regs) (m : Memory) → (instr r m).stop ≡ On → instrs (suc n) r m ≡ instrs n (instr r m).regs (instr r m).memory
unfolding instrs
more-is n r m on = let e = instr r m in ap (λ s. then_on s (instrs n) e) on

more-count : (n : ℕ) (r : Regs) (m : Memory) → (instr r m).stop ≡ On → executed_count (suc n) r m ≡ suc (executed_count n (instr r m).regs (instr r m).memory)
unfolding instrs count_on
more-count n r m on =
    let e = instr r m in
    (λ i. then_count (on i) (count_on n) e + stopped_one (then_on (on i) (instrs n) e).stop) ∙ (let k : suc (count_on n e.regs e.memory) + stopped_one (instrs n e.regs e.memory).stop ≡ suc (count_on n e.regs e.memory + stopped_one (instrs n e.regs e.memory).stop) = omega arith in k)

module _ (t : Tid) (p : ℕ) where
  -- the state after n instructions
  abbrev pub ran : OneKernel → Own → Outcome → ℕ → OneKernel
  ran o w e n = record o { node = node_after t.0 e n o.node; own = put o.own p (record w { memory = e.memory }) }

  pub first-is : (o : OneKernel) (x : Thread) (w : Own) → at o.node.threads t.0 ≡ Some x → x.process ≡ p → at o.own p ≡ Some w → after o (Instr t) ≡ ran o w (instr x.regs w.memory) 1
  first-is o x w there own row =
      let process : (thread_of o.node t.0).process ≡ p = ap (λ (y : Thread). y.process) (thread-is o.node t.0 x there) ∙ own in
      let begins : OneHere = record { own = w; node = o.node; free = o.free; born = None } in
      let here : one_here o p ≡ begins = ap (λ z. record begins { own = unwrap_or z no_own }) row in
      (λ i. let q = process i in put_one_here o q (after_here (Instr t) q (one_here o q)))
      ∙ ap (λ (h : OneHere). put_one_here o p (after_here (Instr t) p h)) here
      ∙ ap (λ (y : Thread). ran o w (instr y.regs w.memory) 1) (thread-is o.node t.0 x there)

  pub record Runs (o : OneKernel) (x : Thread) (w : Own) (n : ℕ) : Type 0 where
    pub count : executed_count n x.regs w.memory ≡ n
    pub state : after_all o (replicate n (Instr t)) ≡ ran o w (instrs n x.regs w.memory) n
    pub limit : instructions_in_all o.node + n ≤ o.node.limit

  limit-left : (o : OneKernel) → may o (Instr t) ≡ true → instructions_in_all o.node < o.node.limit
  limit-left o e =
      let l : nat_lt (instructions_in_all o.node) o.node.limit ≡ true = (both (may_run o.node t.0) (nat_lt (instructions_in_all o.node) o.node.limit) e).1 in
      grind (arith, nat_tests, l)

  -- a thread that may run is Ready, and its process lives
  may-parts : (node : Node) (x : Thread) → at node.threads t.0 ≡ Some x → may_run node t.0 ≡ true → (ready_to_run x.does ≡ true) × (is_living node x.process ≡ true)
  may-parts node x there e =
      let y = thread_of node t.0 in
      let lives = both (has_thread node t.0 && ready_to_run y.does && is_living node y.process) (not (is_deliverable node t.0)) e in
      let ready = both (has_thread node t.0 && ready_to_run y.does) (is_living node y.process) lives.0 in
      let is = sym (thread-is node t.0 x there) in
      (ap (λ (z : Thread). ready_to_run z.does) is ∙ (both (has_thread node t.0) (ready_to_run y.does) ready.0).1, ap (λ (z : Thread). is_living node z.process) is ∙ ready.1)

  may-runs : (o : OneKernel) → may o (Instr t) ≡ true → may_run o.node t.0 ≡ true
  may-runs o e = (both (may_run o.node t.0) (nat_lt (instructions_in_all o.node) o.node.limit) e).0

  pub runs-all : (n : ℕ) (o : OneKernel) (x : Thread) (w : Own) → at o.node.threads t.0 ≡ Some x → x.process ≡ p → at o.own p ≡ Some w → may_all o (replicate (suc n) (Instr t)) ≡ true → Runs o x w (suc n)
  runs-all zero o x w there own row may-it = record {
    count = one-count x.regs w.memory;
    state = first-is o x w there own row ∙ ap (λ e. ran o w e 1) (sym (one-is x.regs w.memory));
    limit = (let m = limit-left o (both (may o (Instr t)) true may-it).0 in omega (arith, m));
  }
  runs-all (suc n) o x w there own row may-it = go (runs-all n (ran o w e 1) (run_thread e x) (record w { memory = e.memory }) there-after own (at-own o.own p (record w { memory = e.memory })) later)
    where
      e : Outcome
      e = instr x.regs w.memory

      first : after o (Instr t) ≡ ran o w e 1
      first = first-is o x w there own row

      later : may_all (ran o w e 1) (replicate (suc n) (Instr t)) ≡ true
      later = ap (λ s. may_all s (replicate (suc n) (Instr t))) (sym first) ∙ (both (may o (Instr t)) (may_all (after o (Instr t)) (replicate (suc n) (Instr t))) may-it).1

      there-after : at (ran o w e 1).node.threads t.0 ≡ Some (run_thread e x)
      there-after = counted-thread o.node t.0 e x there

      -- it went on, since the thread is Ready after it
      went-on : e.stop ≡ On
      went-on = on-is e.stop (may-parts (ran o w e 1).node (run_thread e x) there-after (may-runs (ran o w e 1) (both (may (ran o w e 1) (Instr t)) (may_all (after (ran o w e 1) (Instr t)) (replicate n (Instr t))) later).0)).0

      living : is_living o.node x.process ≡ true
      living = (may-parts o.node x there (may-runs o (both (may o (Instr t)) (may_all (after o (Instr t)) (replicate (suc n) (Instr t))) may-it).0)).1

      go : Runs (ran o w e 1) (run_thread e x) (record w { memory = e.memory }) (suc n) → Runs o x w (suc (suc n))
      go r = record {
        count = more-count (suc n) x.regs w.memory went-on ∙ ap suc r.count;
        state = ap (λ s. after_all s (replicate (suc n) (Instr t))) first ∙ r.state
            ∙ (λ i. record o { node = after-first t.0 o.node x e (instrs (suc n) e.regs e.memory) (suc n) there i; own = put-twice o.own p (record w { memory = e.memory }) (record w { memory = (instrs (suc n) e.regs e.memory).memory }) i })
            ∙ ap (λ f. ran o w f (suc (suc n))) (sym (more-is (suc n) x.regs w.memory went-on));
        limit = (let l = r.limit in let more = counted-more o.node t.0 e x there living in omega (arith, l, more));
      }

  -- the same of any number but 0
  pub runs-some : (n : ℕ) (o : OneKernel) (x : Thread) (w : Own) → 1 ≤ n → at o.node.threads t.0 ≡ Some x → x.process ≡ p → at o.own p ≡ Some w → may_all o (replicate n (Instr t)) ≡ true → Runs o x w n
  runs-some zero o x w some there own row may-it = absurd (omega (arith, some))
  runs-some (suc n) o x w some there own row may-it = runs-all n o x w there own row may-it
