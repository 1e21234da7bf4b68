-- What a run leaves of the node where its thread is still ready: the thread may run on, and the limit is as much nearer.
use Rattle.hybrid_laws.proofs.node.Threads.{counted-deliverable, counted-living, counted-more, counted-thread, ready-is, thread-is}
use Rattle.hybrid_laws.proofs.run.Run.{Runs}
use Rattle.hybrid_model.specs.Run.{run_for}
use Rattle.isa_model.specs.Instr.{instr}
use Rattle.kernel_model.specs.Nodes.{Node, Thread, instructions_in_all, ready_to_run, thread_of}
use Rattle.kernel_model.specs.Traps.{Ran, does_after, executed}
use Rattle.run_laws.proofs.Joined.{ready_in}
use Rattle.std.proofs.Common.{ap, arith, refl, sym, ◌∙◌}
use Rattle.std.specs.Prelude.{Bool, cond, false, suc, true, zero, ℕ, ◌+◌, ◌≡◌}

module _ (t : ℕ) where
  -- from node a to node b by n instructions
  pub record GoesOn (a b : Node) (n : ℕ) : Type 0 where
    pub runs : Runs b t
    pub process : (thread_of b t).process ≡ (thread_of a t).process
    pub more : instructions_in_all b ≡ instructions_in_all a + n

  goes-then : (a b c : Node) (n : ℕ) → GoesOn a b 1 → GoesOn b c n → GoesOn a c (suc n)
  goes-then a b c n f g = record {
    runs = g.runs;
    process = g.process ∙ f.process;
    more = (let x = f.more in let y = g.more in omega (arith, x, y));
  }

  one-on : (v : Ran) → Runs v.node t → ready_in t (executed t v) ≡ true → GoesOn v.node (executed t v).node 1
  one-on v r e =
      let o = instr (thread_of v.node t).regs v.memory in
      let x : Thread = record r.thread { regs = o.regs; does = does_after o.stop; back = false } in
      let a = counted-thread v.node t o r.thread r.there in
      let f = thread-is (executed t v).node t x a in
      let g = thread-is v.node t r.thread r.there in
      record {
        runs = record {
          thread = x;
          there = a;
          ready = ready-is (does_after o.stop) (ap (λ (z : Thread). ready_to_run z.does) (sym f) ∙ e);
          living = counted-living v.node t o r.thread r.there r.thread.process ∙ r.living;
          quiet = counted-deliverable v.node t o r.thread r.there ∙ r.quiet;
        };
        process = ap (λ (z : Thread). z.process) f ∙ sym (ap (λ (z : Thread). z.process) g);
        more = counted-more v.node t o r.thread r.there r.living;
      }

  pub all-on : (n : ℕ) (v : Ran) → Runs v.node t → ready_in t (run_for n t v) ≡ true → GoesOn v.node (run_for n t v).node n
  all-on zero v r e = record { runs = r; process = refl; more = omega arith }
  all-on (suc n) v r e = go (ready_in t w) refl (all-on n w) e
    where
      w : Ran
      w = executed t v

      go : (b : Bool) → ready_in t w ≡ b → (Runs w.node t → ready_in t (run_for n t w) ≡ true → GoesOn w.node (run_for n t w).node n)
          → ready_in t (cond b (run_for n t w) w) ≡ true → GoesOn v.node (cond b (run_for n t w) w).node (suc n)
      go true f k e = let one = one-on v r f in goes-then v.node w.node (run_for n t w).node n one (k one.runs e)
      go false f k e = absurd (grind (arith, f, e))
