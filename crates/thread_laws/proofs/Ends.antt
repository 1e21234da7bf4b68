-- A message may end the thread that gets its answer, where its process doesn't live; and the end of a process ends its threads.
use Rattle.hybrid_laws.proofs.intake.Reply as reply
use Rattle.file_model.specs.Errno.{EINTR, EPIPE}
use Rattle.file_model.specs.Files.{close_all}
use Rattle.hybrid_laws.proofs.calls.Closed.{finishes-closed, returns-closed}
use Rattle.hybrid_laws.proofs.intake.Ack.{AckStands, ack-stands}
use Rattle.hybrid_laws.proofs.node.Primitives.{at-change}
use Rattle.hybrid_laws.proofs.node.Threads.{thread-is}
use Rattle.hybrid_model.specs.Coherence.{OfProcess}
use Rattle.hybrid_model.specs.Events.{of_thread}
use Rattle.hybrid_model.specs.Intake.{caller_of, change_made_of, changed, intake, round_over, take_ack, take_fault, take_reply, take_reply_of}
use Rattle.hybrid_model.specs.OneProcess.{memory_here, set_break}
use Rattle.hybrid_model.specs.Reap.{reap}
use Rattle.hybrid_model.specs.Pairs.{Here, with_side}
use Rattle.ikc_ring.specs.declared.Msg.TheVariants.{Ack, Answer, Clear, Fault, Interrupt, Reply, Request}
use Rattle.ikc_ring.specs.declared.Msg.{Msg}
use Rattle.kernel_model.specs.MemoryCalls.{answer_of_change, effect_of, refusal_at_end}
use Rattle.kernel_model.specs.Nodes.{Node, Process, Sleeper, Thread, answered, change_in, change_process, is_living, lives, no_process, process_of, sent_back, thread_of, without_thread}
use Rattle.kernel_model.specs.Signals.{generate_for_process, generate_for_thread}
use Rattle.kernel_model.specs.Traps.{finishes, is_error, life_ended, process_ended, returns, returns_living}
use Rattle.kernel_model.specs.declared.Change.{Change}
use Rattle.mck_word.specs.MapLaws.{at-collect}
use Rattle.mck_word.specs.Maps.{and_then, at, collect}
use Rattle.mck_word.specs.declared.Req.{Req}
use Rattle.std.proofs.Common.{ap, arith, refl, subst, sym, ◌∙◌}
use Rattle.std.proofs.lemmas.Bool.Decides.{nat_tests}
use Rattle.std.specs.Prelude.{Bool, List, None, Option, Some, [], cond, false, filter, length, not, option_map, true, unwrap_or, ℕ, ℤ, ◌&&◌, ◌==◌, ◌∷◌, ◌≡◌}
use Rattle.thread_laws.proofs.Members.{IntakeThreads, OnlyOwn}
use Rattle.thread_laws.proofs.Others.{answered-same, sent_back-same}
use Rattle.thread_laws.proofs.Stays.{either-same, for_process-same, for_thread-same, joined-same, none-left, own-closed}
use Rattle.thread_laws.specs.Members.{SameThreads, answered_by, is_in, outside, process_at, process_in, thread_answered}

-- ---- a thread gets its answer
-- it alone is gone, where its process doesn't live
record Answers (t : ℕ) (a b : Node) : Type 0 where
  others : (u : ℕ) → (u == t) ≡ false → process_at b u ≡ process_at a u
  living : is_living a (of_thread a t) ≡ true → process_at b t ≡ process_at a t
  dead : is_living a (of_thread a t) ≡ false → process_at b t ≡ None

where-living : (t : ℕ) (a x : Node) (b : Bool) → SameThreads a x → b ≡ true → process_at (cond b x (without_thread t a)) t ≡ process_at a t
where-living t a x true f e = f t
where-living t a x false f e = absurd (grind (arith, e))

where-dead : (t : ℕ) (a x : Node) (b : Bool) → b ≡ false → process_at (cond b x (without_thread t a)) t ≡ None
where-dead t a x true e = absurd (grind (arith, e))
where-dead t a x false e = none-left t a

returns-answers : (t : ℕ) (z : ℤ) (a : Node) → Answers t a (returns t z a)
unfolding returns
returns-answers t z a = record {
  others = (returns-closed t (OnlyOwn t) (OnlyOwn t) (own-closed t) a z).others;
  living = where-living t a (returns_living t z a) (is_living a (of_thread a t)) back;
  dead = where-dead t a (returns_living t z a) (is_living a (of_thread a t));
}
  where
    back : SameThreads a (returns_living t z a)
    back = either-same a (sent_back t a) (cond (is_error EPIPE z) (generate_for_thread t 13 (answered t z a)) (answered t z a)) (is_error EINTR z) (sent_back-same a t)
        (either-same a (generate_for_thread t 13 (answered t z a)) (answered t z a) (is_error EPIPE z)
        (joined-same a (answered t z a) (generate_for_thread t 13 (answered t z a)) (answered-same a t z) (for_thread-same (answered t z a) t 13)) (answered-same a t z))

finishes-answers : (t : ℕ) (z : ℤ) (a : Node) → Answers t a (finishes t z a)
unfolding finishes
finishes-answers t z a = record {
  others = (finishes-closed t (OnlyOwn t) (OnlyOwn t) (own-closed t) a z).others;
  living = where-living t a (answered t z a) (is_living a (of_thread a t)) (answered-same a t z);
  dead = where-dead t a (answered t z a) (is_living a (of_thread a t));
}

-- a break is set before
broken-living : (p q low : ℕ) (a : Node) → is_living (set_break p low a) q ≡ is_living a q
broken-living p q low a = ap (λ (o : Option Process). lives (unwrap_or o no_process).life) (at-change a.processes p (λ (x : Process). record x { program_break = low }) q) ∙ go (q == p) refl
  where
    row : (o : Option Process) → lives (unwrap_or (option_map (λ (x : Process). record x { program_break = low }) o) no_process).life ≡ lives (unwrap_or o no_process).life
    row None = refl
    row (Some x) = refl

    go : (b : Bool) → (q == p) ≡ b → lives (unwrap_or (cond b (option_map (λ (x : Process). record x { program_break = low }) (at a.processes p)) (at a.processes q)) no_process).life ≡ is_living a q
    go true e = let g : q ≡ p = grind (arith, nat_tests, e) in rw g (row (at a.processes p))
    go false e = refl

made-answers : (t p low : ℕ) (z : ℤ) (a : Node) → Answers t a (finishes t z (set_break p low a))
made-answers t p low z a =
    let f = finishes-answers t z (set_break p low a) in
    let g = broken-living p (of_thread a t) low a in
    record { others = f.others; living = λ l. f.living (g ∙ l); dead = λ l. f.dead (g ∙ l) }

-- ---- a message for process p
module _ (p t : ℕ) (a b : Node) (x : Thread) (there : at a.threads t ≡ Some x) (own : x.process ≡ p) (f : Answers t a b) where
  is-of : process_at a t ≡ Some p
  is-of = ap process_in there ∙ ap Some own

  thread-of : of_thread a t ≡ p
  thread-of = ap (λ (z : Thread). z.process) (thread-is a t x there) ∙ own

  differs : (u : ℕ) → is_in p (process_at a u) ≡ false → (c : Bool) → (u == t) ≡ c → c ≡ false
  differs u n false e = refl
  differs u n true e = absurd (
      let g : u ≡ t = grind (arith, nat_tests, e) in
      let h = ap (λ (k : ℕ). is_in p (process_at a k)) g ∙ ap (is_in p) is-of in
      let same : (p == p) ≡ true = grind (arith, nat_tests) in
      let k = sym n ∙ h ∙ same in grind (arith, k)
      )

  exact : (u : ℕ) (c : Bool) → (t == u) ≡ c → (l : Bool) → is_living a p ≡ l → process_at b u ≡ cond (c && not l) None (process_at a u)
  exact u false e l g = f.others u (grind (arith, nat_tests, e))
  exact u true e true g = let h : t ≡ u = grind (arith, nat_tests, e) in subst (λ (k : ℕ). process_at b k ≡ process_at a k) h (f.living (ap (is_living a) thread-of ∙ g))
  exact u true e false g = let h : t ≡ u = grind (arith, nat_tests, e) in subst (λ (k : ℕ). process_at b k ≡ None) h (f.dead (ap (is_living a) thread-of ∙ g))

  intake-of-answer : IntakeThreads p (Some t) a b
  intake-of-answer = record { exactly = λ u. exact u (t == u) refl (is_living a p) refl; others = λ u n. f.others u (differs u n (u == t) refl) }

intake-of-same : (p : ℕ) (a : Node) → IntakeThreads p None a a
intake-of-same p a = record { exactly = λ u. refl; others = λ u n. refl }

module _ (p : ℕ) (h : Here) (workers : ℕ) (ring : ℕ → ℕ) (k : OfProcess p h.side h.node workers ring) where
  reply-threads : (n : Req) (code : ℤ) (rest : List Msg) → h.side.to_lwk ≡ Reply n code ∷ rest → IntakeThreads p (caller_of h.side.lwk.callers n.0) h.node (take_reply n.0 code rest h).node
  unfolding take_reply
  reply-threads n code rest first =
      let t = reply.t p h n code rest first workers ring k in
      let x = reply.thread p h n code rest first workers ring k in
      subst (λ (o : Option ℕ). IntakeThreads p o h.node (take_reply_of o code rest h).node) (sym (reply.caller p h n code rest first workers ring k).found)
      (intake-of-answer p t h.node (returns t code h.node) x.0 x.1 x.2 (returns-answers t code h.node))

  ack-threads : (rest : List Msg) → h.side.to_lwk ≡ Ack ∷ rest → IntakeThreads p h.side.lwk.changing h.node (take_ack p rest h).node
  unfolding take_ack
  ack-threads rest first =
      subst (λ (o : Option ℕ). IntakeThreads p o h.node (change_made_of p (unwrap_or o 0) (change_in (thread_of h.node (unwrap_or o 0)).does) over).node) (sym w.changing)
      (subst (λ (o : Option Change). IntakeThreads p (Some t) h.node (change_made_of p t o over).node) (sym waits)
      (intake-of-answer p t h.node (changed p t c refusal over).node w.owns.thread w.owns.there w.owns.own (made refusal)))
    where
      w : AckStands p h
      w = ack-stands p h workers ring k rest first

      t : ℕ
      t = w.thread

      c : Change
      c = w.owns.change

      over : Here
      over = with_side h (round_over rest h.side)

      refusal : Option ℤ
      refusal = refusal_at_end (process_of h.node p) (memory_here over) (length h.free) c

      waits : change_in (thread_of h.node t).does ≡ Some c
      waits = ap (λ (z : Thread). change_in z.does) (thread-is h.node t w.owns.thread w.owns.there) ∙ ap change_in w.owns.does

      made : (o : Option ℤ) → Answers t h.node (changed p t c o over).node
      made (Some answer) = finishes-answers t answer h.node
      made None = made-answers t p (effect_of (process_of h.node p) c).program_break (answer_of_change c) h.node

  pub intake-threads : IntakeThreads p (thread_answered h.side) h.node (intake p h.side.to_lwk h).node
  unfolding take_fault
  intake-threads = go h.side.to_lwk refl
    where
      go : (ms : List Msg) → h.side.to_lwk ≡ ms → IntakeThreads p (answered_by h.side ms) h.node (intake p ms h).node
      go [] e = intake-of-same p h.node
      go (Request c ∷ ms) e = intake-of-same p h.node
      go (Clear range ∷ ms) e = intake-of-same p h.node
      go (Answer w page number row ∷ ms) e = intake-of-same p h.node
      go (Interrupt n place ∷ ms) e = intake-of-same p h.node
      go (Reply n code ∷ ms) e = reply-threads n code ms e
      go (Ack ∷ ms) e = ack-threads ms e
      go (Fault w page a ∷ ms) e = intake-of-same p h.node

-- ---- the end of a process
ended-row : (p : ℕ) (o : Option Thread) → process_in (and_then o (λ (x : Thread). cond (x.process == p) None (Some x))) ≡ outside p (process_in o)
ended-row p None = refl
ended-row p (Some x) = go (x.process == p)
  where
    go : (b : Bool) → process_in (cond b None (Some x)) ≡ cond b None (Some x.process)
    go true = refl
    go false = refl

ended-threads : (p : ℕ) (a : Node) (u : ℕ) → process_at (process_ended p a) u ≡ outside p (process_at a u)
unfolding process_ended
ended-threads p a u = go (is_living told parent) ∙ ap process_in (at-collect (λ t (x : Thread). cond (x.process == p) None (Some x)) a.threads u) ∙ ended-row p (at a.threads u)
  where
    told : Node
    told = change_process p (λ (x : Process). record x { life = life_ended x.life }) (record a {
      threads = collect (λ t (x : Thread). cond (x.process == p) None (Some x)) a.threads;
      sleepers = filter (λ (x : Sleeper). not (x.process == p)) a.sleepers;
      files = close_all p a.files;
    })

    parent : ℕ
    parent = (process_of a p).parent

    go : (b : Bool) → process_at (cond b (generate_for_process parent 17 told) told) u ≡ process_at told u
    go true = for_process-same told parent 17 u
    go false = refl

pub reap-threads : (p : ℕ) (h : Here) (u : ℕ) → process_at (reap p h).node u ≡ outside p (process_at h.node u)
unfolding reap
reap-threads p h u = ended-threads p h.node u
