-- What each event leaves of the calls in the whole state: marked calls stay told of, and a number is gone once its one reply is posted.
use Rattle.hybrid_model.specs.declared.events.Event.TheVariants as Events
use Rattle.hybrid_laws.proofs.calls.Go.{CallsGo, go-ack_clear, go-act, go-assign, go-copy, go-finish, go-miss, go-park, go-pin, go-unpark, go-unpin, posts_here}
use Rattle.hybrid_laws.proofs.calls.Made.{go-answer, go-begin_vm, go-deliver, go-intake, go-interrupt, go-reap, go-run, go-script, go-trap, go-wait}
use Rattle.hybrid_laws.proofs.calls.Taken.{go-fetch}
use Rattle.hybrid_laws.proofs.maps.Tests.{both}
use Rattle.hybrid_laws.proofs.memory.NewSide.{no-at}
use Rattle.hybrid_laws.proofs.trap.Says.{TrappedSays, trap-says}
use Rattle.hybrid_laws.specs.Journals.{gone, gone_in}
use Rattle.hybrid_laws.specs.Lasting.{Lasting, MarksTold}
use Rattle.hybrid_model.specs.Claims.{posts_reply}
use Rattle.hybrid_model.specs.Coherence.{OfProcess}
use Rattle.hybrid_model.specs.AckClear.{ack_clear}
use Rattle.hybrid_model.specs.Act.{act_file}
use Rattle.hybrid_model.specs.Copy.{copy}
use Rattle.hybrid_model.specs.Events.{after, after_here, may, may_here, process_of_event}
use Rattle.hybrid_model.specs.Fetch.{fetch_from}
use Rattle.hybrid_model.specs.Finish.{finish_here}
use Rattle.hybrid_model.specs.Miss.{miss}
use Rattle.hybrid_model.specs.Park.{park_here}
use Rattle.hybrid_model.specs.Unpark.{unpark_here}
use Rattle.hybrid_model.specs.Globals.{Coherent, ring_number}
use Rattle.hybrid_model.specs.Answer.{post_answer}
use Rattle.hybrid_model.specs.BeginVm.{begin_round, begin_vm_of}
use Rattle.hybrid_model.specs.Deliver.{after_deliver}
use Rattle.hybrid_model.specs.Intake.{caller_of, change_made_of, changed, changing_thread, intake, round_over, take_ack, take_fault, take_reply, take_reply_of}
use Rattle.hybrid_model.specs.Interrupt.{interrupt_as, is_calling, post_interrupt}
use Rattle.hybrid_model.specs.OneProcess.{memory_here, space_here, view_here, with_view}
use Rattle.hybrid_model.specs.Reap.{reap}
use Rattle.hybrid_model.specs.Run.{run}
use Rattle.hybrid_model.specs.Trap.{after_trap, child_side, child_space, trapped, with_stores}
use Rattle.hybrid_model.specs.Pairs.{Here, Pair, here, side_of, with_born, with_side}
use Rattle.hybrid_model.specs.Rings.{ring}
use Rattle.hybrid_model.specs.Sides.{Book, Caller, Side, new_side, no_book, serves}
use Rattle.hybrid_model.specs.declared.events.Event.{Event}
use Rattle.ikc_ring.specs.declared.Msg.TheVariants.{Ack, Answer, Clear, Fault, Interrupt, Reply, Request}
use Rattle.ikc_ring.specs.declared.Msg.{Msg}
use Rattle.kernel_model.specs.MemoryCalls.{refusal_at_end}
use Rattle.kernel_model.specs.Nodes.{Process, change_in, is_there, process_of, thread_of}
use Rattle.kernel_model.specs.Traps.{Begins, Changes, Done, Forks, Trapped, trap}
use Rattle.kernel_model.specs.declared.Change.{Change}
use Rattle.mck_word.specs.MapLaws.{at-put}
use Rattle.mck_word.specs.Maps.{Map, at, no_rows, put}
use Rattle.mck_word.specs.declared.Tid.{Tid}
use Rattle.std.proofs.Common.{ap, arith, refl, subst, sym, ◌∙◌}
use Rattle.std.proofs.lemmas.Bool.Decides.{nat_tests}
use Rattle.std.specs.Prelude.{Bool, List, None, Option, Some, [], cond, false, is_some, length, true, unwrap_or, ℕ, ℤ, ◌&&◌, ◌+◌, ◌==◌, ◌∷◌, ◌≡◌, ◌≤◌}

-- ---- each event of one process
module _ (p : ℕ) (h : Here) (worker_count : ℕ) (rings_by : ℕ → ℕ) (k : OfProcess p h.side h.node worker_count rings_by) where
  pub calls-go : (e : Event) → may_here e h ≡ true → CallsGo (posts_here e h) h.side (after_here e p h).side
  calls-go (Events.Run core t n) m = go-run p h worker_count rings_by k core t n
  calls-go (Events.Trap t) m = go-trap p h worker_count rings_by k t
  calls-go (Events.Deliver t) m = go-deliver p h worker_count rings_by k t
  calls-go (Events.Intake q) m = go-intake p h worker_count rings_by k q
  calls-go (Events.Answer q w) m = go-answer p h worker_count rings_by k q w
  calls-go (Events.BeginVm t) m = go-begin_vm p h worker_count rings_by k t
  calls-go (Events.Interrupt t) m = go-interrupt p h worker_count rings_by k t
  calls-go (Events.Wait t) m = go-wait p h worker_count rings_by k t
  calls-go (Events.Reap q) m = go-reap p h worker_count rings_by k q
  calls-go (Events.Script i) m = go-script p h worker_count rings_by k i
  calls-go (Events.Fetch q r) m = go-fetch p h worker_count rings_by k q r
  calls-go (Events.Assign q w) m = go-assign p h worker_count rings_by k q w m
  calls-go (Events.Miss q w) m = go-miss p h worker_count rings_by k q w m
  calls-go (Events.Pin q w) m = go-pin p h worker_count rings_by k q w
  calls-go (Events.Copy q w) m = go-copy p h worker_count rings_by k q w m
  calls-go (Events.Unpin q w) m = go-unpin p h worker_count rings_by k q w
  calls-go (Events.Act q w) m = go-act p h worker_count rings_by k q w m
  calls-go (Events.Park q w) m = go-park p h worker_count rings_by k q w m
  calls-go (Events.Unpark q n) m = go-unpark p h worker_count rings_by k q n m
  calls-go (Events.Finish q w) m = go-finish p h worker_count rings_by k q w m
  calls-go (Events.AckClear q) m = go-ack_clear p h worker_count rings_by k q

-- ---- a process that begins: it has no call
pub record IsBorn (e : Event) (h : Here) (b : ℕ × Side) : Type 0 where
  pub thread : Tid
  pub traps : e ≡ Events.Trap thread
  pub number : b.0 ≡ h.node.next_number
  pub callers : b.1.lwk.callers ≡ no_rows
  pub book : b.1.book ≡ no_book

unborn : (e : Event) (h : Here) (b : ℕ × Side) → None ≡ Some b → IsBorn e h b
unborn e h b f = absurd (grind (arith, f))

pub born-is : (e : Event) (p : ℕ) (h : Here) → h.born ≡ None → (b : ℕ × Side) → (after_here e p h).born ≡ Some b → IsBorn e h b
unfolding run after_trap after_deliver take_reply take_fault take_ack begin_round post_answer post_interrupt reap miss copy act_file park_here unpark_here finish_here ack_clear
born-is (Events.Run core t n) p h none b f = unborn (Events.Run core t n) h b (sym none ∙ f)
born-is (Events.Deliver t) p h none b f = unborn (Events.Deliver t) h b (sym none ∙ f)
born-is (Events.Answer q w) p h none b f = unborn (Events.Answer q w) h b (sym none ∙ f)
born-is (Events.Wait t) p h none b f = unborn (Events.Wait t) h b (sym none ∙ f)
born-is (Events.Reap q) p h none b f = unborn (Events.Reap q) h b (sym none ∙ f)
born-is (Events.Script i) p h none b f = unborn (Events.Script i) h b (sym none ∙ f)
born-is (Events.Assign q w) p h none b f = unborn (Events.Assign q w) h b (sym none ∙ f)
born-is (Events.Miss q w) p h none b f = unborn (Events.Miss q w) h b (sym none ∙ f)
born-is (Events.Pin q w) p h none b f = unborn (Events.Pin q w) h b (sym none ∙ f)
born-is (Events.Copy q w) p h none b f = unborn (Events.Copy q w) h b (sym none ∙ f)
born-is (Events.Unpin q w) p h none b f = unborn (Events.Unpin q w) h b (sym none ∙ f)
born-is (Events.Act q w) p h none b f = unborn (Events.Act q w) h b (sym none ∙ f)
born-is (Events.Park q w) p h none b f = unborn (Events.Park q w) h b (sym none ∙ f)
born-is (Events.Unpark q n) p h none b f = unborn (Events.Unpark q n) h b (sym none ∙ f)
born-is (Events.Finish q w) p h none b f = unborn (Events.Finish q w) h b (sym none ∙ f)
born-is (Events.AckClear q) p h none b f = unborn (Events.AckClear q) h b (sym none ∙ f)
born-is (Events.Fetch q r) p h none b f = go (ring r h.side.to_linux) f
  where
    go : (ms : List Msg) → (fetch_from r ms h).born ≡ Some b → IsBorn (Events.Fetch q r) h b
    go [] g = unborn (Events.Fetch q r) h b (sym none ∙ g)
    go (m ∷ ms) g = unborn (Events.Fetch q r) h b (sym none ∙ g)
born-is (Events.BeginVm t) p h none b f = go (change_in (thread_of h.node t.0).does) f
  where
    go : (o : Option Change) → (begin_vm_of p t.0 o h).born ≡ Some b → IsBorn (Events.BeginVm t) h b
    go None g = unborn (Events.BeginVm t) h b (sym none ∙ g)
    go (Some c) g = unborn (Events.BeginVm t) h b (sym none ∙ g)
born-is (Events.Interrupt t) p h none b f = go (is_calling h.side t.0) f
  where
    go : (o : Bool) → (interrupt_as o t.0 h).born ≡ Some b → IsBorn (Events.Interrupt t) h b
    go true g = unborn (Events.Interrupt t) h b (sym none ∙ g)
    go false g = unborn (Events.Interrupt t) h b (sym none ∙ g)
born-is (Events.Intake q) p h none b f = go h.side.to_lwk f
  where
    reply : (n : ℕ) (code : ℤ) (ms : List Msg) (o : Option ℕ) → (take_reply_of o code ms h).born ≡ Some b → IsBorn (Events.Intake q) h b
    reply n code ms None g = unborn (Events.Intake q) h b (sym none ∙ g)
    reply n code ms (Some t) g = unborn (Events.Intake q) h b (sym none ∙ g)

    made : (ms : List Msg) (c : Change) (o : Option ℤ) → (changed p (changing_thread h.side) c o (with_side h (round_over ms h.side))).born ≡ Some b → IsBorn (Events.Intake q) h b
    made ms c None g = unborn (Events.Intake q) h b (sym none ∙ g)
    made ms c (Some answer) g = unborn (Events.Intake q) h b (sym none ∙ g)

    ack : (ms : List Msg) (o : Option Change) → (change_made_of p (changing_thread h.side) o (with_side h (round_over ms h.side))).born ≡ Some b → IsBorn (Events.Intake q) h b
    ack ms None g = unborn (Events.Intake q) h b (sym none ∙ g)
    ack ms (Some c) g = made ms c (refusal_at_end (process_of h.node p) (memory_here (with_side h (round_over ms h.side))) (length h.free) c) g

    go : (ms : List Msg) → (intake p ms h).born ≡ Some b → IsBorn (Events.Intake q) h b
    go [] g = unborn (Events.Intake q) h b (sym none ∙ g)
    go (Request c ∷ ms) g = unborn (Events.Intake q) h b (sym none ∙ g)
    go (Clear range ∷ ms) g = unborn (Events.Intake q) h b (sym none ∙ g)
    go (Answer w page number row ∷ ms) g = unborn (Events.Intake q) h b (sym none ∙ g)
    go (Interrupt n place ∷ ms) g = unborn (Events.Intake q) h b (sym none ∙ g)
    go (Reply n code ∷ ms) g = reply n.0 code ms (caller_of h.side.lwk.callers n.0) g
    go (Ack ∷ ms) g = ack ms (change_in (thread_of h.node (changing_thread h.side)).does) g
    go (Fault w page a ∷ ms) g = unborn (Events.Intake q) h b (sym none ∙ g)
born-is (Events.Trap t) p h none b f = go (trap t.0 (length h.free) (view_here h)) (trap-says t.0 (length h.free) (view_here h)) f
  where
    go : (y : Trapped) → TrappedSays t.0 (length h.free) (view_here h) y → (trapped p t.0 y h).born ≡ Some b → IsBorn (Events.Trap t) h b
    go (Done v) s g = unborn (Events.Trap t) h b (sym none ∙ g)
    go (Begins node progress) s g = unborn (Events.Trap t) h b (sym none ∙ g)
    go (Changes node change) s g = unborn (Events.Trap t) h b (sym none ∙ g)
    go (Forks v child stores) s g =
        let sp = with_stores stores (child_space (memory_here (with_view v h)) (space_here (with_view v h))) in
        let y : (child, child_side (with_view v h) sp) ≡ b = cc in
        record { thread = t; traps = refl; number = ap (λ (z : ℕ × Side). z.0) (sym y) ∙ s.number; callers = ap (λ (z : ℕ × Side). z.1.lwk.callers) (sym y); book = ap (λ (z : ℕ × Side). z.1.book) (sym y) }

-- ---- the number of workers stays
pub workers-stay : (e : Event) (p : ℕ) (h : Here) → (after_here e p h).workers ≡ h.workers
unfolding run after_trap after_deliver take_reply take_fault take_ack begin_round post_answer post_interrupt reap miss copy act_file park_here unpark_here finish_here ack_clear
workers-stay (Events.Run core t n) p h = refl
workers-stay (Events.Deliver t) p h = refl
workers-stay (Events.Answer q w) p h = refl
workers-stay (Events.Wait t) p h = refl
workers-stay (Events.Reap q) p h = refl
workers-stay (Events.Script i) p h = refl
workers-stay (Events.Assign q w) p h = refl
workers-stay (Events.Miss q w) p h = refl
workers-stay (Events.Pin q w) p h = refl
workers-stay (Events.Copy q w) p h = refl
workers-stay (Events.Unpin q w) p h = refl
workers-stay (Events.Act q w) p h = refl
workers-stay (Events.Park q w) p h = refl
workers-stay (Events.Unpark q n) p h = refl
workers-stay (Events.Finish q w) p h = refl
workers-stay (Events.AckClear q) p h = refl
workers-stay (Events.Fetch q r) p h = go (ring r h.side.to_linux)
  where
    go : (ms : List Msg) → (fetch_from r ms h).workers ≡ h.workers
    go [] = refl
    go (m ∷ ms) = refl
workers-stay (Events.BeginVm t) p h = go (change_in (thread_of h.node t.0).does)
  where
    go : (o : Option Change) → (begin_vm_of p t.0 o h).workers ≡ h.workers
    go None = refl
    go (Some c) = refl
workers-stay (Events.Interrupt t) p h = go (is_calling h.side t.0)
  where
    go : (o : Bool) → (interrupt_as o t.0 h).workers ≡ h.workers
    go true = refl
    go false = refl
workers-stay (Events.Intake q) p h = go h.side.to_lwk
  where
    reply : (code : ℤ) (ms : List Msg) (o : Option ℕ) → (take_reply_of o code ms h).workers ≡ h.workers
    reply code ms None = refl
    reply code ms (Some t) = refl

    made : (ms : List Msg) (c : Change) (o : Option ℤ) → (changed p (changing_thread h.side) c o (with_side h (round_over ms h.side))).workers ≡ h.workers
    made ms c None = refl
    made ms c (Some answer) = refl

    ack : (ms : List Msg) (o : Option Change) → (change_made_of p (changing_thread h.side) o (with_side h (round_over ms h.side))).workers ≡ h.workers
    ack ms None = refl
    ack ms (Some c) = made ms c (refusal_at_end (process_of h.node p) (memory_here (with_side h (round_over ms h.side))) (length h.free) c)

    go : (ms : List Msg) → (intake p ms h).workers ≡ h.workers
    go [] = refl
    go (Request c ∷ ms) = refl
    go (Clear range ∷ ms) = refl
    go (Answer w page number row ∷ ms) = refl
    go (Interrupt n place ∷ ms) = refl
    go (Reply n code ∷ ms) = reply code ms (caller_of h.side.lwk.callers n.0)
    go (Ack ∷ ms) = ack ms (change_in (thread_of h.node (changing_thread h.side)).does)
    go (Fault w page a ∷ ms) = refl
workers-stay (Events.Trap t) p h = go (trap t.0 (length h.free) (view_here h))
  where
    go : (y : Trapped) → (trapped p t.0 y h).workers ≡ h.workers
    go (Done v) = refl
    go (Begins node progress) = refl
    go (Changes node change) = refl
    go (Forks v child stores) = refl

-- ---- replies that are posted
posts-own : (pair : Pair) (e : Event) (q : ℕ) → posts_reply pair e (process_of_event pair.node e) q ≡ posts_here e (here pair (process_of_event pair.node e)) q
posts-own pair (Events.Run core t n) q = refl
posts-own pair (Events.Trap t) q = refl
posts-own pair (Events.Deliver t) q = refl
posts-own pair (Events.Intake x) q = refl
posts-own pair (Events.Answer x w) q = refl
posts-own pair (Events.BeginVm t) q = refl
posts-own pair (Events.Interrupt t) q = refl
posts-own pair (Events.Wait t) q = refl
posts-own pair (Events.Reap x) q = refl
posts-own pair (Events.Script i) q = refl
posts-own pair (Events.Fetch x r) q = refl
posts-own pair (Events.Assign x w) q = refl
posts-own pair (Events.Miss x w) q = refl
posts-own pair (Events.Pin x w) q = refl
posts-own pair (Events.Copy x w) q = refl
posts-own pair (Events.Unpin x w) q = refl
posts-own pair (Events.Act x w) q = refl
posts-own pair (Events.Park x w) q = refl
posts-own pair (Events.Unpark x n) q = refl
posts-own pair (Events.Finish n w) q = let a : (n.0 == n.0) ≡ true = grind (arith, nat_tests) in ap {B = ℕ} (λ b. cond (b && serves (side_of pair n.0).linux w == q) 1 0) a
posts-own pair (Events.AckClear x) q = refl

posts-other : (pair : Pair) (e : Event) (x q : ℕ) → (x == process_of_event pair.node e) ≡ false → posts_reply pair e x q ≡ 0
posts-other pair (Events.Run core t n) x q e = refl
posts-other pair (Events.Trap t) x q e = refl
posts-other pair (Events.Deliver t) x q e = refl
posts-other pair (Events.Intake y) x q e = refl
posts-other pair (Events.Answer y w) x q e = refl
posts-other pair (Events.BeginVm t) x q e = refl
posts-other pair (Events.Interrupt t) x q e = refl
posts-other pair (Events.Wait t) x q e = refl
posts-other pair (Events.Reap y) x q e = refl
posts-other pair (Events.Script i) x q e = refl
posts-other pair (Events.Fetch y r) x q e = refl
posts-other pair (Events.Assign y w) x q e = refl
posts-other pair (Events.Miss y w) x q e = refl
posts-other pair (Events.Pin y w) x q e = refl
posts-other pair (Events.Copy y w) x q e = refl
posts-other pair (Events.Unpin y w) x q e = refl
posts-other pair (Events.Act y w) x q e = refl
posts-other pair (Events.Park y w) x q e = refl
posts-other pair (Events.Unpark y n) x q e = refl
posts-other pair (Events.Finish n w) x q e = let a : (n.0 == x) ≡ false = grind (arith, nat_tests, e) in ap {B = ℕ} (λ b. cond (b && serves (side_of pair x).linux w == q) 1 0) a
posts-other pair (Events.AckClear y) x q e = refl

-- ---- the whole state
module _ (pair : Pair) (c : Coherent pair) (e : Event) (m : may pair e ≡ true) where
  abbrev p : ℕ
  p = process_of_event pair.node e

  abbrev h : Here
  h = here pair p

  abbrev now : Here
  now = after_here e p h

  allowed : may_here e h ≡ true
  allowed = let a = both (is_there pair.node p) (may_here e h) m in a.1

  goes : CallsGo (posts_here e h) h.side now.side
  goes = calls-go p h pair.workers (ring_number pair) (c.whole p) e allowed

  -- what holds of the new side, of the other ones and of one that begins holds of each
  of-after : (Q : ℕ → Side → Type 0) → Q p now.side → ((x : ℕ) → (x == p) ≡ false → Q x (side_of pair x)) → ((b : ℕ × Side) → now.born ≡ Some b → Q b.0 b.1) → (x : ℕ) → Q x (side_of (after pair e) x)
  of-after Q own others begins x = by-born now.born refl
    where
      by-key : (b : Bool) → (x == p) ≡ b → Q x (unwrap_or (cond b (Some now.side) (at pair.sides x)) (new_side 0))
      by-key true f = let y : p ≡ x = grind (arith, nat_tests, f) in subst (λ (j : ℕ). Q j now.side) y own
      by-key false f = others x f

      put-at : Q x (unwrap_or (at (put pair.sides p now.side) x) (new_side 0))
      put-at = subst (λ (o : Option Side). Q x (unwrap_or o (new_side 0))) (sym (at-put pair.sides p now.side x)) (by-key (x == p) refl)

      born-at : (b : ℕ × Side) → now.born ≡ Some b → (d : Bool) → (x == b.0) ≡ d → Q x (unwrap_or (cond d (Some b.1) (at (put pair.sides p now.side) x)) (new_side 0))
      born-at b f true g = let y : b.0 ≡ x = grind (arith, nat_tests, g) in subst (λ (j : ℕ). Q j b.1) y (begins b f)
      born-at b f false g = put-at

      by-born : (o : Option (ℕ × Side)) → now.born ≡ o → Q x (side_of (after pair e) x)
      by-born None f = subst (λ (o : Option (ℕ × Side)). Q x (unwrap_or (at (with_born (put pair.sides p now.side) o) x) (new_side 0))) (sym f) put-at
      by-born (Some b) f = subst (λ (o : Option (ℕ × Side)). Q x (unwrap_or (at (with_born (put pair.sides p now.side) o) x) (new_side 0))) (sym f)
          (subst (λ (o : Option Side). Q x (unwrap_or o (new_side 0))) (sym (at-put (put pair.sides p now.side) b.0 b.1 x)) (born-at b f (x == b.0) refl))

  -- a process that begins had no side
  was-none : at pair.sides pair.node.next_number ≡ None
  was-none = go (at pair.sides pair.node.next_number) refl (at pair.node.processes pair.node.next_number) refl
    where
      go : (o : Option Side) → at pair.sides pair.node.next_number ≡ o → (x : Option Process) → at pair.node.processes pair.node.next_number ≡ x → at pair.sides pair.node.next_number ≡ None
      go None f x g = f
      go (Some s) f None g = absurd (let a = sym (ap is_some f) ∙ c.known.sides_are pair.node.next_number ∙ ap is_some g in grind (arith, a))
      go (Some s) f (Some x) g = absurd (let a = c.known.processes_below pair.node.next_number x g in omega (arith, a))

  pub lasting-after : Lasting pair → Lasting (after pair e)
  lasting-after l = record { workers = subst (λ (n : ℕ). 1 ≤ n) (sym (workers-stay e p h)) l.workers; told = of-after (λ x s. MarksTold s) (goes.told (l.told p)) (λ x f. l.told x) born-told }
    where
      born-told : (b : ℕ × Side) → now.born ≡ Some b → MarksTold b.1
      born-told b f t y g n = let a = born-is e p h refl b f in absurd (no-at t y (ap (λ (z : Map Caller). at z t) (sym a.callers) ∙ g))

  pub gone-after : (x q : ℕ) → gone (side_of (after pair e) x) q ≡ gone (side_of pair x) q + posts_reply pair e x q
  gone-after x q = of-after (λ j s. gone s q ≡ gone (side_of pair j) q + posts_reply pair e j q)
      (let a = goes.gone_more q in let b = posts-own pair e q in omega (arith, a, b))
      (λ j f. (let b = posts-other pair e j q f in omega (arith, b)))
      born-gone x
    where
      born-gone : (b : ℕ × Side) → now.born ≡ Some b → gone b.1 q ≡ gone (side_of pair b.0) q + posts_reply pair e b.0 q
      born-gone b f =
          let a = born-is e p h refl b f in
          let d : gone b.1 q ≡ gone (new_side 0) q = ap (λ (z : Book). gone_in (at z.rows q) q z.next) a.book in
          let g : gone (side_of pair b.0) q ≡ gone (new_side 0) q = ap (λ (j : ℕ). gone (side_of pair j) q) a.number ∙ ap (λ (o : Option Side). gone (unwrap_or o (new_side 0)) q) was-none in
          let i : posts_reply pair e b.0 q ≡ 0 = ap (λ (z : Event). posts_reply pair z b.0 q) a.traps in
          omega (arith, d, g, i)
