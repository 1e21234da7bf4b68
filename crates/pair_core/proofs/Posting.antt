-- An event that posts a message of a thread finds a place in the thread's ring: the event makes that ring longer.
use Rattle.file_model.specs.Files.{Files}
use Rattle.guest_laws.specs.RingRoom.{FindsRoom}
use Rattle.hybrid_laws.proofs.maps.Tests.{both, none-is}
use Rattle.hybrid_model.specs.Events.{after_here, process_of_event}
use Rattle.hybrid_model.specs.Workers.{has_worker}
use Rattle.hybrid_model.specs.Answer.{answer_to, give_answer, may_answer, noted_may_be_answered, noted_of, post_answer, thread_served}
use Rattle.hybrid_model.specs.BeginVm.{begin_round, begin_vm, begin_vm_of, may_begin_vm}
use Rattle.hybrid_model.specs.Interrupt.{caller_at, interrupt, interrupt_as, is_calling, post_interrupt}
use Rattle.hybrid_model.specs.Pairs.{Here, ring_of, with_side}
use Rattle.hybrid_model.specs.Rings.{ring}
use Rattle.hybrid_model.specs.Sides.{Noted, Round, Row}
use Rattle.hybrid_model.specs.declared.events.Event.{Event}
use Rattle.ikc_channel.specs.Lines.{Lines}
use Rattle.ikc_ring.specs.declared.Msg.TheVariants.{Answer, Clear, Interrupt}
use Rattle.kernel_model.specs.MemoryCalls.{closing_range}
use Rattle.kernel_model.specs.Nodes.{change_in, has_thread, is_living, process_of, set_files, thread_of}
use Rattle.kernel_model.specs.declared.Change.{Change}
use Rattle.kernel_model.specs.declared.Does.{Does}
use Rattle.kernel_model.specs.declared.Does.TheVariants.{Asleep, Called, InVm, InWait, Ready, Stopped}
use Rattle.kernel_tables.specs.Shown.{node_of}
use Rattle.kernel_tables.specs.declared.tables.KernelTables.{KernelTables}
use Rattle.lwk_side.specs.Shown.{shown_caller}
use Rattle.lwk_side.specs.Wired.{HasPlace, Wired}
use Rattle.lwk_side.specs.declared.kernel.Lwk.{Lwk}
use Rattle.lwk_side.specs.declared.task.Caller.{Caller}
use Rattle.mck_word.specs.EachLaws.{at-each}
use Rattle.mck_word.specs.Maps.{Map, at, each}
use Rattle.mck_word.specs.declared.PageRange.{PageRange}
use Rattle.pair_core.proofs.KernelFacts.{place-in, post-longer}
use Rattle.pair_core.specs.Kept.{Kept}
use Rattle.pair_core.specs.Shown.{here_in, pair_of}
use Rattle.pair_core.specs.declared.parts.Parts.{Parts}
use Rattle.pair_core.specs.declared.parts.Side.{Side}
use Rattle.std.proofs.Common.{ap, arith, mod-lt, refl, subst, sym, ◌∙◌}
use Rattle.std.proofs.lemmas.Bool.Decides.{nat_tests}
use Rattle.std.specs.Prelude.{Bool, IsSome, None, Option, Some, false, is_none, is_some, length, option_map, true, ℕ, ◌%◌, ◌&&◌, ◌<◌, ◌≡◌}

-- the ring of a thread is one of the channel's
pub own-ring : (lwk : Lwk) (lines : Lines) (t : ℕ) → Wired lwk lines → t % lwk.cores % lwk.rings < length lines.messages
own-ring lwk lines t w = let m = mod-lt (t % lwk.cores) {m = lwk.rings} w.some_ring in let l = w.many in omega (arith, m, l)

-- what an event leaves of its process posts in the ring of a thread, and makes no process
pub record Posts (t : ℕ) (h after : Here) : Type 0 where
  pub longer : length (ring (ring_of h t) h.side.to_linux) < length (ring (ring_of h t) after.side.to_linux)
  pub unborn : after.born ≡ None

-- ---- an interrupt of a thread that calls
interrupt-as : (b : Bool) (t : ℕ) (h : Here) → h.born ≡ None → b ≡ true → ring_of h t < length h.side.to_linux → Posts t h (interrupt_as b t h)
unfolding post_interrupt
interrupt-as true t h none e r = record { longer = (let a = post-longer (ring_of h t) (Interrupt (record { 0 = (caller_at h.side t).request }) (thread_of h.node t).place) h.side.to_linux r in omega (arith, a)); unborn = none }
interrupt-as false t h none e r = absurd (grind (arith, e))

some-shown : (o : Option Caller) → IsSome o → is_some (option_map shown_caller o) ≡ true
some-shown None e = absurd (grind (arith, e))
some-shown (Some c) e = refl

pub interrupt-posts : (callers : Map Caller) (t : ℕ) (h : Here) → h.side.lwk.callers ≡ each shown_caller callers → h.born ≡ None → IsSome (at callers t) → ring_of h t < length h.side.to_linux → Posts t h (interrupt t h)
interrupt-posts callers t h is none calls r =
    interrupt-as (is_calling h.side t) t h none (ap (λ m. is_some (at m t)) is ∙ ap is_some (at-each shown_caller callers t) ∙ some-shown (at callers t) calls) r

-- ---- an answer
pub answer-posts : (w : ℕ) (h : Here) → h.born ≡ None → ring_of h (thread_served h.side w) < length h.side.to_linux → Posts (thread_served h.side w) h (give_answer w h)
unfolding post_answer
answer-posts w h none r = record { longer = (let a = post-longer (ring_of h (thread_served h.side w)) (Answer w (noted_of h.side w).0 h.side.lwk.begun (answer_to h.side w)) h.side.to_linux r in omega (arith, a)); unborn = none }

-- the fault of the worker was noted
noted-some : (o : Option Round) (n : Option Noted) → noted_may_be_answered o n ≡ true → IsSome n
noted-some o None e = absurd (grind (arith, e))
noted-some o (Some n) e = refl

pub record MayAnswer (w : ℕ) (h : Here) : Type 0 where
  pub worker : w < h.workers
  pub noted : IsSome (at h.side.lwk.noted w)

pub may-answer-is : (w : ℕ) (h : Here) → (has_worker h w && may_answer h.side w) ≡ true → MayAnswer w h
may-answer-is w h e =
    let a = both (has_worker h w) (may_answer h.side w) e in
    record { worker = grind (arith, nat_tests, a.0); noted = noted-some h.side.round (at h.side.lwk.noted w) a.1 }

-- the node with other files
pub node-files : (n : KernelTables) (f g : Files) → node_of n g ≡ set_files g (node_of n f)
unfolding node_of
node-files n f g = refl

-- ---- a round
pub begin-posts : (p t : ℕ) (c : Change) (h : Here) → change_in (thread_of h.node t).does ≡ Some c → h.born ≡ None → ring_of h t < length h.side.to_linux → Posts t h (begin_vm p t h)
unfolding begin_round
begin-posts p t c h e none r = subst (λ o. Posts t h (begin_vm_of p t o h)) (sym e)
    (record { longer = (let a = post-longer (ring_of h t) (Clear (closing_range (process_of h.node p) c)) h.side.to_linux r in omega (arith, a)); unborn = none })

pub record MayBegin (t : ℕ) (h : Here) : Type 0 where
  pub changes : is_some (change_in (thread_of h.node t).does) ≡ true
  pub none : h.side.round ≡ None

pub may-begin-is : (t : ℕ) (h : Here) → may_begin_vm t h ≡ true → MayBegin t h
may-begin-is t h e =
    let a = both _ (is_none h.side.round) e in
    let b = both _ (is_living h.node (thread_of h.node t).process) a.0 in
    let c = both (has_thread h.node t) (is_some (change_in (thread_of h.node t).does)) b.0 in
    record { changes = c.1; none = none-is h.side.round a.1 }

-- a thread that changes its memory has a change
pub no-change : (d : Does) → is_some (change_in d) ≡ true → ((c : Change) → d ≡ InVm c → ⊥) → ⊥
no-change (InVm c) e none = none c refl
no-change Ready e none = grind (arith, e)
no-change (Stopped s) e none = grind (arith, e)
no-change Called e none = grind (arith, e)
no-change (Asleep a) e none = grind (arith, e)
no-change (InWait a b) e none = grind (arith, e)

pub begin-is : (p t : ℕ) (c : Change) (r : PageRange) (h : Here) → change_in (thread_of h.node t).does ≡ Some c → r ≡ closing_range (process_of h.node p) c → with_side h (begin_round (ring_of h t) t r h.side) ≡ begin_vm p t h
begin-is p t c r h e is = ap (λ range. with_side h (begin_round (ring_of h t) t range h.side)) is ∙ ap (λ o. begin_vm_of p t o h) (sym e)

module _ {T F : Type 0} (rows : T → Map Row) (files : F → Files) (x : Parts T F) (p : ℕ) (s : Side T) (there : at x.sides.map p ≡ Some s) where
  -- a place for the message
  pub place-of : (e : Event) (t : ℕ) → process_of_event (pair_of rows files x).node e ≡ p → Posts t (here_in rows files x s) (after_here e p (here_in rows files x s)) → FindsRoom (pair_of rows files x) e → Kept x
      → HasPlace x.lwk s.channel.to_linux t
  place-of e t process posts room kept =
      let a = place-in rows files x p s there e (t % x.lwk.cores % x.lwk.rings) process posts.unborn room posts.longer in
      let b = (kept.rings p s there).to_linux in
      omega (arith, a, b)
