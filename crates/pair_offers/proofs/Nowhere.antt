-- A process that isn't there offers nothing.
use Rattle.hybrid_model.specs.Events.{may, may_here, process_of_event}
use Rattle.hybrid_model.specs.Pairs.{Pair, here, side_of}
use Rattle.hybrid_model.specs.Tallies.{Each}
use Rattle.hybrid_model.specs.declared.events.Event.{Event}
use Rattle.hybrid_model.specs.declared.events.Event.TheVariants.{AckClear, Act, Answer, Assign, BeginVm, Copy, Deliver, Fetch, Finish, Intake, Interrupt, Miss, Park, Pin, Reap, Trap, Unpark, Unpin, Wait}
use Rattle.kernel_model.specs.Nodes.{is_there, thread_of}
use Rattle.mck_word.specs.Identifiers.{pid, req, tid}
use Rattle.mck_word.specs.Lists.{count_from}
use Rattle.mck_word.specs.Maps.{keys}
use Rattle.offer_laws.proofs.Each.{each-all, each-join, each-map, none-found}
use Rattle.pair_offers.specs.Seeking.{events_on_core}
use Rattle.run_model.specs.Walks.{all_workers, kernel_offer, linux_offer, run_of, thread_numbers, worker_offer}
use Rattle.std.proofs.Common.{ap, arith, refl, ◌∙◌}
use Rattle.std.proofs.lemmas.Bool.Decides.{nat_tests}
use Rattle.std.specs.Prelude.{Bool, List, None, [], cond, false, filter, find, map, true, ℕ, ◌&&◌, ◌++◌, ◌==◌, ◌≡◌, ◌∷◌}

module _ (pair : Pair) (p : ℕ) (gone : is_there pair.node p ≡ false) where
  abbrev IsSilent : Event → Type 0
  IsSilent e = may pair e ≡ false

  silent : (e : Event) → process_of_event pair.node e ≡ p → may pair e ≡ false
  silent e own = ap (λ q. is_there pair.node q && may_here e (here pair q)) own ∙ ap (λ b. b && may_here e (here pair p)) gone

  -- events of numbers that are its own, whatever the numbers are
  numbered : (f : ℕ → Event) (ns : List ℕ) → ((n : ℕ) → process_of_event pair.node (f n) ≡ p) → Each (λ e. may pair e ≡ false) (map f ns)
  numbered f ns own = each-map (λ e. may pair e ≡ false) f ns (each-all (λ n. may pair (f n) ≡ false) ns (λ n. silent (f n) (own n)))

  -- events of its threads
  of-threads : (f : ℕ → Event) → ((t : ℕ) → process_of_event pair.node (f t) ≡ (thread_of pair.node t).process) → (ts : List ℕ)
      → Each (λ e. may pair e ≡ false) (map f (filter (λ t. (thread_of pair.node t).process == p) ts))
  of-threads f own [] = tt
  of-threads f own (t ∷ ts) = go ((thread_of pair.node t).process == p) refl (of-threads f own ts)
    where
      go : (b : Bool) → ((thread_of pair.node t).process == p) ≡ b → Each (λ e. may pair e ≡ false) (map f (filter (λ u. (thread_of pair.node u).process == p) ts))
          → Each (λ e. may pair e ≡ false) (map f (cond b (t ∷ filter (λ u. (thread_of pair.node u).process == p) ts) (filter (λ u. (thread_of pair.node u).process == p) ts)))
      go true e r = (silent (f t) (own t ∙ (let q : (thread_of pair.node t).process ≡ p = grind (arith, nat_tests, e) in q)), r)
      go false e r = r

  abbrev joined : (xs ys : List Event) → Each (λ e. may pair e ≡ false) xs → Each (λ e. may pair e ≡ false) ys → Each (λ e. may pair e ≡ false) (xs ++ ys)
  joined xs ys = each-join (λ e. may pair e ≡ false) xs ys

  abbrev answers : List Event
  answers = Intake (pid p) ∷ map (λ w. Answer (pid p) w) (all_workers pair)

  abbrev begins : List Event
  begins = map (λ t. BeginVm (tid t)) (thread_numbers pair p)

  abbrev interrupts : List Event
  interrupts = map (λ t. Interrupt (tid t)) (thread_numbers pair p)

  abbrev waits : List Event
  waits = map (λ t. Wait (tid t)) (thread_numbers pair p)

  pub no-kernel-offer : kernel_offer pair p ≡ None
  no-kernel-offer =
      let ts = keys pair.node.threads in
      let of_answers : Each (λ e. may pair e ≡ false) answers = (silent (Intake (pid p)) refl, numbered (λ w. Answer (pid p) w) (all_workers pair) (λ w. refl)) in
      let with_begins = joined answers begins of_answers (of-threads (λ t. BeginVm (tid t)) (λ t. refl) ts) in
      let with_interrupts = joined (answers ++ begins) interrupts with_begins (of-threads (λ t. Interrupt (tid t)) (λ t. refl) ts) in
      let with_waits = joined ((answers ++ begins) ++ interrupts) waits with_interrupts (of-threads (λ t. Wait (tid t)) (λ t. refl) ts) in
      none-found (may pair) ((((answers ++ begins) ++ interrupts) ++ waits) ++ (Reap (pid p) ∷ []))
      (joined (((answers ++ begins) ++ interrupts) ++ waits) (Reap (pid p) ∷ []) with_waits (silent (Reap (pid p)) refl, tt))

  abbrev fetches : List Event
  fetches = map (λ r. Fetch (pid p) r) (count_from 0 pair.rings)

  abbrev assigns : List Event
  assigns = AckClear (pid p) ∷ map (λ w. Assign (pid p) w) (all_workers pair)

  abbrev unparks : List Event
  unparks = map (λ q. Unpark (pid p) (req q)) (keys (side_of pair p).book.rows)

  pub no-linux-offer : linux_offer pair p ≡ None
  no-linux-offer =
      let of_assigns : Each (λ e. may pair e ≡ false) assigns = (silent (AckClear (pid p)) refl, numbered (λ w. Assign (pid p) w) (all_workers pair) (λ w. refl)) in
      let with_assigns = joined fetches assigns (numbered (λ r. Fetch (pid p) r) (count_from 0 pair.rings) (λ r. refl)) of_assigns in
      none-found (may pair) ((fetches ++ assigns) ++ unparks)
      (joined (fetches ++ assigns) unparks with_assigns (numbered (λ q. Unpark (pid p) (req q)) (keys (side_of pair p).book.rows) (λ q. refl)))

  pub no-worker-offer : (w : ℕ) → worker_offer pair p w ≡ None
  no-worker-offer w =
      let x = pid p in
      none-found (may pair) (Miss x w ∷ Pin x w ∷ Copy x w ∷ Unpin x w ∷ Act x w ∷ Park x w ∷ Finish x w ∷ [])
      (silent (Miss x w) refl, (silent (Pin x w) refl, (silent (Copy x w) refl, (silent (Unpin x w) refl, (silent (Act x w) refl, (silent (Park x w) refl, (silent (Finish x w) refl, tt)))))))

  -- nor may a thread of it go on
  pub nothing-on-core : (core t : ℕ) → (thread_of pair.node t).process ≡ p → find (may pair) (events_on_core pair core t) ≡ None
  nothing-on-core core t own =
      none-found (may pair) (events_on_core pair core t) (silent (Trap (tid t)) own, (silent (Deliver (tid t)) own, (silent (run_of pair core t) own, tt)))
