-- The events that the actors of a process look for: each is an event of that process, so two tests that agree on these find the same.
use Rattle.hybrid_model.specs.Events.{process_of_event}
use Rattle.hybrid_model.specs.Pairs.{Pair}
use Rattle.hybrid_model.specs.declared.events.Event.TheVariants.{AckClear, Act, Answer, Assign, BeginVm, Copy, Fetch, Finish, Intake, Interrupt, Miss, Park, Pin, Reap, Unpark, Unpin, Wait}
use Rattle.hybrid_model.specs.declared.events.Event.{Event}
use Rattle.mck_word.specs.Identifiers.{pid, req, tid}
use Rattle.mck_word.specs.Lists.{count_from}
use Rattle.quiet_laws.proofs.Asked.{of_process_actor}
use Rattle.run_model.specs.Walks.{all_workers, thread_numbers}
use Rattle.kernel_model.specs.Nodes.{thread_of}
use Rattle.mck_word.specs.Maps.{keys}
use Rattle.std.proofs.Common.{ap, arith, refl, sym, ◌∙◌}
use Rattle.std.proofs.lemmas.Bool.Decides.{nat_tests}
use Rattle.std.specs.Prelude.{Bool, List, None, Option, Some, [], cond, false, filter, find, map, true, ℕ, ◌++◌, ◌==◌, ◌∷◌, ◌≡◌}

-- ---- two tests find the same
module _ {A : Type 0} (f g : A → Bool) where
  abbrev pub Same : List A → Type 0
  Same xs = find f xs ≡ find g xs

  first-same : (x : A) (xs : List A) → f x ≡ g x → Same xs → Same (x ∷ xs)
  first-same x xs e h = λ i. cond (e i) (Some x) (h i)

  joined : (test : A → Bool) (xs ys : List A) → find test (xs ++ ys) ≡ elim (find test xs) as (λ _. Option A) [ None ↦ find test ys | Some x ↦ Some x ]
  joined test [] ys = refl
  joined test (x ∷ xs) ys =
      elim (test x) as (λ b. cond b (Some x) (find test (xs ++ ys)) ≡ elim (cond b (Some x) (find test xs)) as (λ _. Option A) [ None ↦ find test ys | Some x ↦ Some x ]) [ true ↦ refl | false ↦ joined test xs ys ]

  join-same : (xs ys : List A) → Same xs → Same ys → Same (xs ++ ys)
  join-same xs ys h k = joined f xs ys ∙ (λ i. elim (h i) as (λ _. Option A) [ None ↦ k i | Some x ↦ Some x ]) ∙ sym (joined g xs ys)

  map-same : {B : Type 0} (make : B → A) (bs : List B) → ((b : B) → f (make b) ≡ g (make b)) → Same (map make bs)
  map-same make [] h = refl
  map-same make (b ∷ bs) h = first-same (make b) (map make bs) (h b) (map-same make bs h)

  passing-same : {B : Type 0} (make : B → A) (test : B → Bool) (bs : List B) → ((b : B) → test b ≡ true → f (make b) ≡ g (make b)) → Same (map make (filter test bs))
  passing-same make test [] h = refl
  passing-same {B} make test (b ∷ bs) h = go (test b) refl (passing-same make test bs h)
    where
      go : (x : Bool) → test b ≡ x → Same (map make (filter test bs)) → Same (map make (cond x (b ∷ filter test bs) (filter test bs)))
      go true e k = first-same (make b) (map make (filter test bs)) (h b e) k
      go false e k = k

-- ---- the events of the actors of process p
abbrev pub kernel_events : Pair → ℕ → List ℕ → List Event
kernel_events pair p ts = Intake (pid p) ∷ map (λ w. Answer (pid p) w) (all_workers pair) ++ map (λ t. BeginVm (tid t)) ts ++ map (λ t. Interrupt (tid t)) ts ++ map (λ t. Wait (tid t)) ts ++ (Reap (pid p) ∷ [])

abbrev pub linux_events : Pair → ℕ → List ℕ → List Event
linux_events pair p qs = map (λ r. Fetch (pid p) r) (count_from 0 pair.rings) ++ AckClear (pid p) ∷ map (λ w. Assign (pid p) w) (all_workers pair) ++ map (λ q. Unpark (pid p) (req q)) qs

abbrev pub worker_events : ℕ → ℕ → List Event
worker_events p w = let x = pid p in Miss x w ∷ Pin x w ∷ Copy x w ∷ Unpin x w ∷ Act x w ∷ Park x w ∷ Finish x w ∷ []

-- two tests that agree on the events of the process
abbrev pub Agree : (Event → Bool) → (Event → Bool) → Pair → ℕ → Type 0
Agree f g pair p = (e : Event) → of_process_actor e ≡ true → (process_of_event pair.node e == p) ≡ true → f e ≡ g e

module _ (f g : Event → Bool) (pair : Pair) (p : ℕ) (agree : Agree f g pair p) where
  abbrev ts : List ℕ
  ts = thread_numbers pair p

  own : (p == p) ≡ true
  own = grind (arith, nat_tests)

  before : (e : Event) (es : List Event) → of_process_actor e ≡ true → (process_of_event pair.node e == p) ≡ true → Same f g es → Same f g (e ∷ es)
  before e es h k = first-same f g e es (agree e h k)

  of-numbers : (make : ℕ → Event) (ns : List ℕ) → ((n : ℕ) → of_process_actor (make n) ≡ true) → ((n : ℕ) → (process_of_event pair.node (make n) == p) ≡ true) → Same f g (map make ns)
  of-numbers make ns h k = map-same f g make ns (λ n. agree (make n) (h n) (k n))

  of-threads : (make : ℕ → Event) → ((t : ℕ) → of_process_actor (make t) ≡ true) → ((t : ℕ) → process_of_event pair.node (make t) ≡ (thread_of pair.node t).process) → Same f g (map make ts)
  of-threads make h k =
      passing-same f g make (λ t. (thread_of pair.node t).process == p) (keys pair.node.threads) (λ t e. agree (make t) (h t) (ap (λ q. q == p) (k t) ∙ e))

  pub kernel-finds : Same f g (kernel_events pair p ts)
  kernel-finds =
      let answers = map (λ w. Answer (pid p) w) (all_workers pair) in
      let begins = map (λ t. BeginVm (tid t)) ts in
      let interrupts = map (λ t. Interrupt (tid t)) ts in
      let waits = map (λ t. Wait (tid t)) ts in
      let a = before (Intake (pid p)) answers refl own (of-numbers (λ w. Answer (pid p) w) (all_workers pair) (λ w. refl) (λ w. own)) in
      let b = join-same f g (Intake (pid p) ∷ answers) begins a (of-threads (λ t. BeginVm (tid t)) (λ t. refl) (λ t. refl)) in
      let c = join-same f g (Intake (pid p) ∷ answers ++ begins) interrupts b (of-threads (λ t. Interrupt (tid t)) (λ t. refl) (λ t. refl)) in
      let d = join-same f g (Intake (pid p) ∷ answers ++ begins ++ interrupts) waits c (of-threads (λ t. Wait (tid t)) (λ t. refl) (λ t. refl)) in
      join-same f g (Intake (pid p) ∷ answers ++ begins ++ interrupts ++ waits) (Reap (pid p) ∷ []) d (before (Reap (pid p)) [] refl own refl)

  pub linux-finds : (qs : List ℕ) → Same f g (linux_events pair p qs)
  linux-finds qs =
      let fetches = map (λ r. Fetch (pid p) r) (count_from 0 pair.rings) in
      let assigns = map (λ w. Assign (pid p) w) (all_workers pair) in
      let a = before (AckClear (pid p)) assigns refl own (of-numbers (λ w. Assign (pid p) w) (all_workers pair) (λ w. refl) (λ w. own)) in
      let b = join-same f g fetches (AckClear (pid p) ∷ assigns) (of-numbers (λ r. Fetch (pid p) r) (count_from 0 pair.rings) (λ r. refl) (λ r. own)) a in
      join-same f g (fetches ++ AckClear (pid p) ∷ assigns) (map (λ q. Unpark (pid p) (req q)) qs) b (of-numbers (λ q. Unpark (pid p) (req q)) qs (λ q. refl) (λ q. own))

  pub worker-finds : (w : ℕ) → Same f g (worker_events p w)
  worker-finds w =
      let x = pid p in
      let finish = before (Finish x w) [] refl own refl in
      let park = before (Park x w) (Finish x w ∷ []) refl own finish in
      let act = before (Act x w) (Park x w ∷ Finish x w ∷ []) refl own park in
      let unpin = before (Unpin x w) (Act x w ∷ Park x w ∷ Finish x w ∷ []) refl own act in
      let copy = before (Copy x w) (Unpin x w ∷ Act x w ∷ Park x w ∷ Finish x w ∷ []) refl own unpin in
      let pin = before (Pin x w) (Copy x w ∷ Unpin x w ∷ Act x w ∷ Park x w ∷ Finish x w ∷ []) refl own copy in
      before (Miss x w) (Pin x w ∷ Copy x w ∷ Unpin x w ∷ Act x w ∷ Park x w ∷ Finish x w ∷ []) refl own pin
