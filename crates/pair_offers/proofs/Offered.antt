-- What each actor offers, from what is sought in order.
use Rattle.hybrid_model.specs.Events.{may}
use Rattle.hybrid_model.specs.Pairs.{Pair, side_of}
use Rattle.hybrid_model.specs.declared.events.Event.{Event}
use Rattle.hybrid_model.specs.declared.events.Event.TheVariants.{AckClear, Answer, Assign, Fetch, Intake, Reap, Unpark}
use Rattle.mck_word.specs.Identifiers.{req}
use Rattle.mck_word.specs.Lists.{count_from}
use Rattle.mck_word.specs.Maps.{at, keys}
use Rattle.mck_word.specs.declared.Pid.{Pid}
use Rattle.pair_offers.proofs.Above.{all-above}
use Rattle.pair_offers.proofs.Between.{none-above-first}
use Rattle.pair_offers.proofs.First.{event-by, found-behind, found-first}
use Rattle.pair_offers.specs.Seeking.{begins, event_of, events_of_threads, first_by, interrupts, is_up_to, waits}
use Rattle.pair_offers.specs.declared.seeking.Numbered.{Numbered}
use Rattle.run_model.specs.Walks.{core_event, core_offer, first_event, is_above_last, kernel_offer, linux_offer}
use Rattle.std.proofs.Common.{append_assoc, ap, sym, ◌∙◌}
use Rattle.std.specs.Prelude.{List, None, Option, Some, [], filter, find, map, ℕ, ◌++◌, ◌∷◌, ◌≡◌}

-- ---- cores
module _ (pair : Pair) (core : ℕ) (last : Option ℕ) (own : last ≡ at pair.last core) where
  above-last : first_event pair core (filter (is_above_last (at pair.last core)) (keys pair.node.threads)) ≡ first_by (core_event pair core) (filter (is_above_last last) (keys pair.node.threads))
  above-last =
      event-by pair core (filter (is_above_last (at pair.last core)) (keys pair.node.threads))
      ∙ ap (λ (o : Option ℕ). first_by (core_event pair core) (filter (is_above_last o) (keys pair.node.threads))) (sym own)

  pub core-some : (e : Event) → first_by (core_event pair core) (filter (is_above_last last) (keys pair.node.threads)) ≡ Some e → core_offer pair core ≡ Some e
  core-some e h = ap (λ (o : Option Event). elim o as (λ _. Option Event) [ None ↦ first_event pair core (keys pair.node.threads) | Some d ↦ Some d ]) (above-last ∙ h)

  module _ (none_above : first_by (core_event pair core) (filter (is_above_last last) (keys pair.node.threads)) ≡ None) where
    of-all : core_offer pair core ≡ first_by (core_event pair core) (keys pair.node.threads)
    of-all =
        ap (λ (o : Option Event). elim o as (λ _. Option Event) [ None ↦ first_event pair core (keys pair.node.threads) | Some d ↦ Some d ]) (above-last ∙ none_above)
        ∙ event-by pair core (keys pair.node.threads)

    -- without a last thread all of them stand above
    pub core-none : last ≡ None → core_offer pair core ≡ None
    core-none e =
        of-all
        ∙ (ap (λ (ks : List ℕ). first_by (core_event pair core) ks) (sym (all-above (keys pair.node.threads)))
        ∙ (ap (λ (o : Option ℕ). first_by (core_event pair core) (filter (is_above_last o) (keys pair.node.threads))) (sym e) ∙ none_above))

    pub core-up-to : (end : ℕ) → last ≡ Some end → core_offer pair core ≡ first_by (core_event pair core) (filter (is_up_to (Some end)) (keys pair.node.threads))
    core-up-to end e =
        let none = ap (λ (o : Option ℕ). first_by (core_event pair core) (filter (is_above_last o) (keys pair.node.threads))) (sym e) ∙ none_above in
        of-all ∙ none-above-first (core_event pair core) end (keys pair.node.threads) none

-- ---- events with numbers, where the count is the state's
pub counted : (pair : Pair) (what : Numbered) (n m : ℕ) (r : Option Event) → n ≡ m → r ≡ find (may pair) (map (event_of what) (count_from 0 n)) → find (may pair) (map (event_of what) (count_from 0 m)) ≡ r
counted pair what n m r e h = ap (λ (k : ℕ). find (may pair) (map (event_of what) (count_from 0 k))) (sym e) ∙ sym h

kernel-grouped : (a b c d e f : List Event) → ((((a ++ b) ++ c) ++ d) ++ e) ++ f ≡ a ++ (b ++ ((c ++ (d ++ e)) ++ f))
kernel-grouped a b c d e f = simp append_assoc

linux-grouped : (a b c d : List Event) → (a ++ (b ++ c)) ++ d ≡ a ++ (b ++ (c ++ d))
linux-grouped a b c d = simp append_assoc

module _ (pair : Pair) (p : Pid) where
  -- ---- the lightweight kernel
  abbrev pub answers : List Event
  answers = map (λ w. Answer p w) (count_from 0 pair.workers)

  abbrev pub from_threads : List Event
  from_threads = events_of_threads pair p ++ (Reap p ∷ [])

  abbrev pub from_answers : List Event
  from_answers = answers ++ from_threads

  kernel-in-order : kernel_offer pair p.0 ≡ find (may pair) ((Intake p ∷ []) ++ from_answers)
  kernel-in-order = ap (λ (es : List Event). find (may pair) es) (kernel-grouped (Intake p ∷ []) answers (begins pair p) (interrupts pair p) (waits pair p) (Reap p ∷ []))

  pub taken-in : (e : Event) → find (may pair) (Intake p ∷ []) ≡ Some e → kernel_offer pair p.0 ≡ Some e
  taken-in e h = kernel-in-order ∙ found-first (may pair) (Intake p ∷ []) from_answers e h

  module _ (no_intake : find (may pair) (Intake p ∷ []) ≡ None) where
    pub past-intake : kernel_offer pair p.0 ≡ find (may pair) from_answers
    past-intake = kernel-in-order ∙ found-behind (may pair) (Intake p ∷ []) from_answers no_intake

    module _ (no_answer : find (may pair) answers ≡ None) where
      pub past-answers : kernel_offer pair p.0 ≡ find (may pair) from_threads
      past-answers = past-intake ∙ found-behind (may pair) answers from_threads no_answer

      pub past-threads : find (may pair) (events_of_threads pair p) ≡ None → kernel_offer pair p.0 ≡ find (may pair) (Reap p ∷ [])
      past-threads none = past-answers ∙ found-behind (may pair) (events_of_threads pair p) (Reap p ∷ []) none

  -- ---- the Linux side
  abbrev pub fetches : List Event
  fetches = map (λ r. Fetch p r) (count_from 0 pair.rings)

  abbrev pub assigns : List Event
  assigns = map (λ w. Assign p w) (count_from 0 pair.workers)

  abbrev pub unparks : List Event
  unparks = map (λ q. Unpark p (req q)) (keys (side_of pair p.0).book.rows)

  abbrev pub from_assigns : List Event
  from_assigns = assigns ++ unparks

  abbrev pub from_ack : List Event
  from_ack = (AckClear p ∷ []) ++ from_assigns

  linux-in-order : linux_offer pair p.0 ≡ find (may pair) (fetches ++ from_ack)
  linux-in-order = ap (λ (es : List Event). find (may pair) es) (linux-grouped fetches (AckClear p ∷ []) assigns unparks)

  pub fetched : (e : Event) → find (may pair) fetches ≡ Some e → linux_offer pair p.0 ≡ Some e
  fetched e h = linux-in-order ∙ found-first (may pair) fetches from_ack e h

  module _ (no_fetch : find (may pair) fetches ≡ None) where
    pub past-fetches : linux_offer pair p.0 ≡ find (may pair) from_ack
    past-fetches = linux-in-order ∙ found-behind (may pair) fetches from_ack no_fetch

    module _ (no_ack : find (may pair) (AckClear p ∷ []) ≡ None) where
      pub past-ack : linux_offer pair p.0 ≡ find (may pair) from_assigns
      past-ack = past-fetches ∙ found-behind (may pair) (AckClear p ∷ []) from_assigns no_ack

      pub past-assigns : find (may pair) assigns ≡ None → linux_offer pair p.0 ≡ find (may pair) unparks
      past-assigns no_assign = past-ack ∙ found-behind (may pair) assigns unparks no_assign
