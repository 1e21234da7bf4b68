-- The threads of a core: those that are passed over have none of their events.
use Rattle.hybrid_model.specs.Events.{may}
use Rattle.hybrid_model.specs.Pairs.{Pair}
use Rattle.hybrid_model.specs.declared.events.Event.{Event}
use Rattle.mck_word.specs.Maps.{keys}
use Rattle.pair_offers.proofs.Above.{Rises, found-taken, keys-rise, taken-first, taken-rise}
use Rattle.pair_offers.proofs.Between.{past-end}
use Rattle.pair_offers.proofs.First.{above-is, above-none, above-not, above-taken, fewer-above}
use Rattle.pair_offers.specs.Seeking.{events_on_core, first_by, is_on_core, is_up_to, threads_on}
use Rattle.run_model.specs.Walks.{core_event, is_above_last}
use Rattle.std.proofs.Common.{ap, refl, ◌∙◌}
use Rattle.std.specs.Prelude.{List, None, Option, Some, cond, false, filter, find, length, true, ℕ, ◌<◌, ◌≡◌}

module _ (pair : Pair) where
  module _ (core : ℕ) where
    of-asked : (t : ℕ) → is_on_core pair core t ≡ true → core_event pair core t ≡ find (may pair) (events_on_core pair core t)
    of-asked t e = ap (λ b. cond b (find (may pair) (events_on_core pair core t)) None) e

    of-others : (t : ℕ) → is_on_core pair core t ≡ false → core_event pair core t ≡ None
    of-others t e = ap (λ b. cond b (find (may pair) (events_on_core pair core t)) None) e

    asked-rise : Rises (threads_on pair core)
    asked-rise = taken-rise (is_on_core pair core) (keys pair.node.threads) (keys-rise pair.node.threads)

    pub next-past : (last end : Option ℕ) (t : ℕ) → find (is_above_last last) (threads_on pair core) ≡ Some t → is_up_to end t ≡ false → find (is_above_last last) (filter (is_up_to end) (threads_on pair core)) ≡ None
    next-past last end t e h = past-end (is_above_last last) end t (threads_on pair core) asked-rise e h

    module _ (end : Option ℕ) where
      abbrev in_reach : List ℕ
      in_reach = filter (is_up_to end) (threads_on pair core)

      rises : Rises (filter (is_up_to end) (threads_on pair core))
      rises = taken-rise (is_up_to end) (threads_on pair core) asked-rise

      module _ (last : Option ℕ) where
        pub asked-alone : first_by (core_event pair core) (filter (is_above_last last) (filter (is_up_to end) (keys pair.node.threads))) ≡ first_by (core_event pair core) (filter (is_above_last last) in_reach)
        asked-alone =
            above-taken (core_event pair core) (is_on_core pair core) of-others last (filter (is_up_to end) (keys pair.node.threads))
            ∙ ap (λ (ns : List ℕ). first_by (core_event pair core) (filter (is_above_last last) ns)) (taken-first (is_on_core pair core) (is_up_to end) (keys pair.node.threads))

        pub asked-none : find (is_above_last last) in_reach ≡ None → first_by (core_event pair core) (filter (is_above_last last) in_reach) ≡ None
        asked-none e = above-none (core_event pair core) last in_reach e

        module _ (t : ℕ) (next : find (is_above_last last) in_reach ≡ Some t) where
          is-asked : is_on_core pair core t ≡ true
          is-asked =
              let swapped = taken-first (is_on_core pair core) (is_up_to end) (keys pair.node.threads) in
              found-taken (is_on_core pair core) (is_above_last last) t (filter (is_up_to end) (keys pair.node.threads)) (ap (λ (ns : List ℕ). find (is_above_last last) ns) swapped ∙ next)

          own : core_event pair core t ≡ find (may pair) (events_on_core pair core t)
          own = of-asked t is-asked

          pub asked-is : (e : Event) → find (may pair) (events_on_core pair core t) ≡ Some e → first_by (core_event pair core) (filter (is_above_last last) in_reach) ≡ Some e
          asked-is e h = above-is (core_event pair core) last in_reach rises t e next (own ∙ h)

          pub asked-not : find (may pair) (events_on_core pair core t) ≡ None
              → first_by (core_event pair core) (filter (is_above_last last) in_reach) ≡ first_by (core_event pair core) (filter (is_above_last (Some t)) in_reach)
          asked-not h = above-not (core_event pair core) last in_reach rises t next (own ∙ h)

          pub asked-fewer : length (filter (is_above_last (Some t)) in_reach) < length (filter (is_above_last last) in_reach)
          asked-fewer = fewer-above last t in_reach rises next
