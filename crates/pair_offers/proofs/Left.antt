-- The events of a worker that are left by how it stands offer what all of them offer.
use Rattle.hybrid_model.specs.Events.{may}
use Rattle.hybrid_model.specs.Act.{may_act}
use Rattle.hybrid_model.specs.Copy.{is_uncopied, may_copy}
use Rattle.hybrid_model.specs.Finish.{may_finish}
use Rattle.hybrid_model.specs.Miss.{may_miss}
use Rattle.hybrid_model.specs.Park.{may_park}
use Rattle.hybrid_model.specs.Pin.{may_pin}
use Rattle.hybrid_model.specs.Unpin.{is_copied, may_unpin}
use Rattle.hybrid_model.specs.Workers.{has_pin, holds, is_ended_request, is_free_to_act, is_held, kind_for, row_for}
use Rattle.hybrid_model.specs.Pairs.{Pair, side_of}
use Rattle.hybrid_model.specs.Sides.{Side, serves, state_of}
use Rattle.hybrid_model.specs.declared.events.Event.{Event}
use Rattle.hybrid_model.specs.declared.events.Event.TheVariants.{Act, Copy, Finish, Miss, Park, Pin, Unpin}
use Rattle.kernel_model.specs.Nodes.{is_there}
use Rattle.kernel_model.specs.Progress.{is_file_step, is_not_ready, is_ready}
use Rattle.mck_word.specs.Identifiers.{pid}
use Rattle.mck_word.specs.Maps.{at}
use Rattle.page_pins.specs.declared.Pin.{Pin as PinRow}
use Rattle.pair_offers.specs.Stances.{left_events, stance_of}
use Rattle.pair_offers.specs.declared.stance.Stance.{Stance}
use Rattle.pair_offers.specs.declared.stance.Stance.TheVariants.{Holding, Other, Pinned}
use Rattle.request_book.specs.declared.ReqState.{ReqState}
use Rattle.request_book.specs.declared.ReqState.TheVariants.{Ended, Faulted, Held, Parked, Posted, Replied, Waiting}
use Rattle.run_model.specs.Walks.{worker_offer}
use Rattle.std.proofs.Common.{ap, refl, sym, ◌∙◌}
use Rattle.std.specs.Prelude.{Bool, List, None, Option, Some, [], cond, false, find, is_none, is_some, nat_lt, not, true, ℕ, ◌&&◌, ◌||◌, ◌∷◌, ◌≡◌}

-- ---- what no test takes is passed over
module _ {E : Type 0} (test : E → Bool) where
  passed-by : (x : E) (xs ys : List E) → test x ≡ false → find test xs ≡ find test ys → find test (x ∷ xs) ≡ find test ys
  passed-by x xs ys fails same = ap (λ b. cond b (Some x) (find test xs)) fails ∙ same

  asked-first : (x : E) (xs ys : List E) → find test xs ≡ find test ys → find test (x ∷ xs) ≡ find test (x ∷ ys)
  asked-first x xs ys same = ap (λ (o : Option E). cond (test x) (Some x) o) same

-- ---- tests that fail by one part
behind : (a b : Bool) → b ≡ false → (a && b) ≡ false
behind true b fails = fails
behind false b fails = refl

before : (a b : Bool) → a ≡ false → (a && b) ≡ false
before a b fails = ap (λ (x : Bool). x && b) fails

second : (a b : Bool) → (a && b) ≡ true → b ≡ true
second true b is = is
second false b is = cc

before-two : (a b c : Bool) → a ≡ false → (a && b && c) ≡ false
before-two a b c fails = ap (λ (x : Bool). x && b && c) fails

not-both : (held pin : Bool) → pin ≡ true → (held && not pin) ≡ false
not-both held pin is = behind held (not pin) (ap not is)

uncopied : (o : Option PinRow) → is_some o ≡ false → is_uncopied o ≡ false
uncopied None fails = refl
uncopied (Some x) fails = cc

unended : (s : ReqState) → is_held s ≡ true → is_ended_request s ≡ false
unended Posted is = cc
unended Waiting is = cc
unended Held is = refl
unended Faulted is = cc
unended Parked is = cc
unended Ended is = cc
unended Replied is = cc

-- ---- the events of a worker
module _ (pair : Pair) (p w : ℕ) where
  abbrev own : Side
  own = side_of pair p

  -- an event of a worker that exists, of a process that is there
  abbrev of_worker : Bool → Bool
  of_worker b = is_there pair.node p && (nat_lt w pair.workers && b)

  never : (b : Bool) → b ≡ false → of_worker b ≡ false
  never b fails = behind (is_there pair.node p) (nat_lt w pair.workers && b) (behind (nat_lt w pair.workers) b fails)

  -- the events that need a worker which is free to act, where it isn't
  module _ (busy : is_free_to_act own.linux own.book w ≡ false) where
    no-miss : may pair (Miss (pid p) w) ≡ false
    no-miss = never (may_miss own.linux own.book pair.node.files w) (before-two (is_free_to_act own.linux own.book w) (is_ready (kind_for own.linux pair.node.files w)) (is_none (row_for own.linux w)) busy)

    no-pin : may pair (Pin (pid p) w) ≡ false
    no-pin = never (may_pin own.linux own.book pair.node.files w) (before-two (is_free_to_act own.linux own.book w) (is_ready (kind_for own.linux pair.node.files w)) (is_some (row_for own.linux w)) busy)

    no-act : may pair (Act (pid p) w) ≡ false
    no-act = never (may_act own.linux own.book pair.node.files w) (before (is_free_to_act own.linux own.book w) (is_file_step (kind_for own.linux pair.node.files w)) busy)

    no-park : may pair (Park (pid p) w) ≡ false
    no-park = never (may_park own.linux own.book pair.node.files w) (before (is_free_to_act own.linux own.book w) (is_not_ready (kind_for own.linux pair.node.files w)) busy)

  -- the events that need a pin, where the worker has none
  module _ (free : has_pin own.linux w ≡ false) where
    no-copy : may pair (Copy (pid p) w) ≡ false
    no-copy = never (may_copy own.linux own.book pair.node.files w)
        (before-two (is_uncopied (at own.linux.pins w)) (holds own.linux own.book w) (is_ready (kind_for own.linux pair.node.files w)) (uncopied (at own.linux.pins w) free))

    no-unpin : may pair (Unpin (pid p) w) ≡ false
    no-unpin = never (may_unpin own.linux own.book pair.node.files w)
        (before (has_pin own.linux w) (is_copied (at own.linux.pins w) || not (holds own.linux own.book w && is_ready (kind_for own.linux pair.node.files w))) free)

  -- a worker replies only where it has no pin and its request isn't held
  abbrev is_served : Bool
  is_served = is_some (at own.linux.workers w)

  abbrev served_state : ReqState
  served_state = state_of own.book (serves own.linux w)

  abbrev has_ended : Bool
  has_ended = is_ended_request served_state

  pinned-finish : has_pin own.linux w ≡ true → may pair (Finish (pid p) w) ≡ false
  pinned-finish is = never (may_finish own.linux own.book w) (not-both (is_served && has_ended) (has_pin own.linux w) is)

  held-finish : holds own.linux own.book w ≡ true → may pair (Finish (pid p) w) ≡ false
  held-finish is = never (may_finish own.linux own.book w)
      (before (is_served && has_ended) (not (has_pin own.linux w)) (behind is_served has_ended (unended served_state (second is_served (is_held served_state) is))))

  -- ---- what is left, and all
  abbrev miss : Event
  miss = Miss (pid p) w

  abbrev pin : Event
  pin = Pin (pid p) w

  abbrev copy : Event
  copy = Copy (pid p) w

  abbrev unpin : Event
  unpin = Unpin (pid p) w

  abbrev act : Event
  act = Act (pid p) w

  abbrev park : Event
  park = Park (pid p) w

  abbrev finish : Event
  finish = Finish (pid p) w

  abbrev first : List Event → Option Event
  first events = find (may pair) events

  pinned-left : has_pin own.linux w ≡ true → worker_offer pair p w ≡ first (left_events Pinned p w)
  pinned-left is =
      let busy : is_free_to_act own.linux own.book w ≡ false = not-both (holds own.linux own.book w) (has_pin own.linux w) is in
      let last : first (act ∷ park ∷ finish ∷ []) ≡ first [] =
      passed-by (may pair) act (park ∷ finish ∷ []) [] (no-act busy) (passed-by (may pair) park (finish ∷ []) [] (no-park busy) (passed-by (may pair) finish [] [] (pinned-finish is) refl)) in
      let middle : first (copy ∷ unpin ∷ act ∷ park ∷ finish ∷ []) ≡ first (copy ∷ unpin ∷ []) =
      asked-first (may pair) copy (unpin ∷ act ∷ park ∷ finish ∷ []) (unpin ∷ []) (asked-first (may pair) unpin (act ∷ park ∷ finish ∷ []) [] last) in
      passed-by (may pair) miss (pin ∷ copy ∷ unpin ∷ act ∷ park ∷ finish ∷ []) (copy ∷ unpin ∷ []) (no-miss busy)
      (passed-by (may pair) pin (copy ∷ unpin ∷ act ∷ park ∷ finish ∷ []) (copy ∷ unpin ∷ []) (no-pin busy) middle)

  holding-left : has_pin own.linux w ≡ false → holds own.linux own.book w ≡ true → worker_offer pair p w ≡ first (left_events Holding p w)
  holding-left free is =
      let last : first (finish ∷ []) ≡ first [] = passed-by (may pair) finish [] [] (held-finish is) refl in
      let ahead : first (act ∷ park ∷ finish ∷ []) ≡ first (act ∷ park ∷ []) = asked-first (may pair) act (park ∷ finish ∷ []) (park ∷ []) (asked-first (may pair) park (finish ∷ []) [] last) in
      let middle : first (copy ∷ unpin ∷ act ∷ park ∷ finish ∷ []) ≡ first (act ∷ park ∷ []) =
      passed-by (may pair) copy (unpin ∷ act ∷ park ∷ finish ∷ []) (act ∷ park ∷ []) (no-copy free)
      (passed-by (may pair) unpin (act ∷ park ∷ finish ∷ []) (act ∷ park ∷ []) (no-unpin free) ahead) in
      asked-first (may pair) miss (pin ∷ copy ∷ unpin ∷ act ∷ park ∷ finish ∷ []) (pin ∷ act ∷ park ∷ [])
      (asked-first (may pair) pin (copy ∷ unpin ∷ act ∷ park ∷ finish ∷ []) (act ∷ park ∷ []) middle)

  other-left : has_pin own.linux w ≡ false → holds own.linux own.book w ≡ false → worker_offer pair p w ≡ first (left_events Other p w)
  other-left free idle =
      let busy : is_free_to_act own.linux own.book w ≡ false = before (holds own.linux own.book w) (not (has_pin own.linux w)) idle in
      let last : first (act ∷ park ∷ finish ∷ []) ≡ first (finish ∷ []) =
      passed-by (may pair) act (park ∷ finish ∷ []) (finish ∷ []) (no-act busy) (passed-by (may pair) park (finish ∷ []) (finish ∷ []) (no-park busy) refl) in
      let middle : first (copy ∷ unpin ∷ act ∷ park ∷ finish ∷ []) ≡ first (finish ∷ []) =
      passed-by (may pair) copy (unpin ∷ act ∷ park ∷ finish ∷ []) (finish ∷ []) (no-copy free)
      (passed-by (may pair) unpin (act ∷ park ∷ finish ∷ []) (finish ∷ []) (no-unpin free) last) in
      passed-by (may pair) miss (pin ∷ copy ∷ unpin ∷ act ∷ park ∷ finish ∷ []) (finish ∷ []) (no-miss busy)
      (passed-by (may pair) pin (copy ∷ unpin ∷ act ∷ park ∷ finish ∷ []) (finish ∷ []) (no-pin busy) middle)

  left-is : worker_offer pair p w ≡ first (left_events (stance_of own w) p w)
  left-is = go (has_pin own.linux w) (holds own.linux own.book w) refl refl
    where
      go : (b c : Bool) → has_pin own.linux w ≡ b → holds own.linux own.book w ≡ c → worker_offer pair p w ≡ first (left_events (cond b Pinned (cond c Holding Other)) p w)
      go true c pin _ = pinned-left pin
      go false true free is = holding-left free is
      go false false free idle = other-left free idle

  -- for a worker of which it is known how it stands
  pub left-by : (s : Stance) → s ≡ stance_of own w → first (left_events s p w) ≡ worker_offer pair p w
  left-by s is = ap (λ (t : Stance). first (left_events t p w)) is ∙ sym left-is
