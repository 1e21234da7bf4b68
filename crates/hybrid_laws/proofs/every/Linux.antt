-- What holds of each event of the Linux side in a coherent state: coherence is kept, its image is a run of the one-kernel machine, a copy reaches the frame that the table gives, and no frame is handed out.
use Rattle.hybrid_model.specs.declared.events.Event.TheVariants as Events
use Rattle.hybrid_laws.proofs.ack_clear.Whole.{coherent_ack_clear, simulated_ack_clear}
use Rattle.hybrid_laws.proofs.act.Whole.{coherent_act, simulated_act}
use Rattle.hybrid_laws.proofs.assign.Whole.{coherent_assign, simulated_assign}
use Rattle.hybrid_laws.proofs.copy.Whole.{coherent_copy, copy_reaches, simulated_copy}
use Rattle.hybrid_laws.proofs.fetch.Whole.{coherent_fetch, simulated_fetch}
use Rattle.hybrid_laws.proofs.finish.Whole.{coherent_finish, simulated_finish}
use Rattle.hybrid_laws.proofs.miss.Whole.{coherent_miss, simulated_miss}
use Rattle.hybrid_laws.proofs.park.Whole.{coherent_park, simulated_park}
use Rattle.hybrid_laws.proofs.pin.Whole.{coherent_pin, simulated_pin}
use Rattle.hybrid_laws.proofs.unpark.Whole.{coherent_unpark, simulated_unpark}
use Rattle.hybrid_laws.proofs.unpin.Whole.{coherent_unpin, simulated_unpin}
use Rattle.hybrid_laws.specs.EventKinds.{is_of_linux}
use Rattle.hybrid_model.specs.Claims.{HandsOutFresh, Holds}
use Rattle.hybrid_model.specs.AckClear.{ack_clear}
use Rattle.hybrid_model.specs.Act.{act_file}
use Rattle.hybrid_model.specs.Copy.{copy}
use Rattle.hybrid_model.specs.Events.{after, after_here, may, process_of_event}
use Rattle.hybrid_model.specs.Fetch.{fetch_from}
use Rattle.hybrid_model.specs.Finish.{finish_here}
use Rattle.hybrid_model.specs.Miss.{miss}
use Rattle.hybrid_model.specs.Park.{park_here}
use Rattle.hybrid_model.specs.Unpark.{unpark_here}
use Rattle.hybrid_model.specs.Globals.{Coherent, table_of}
use Rattle.hybrid_model.specs.Pairs.{Here, Pair, here, put_here, side_of, with_born}
use Rattle.hybrid_model.specs.Rings.{ring}
use Rattle.hybrid_model.specs.Sides.{Row, Side, new_side}
use Rattle.hybrid_model.specs.declared.events.Event.{Event}
use Rattle.ikc_ring.specs.declared.Msg.{Msg}
use Rattle.mck_word.specs.MapLaws.{at-put}
use Rattle.mck_word.specs.Maps.{Map, at, put}
use Rattle.std.proofs.Common.{ap, arith, refl, sym, ◌∙◌}
use Rattle.std.proofs.lemmas.Bool.Decides.{nat_tests}
use Rattle.std.specs.Prelude.{Bool, List, None, Option, Some, [], cond, false, true, unwrap_or, ℕ, ◌==◌, ◌∷◌, ◌≡◌}

-- ---- no frame is handed out

-- the tables stay where one process is put back with the table that it had, and no process is made
pub tables-stay : (pair : Pair) (c : Coherent pair) (p : ℕ) (h : Here) → h.side.lwk.table ≡ (side_of pair p).lwk.table → h.born ≡ None → (x i : ℕ) → table_of (put_here pair p h) x i ≡ table_of pair x i
tables-stay pair c p h e none x i = ap (λ (o : Option (ℕ × Side)). at (unwrap_or (at (with_born (put pair.sides p h.side) o) x) (new_side 0)).lwk.table i) none
    ∙ ap (λ (o : Option Side). at (unwrap_or o (new_side 0)).lwk.table i) (at-put pair.sides p h.side x) ∙ go (x == p) refl
  where
    go : (b : Bool) → (x == p) ≡ b → at (unwrap_or (cond b (Some h.side) (at pair.sides x)) (new_side 0)).lwk.table i ≡ table_of pair x i
    go false f = refl
    go true f = let y : p ≡ x = grind (arith, nat_tests, f) in ap (λ (m : Map Row). at m i) e ∙ ap (λ (j : ℕ). table_of pair j i) y

pub none-handed : (pair : Pair) (e : Event) → ((x i : ℕ) → table_of (after pair e) x i ≡ table_of pair x i) → HandsOutFresh pair e
none-handed pair e same x i f h = absurd (h.new h.row (sym (same x i) ∙ h.there) h.frame)

fetched-table : (r : ℕ) (xs : List Msg) (h : Here) → ((fetch_from r xs h).side.lwk.table ≡ h.side.lwk.table) × ((fetch_from r xs h).born ≡ h.born)
fetched-table r [] h = (refl, refl)
fetched-table r (m ∷ ms) h = (refl, refl)

-- no event of the Linux side changes a table or makes a process
linux-table : (e : Event) → is_of_linux e ≡ true → (p : ℕ) (h : Here) → ((after_here e p h).side.lwk.table ≡ h.side.lwk.table) × ((after_here e p h).born ≡ h.born)
unfolding miss copy act_file park_here unpark_here finish_here ack_clear
linux-table (Events.Run core t n) l p h = absurd (grind (arith, l))
linux-table (Events.Trap t) l p h = absurd (grind (arith, l))
linux-table (Events.Deliver t) l p h = absurd (grind (arith, l))
linux-table (Events.Intake q) l p h = absurd (grind (arith, l))
linux-table (Events.Answer q w) l p h = absurd (grind (arith, l))
linux-table (Events.BeginVm t) l p h = absurd (grind (arith, l))
linux-table (Events.Interrupt t) l p h = absurd (grind (arith, l))
linux-table (Events.Wait t) l p h = absurd (grind (arith, l))
linux-table (Events.Reap q) l p h = absurd (grind (arith, l))
linux-table (Events.Script i) l p h = absurd (grind (arith, l))
linux-table (Events.Fetch q r) l p h = fetched-table r (ring r h.side.to_linux) h
linux-table (Events.Assign q w) l p h = (refl, refl)
linux-table (Events.Miss q w) l p h = (refl, refl)
linux-table (Events.Pin q w) l p h = (refl, refl)
linux-table (Events.Copy q w) l p h = (refl, refl)
linux-table (Events.Unpin q w) l p h = (refl, refl)
linux-table (Events.Act q w) l p h = (refl, refl)
linux-table (Events.Park q w) l p h = (refl, refl)
linux-table (Events.Unpark q n) l p h = (refl, refl)
linux-table (Events.Finish q w) l p h = (refl, refl)
linux-table (Events.AckClear q) l p h = (refl, refl)

module _ (pair : Pair) (c : Coherent pair) where
  handed : (e : Event) → is_of_linux e ≡ true → HandsOutFresh pair e
  handed e l = let p = process_of_event pair.node e in let t = linux-table e l p (here pair p) in none-handed pair e (tables-stay pair c p (after_here e p (here pair p)) t.0 t.1)

  -- ---- each event
  pub holds_linux : (e : Event) → is_of_linux e ≡ true → may pair e ≡ true → Holds pair e
  holds_linux (Events.Run core t n) l m = absurd (grind (arith, l))
  holds_linux (Events.Trap t) l m = absurd (grind (arith, l))
  holds_linux (Events.Deliver t) l m = absurd (grind (arith, l))
  holds_linux (Events.Intake q) l m = absurd (grind (arith, l))
  holds_linux (Events.Answer q w) l m = absurd (grind (arith, l))
  holds_linux (Events.BeginVm t) l m = absurd (grind (arith, l))
  holds_linux (Events.Interrupt t) l m = absurd (grind (arith, l))
  holds_linux (Events.Wait t) l m = absurd (grind (arith, l))
  holds_linux (Events.Reap q) l m = absurd (grind (arith, l))
  holds_linux (Events.Script i) l m = absurd (grind (arith, l))
  holds_linux (Events.Fetch q r) l m = record { coherent = coherent_fetch pair c q r m; simulated = simulated_fetch pair c q r m; copies = tt; handed_out = handed (Events.Fetch q r) l }
  holds_linux (Events.Assign q w) l m = record { coherent = coherent_assign pair c q w m; simulated = simulated_assign pair c q w m; copies = tt; handed_out = handed (Events.Assign q w) l }
  holds_linux (Events.Miss q w) l m = record { coherent = coherent_miss pair c q w m; simulated = simulated_miss pair c q w m; copies = tt; handed_out = handed (Events.Miss q w) l }
  holds_linux (Events.Pin q w) l m = record { coherent = coherent_pin pair c q w m; simulated = simulated_pin pair c q w m; copies = tt; handed_out = handed (Events.Pin q w) l }
  holds_linux (Events.Copy q w) l m = record { coherent = coherent_copy pair c q w m; simulated = simulated_copy pair c q w m; copies = copy_reaches pair c q w m; handed_out = handed (Events.Copy q w) l }
  holds_linux (Events.Unpin q w) l m = record { coherent = coherent_unpin pair c q w m; simulated = simulated_unpin pair c q w m; copies = tt; handed_out = handed (Events.Unpin q w) l }
  holds_linux (Events.Act q w) l m = record { coherent = coherent_act pair c q w m; simulated = simulated_act pair c q w m; copies = tt; handed_out = handed (Events.Act q w) l }
  holds_linux (Events.Park q w) l m = record { coherent = coherent_park pair c q w m; simulated = simulated_park pair c q w m; copies = tt; handed_out = handed (Events.Park q w) l }
  holds_linux (Events.Unpark q n) l m = record { coherent = coherent_unpark pair c q n m; simulated = simulated_unpark pair c q n m; copies = tt; handed_out = handed (Events.Unpark q n) l }
  holds_linux (Events.Finish q w) l m = record { coherent = coherent_finish pair c q w m; simulated = simulated_finish pair c q w m; copies = tt; handed_out = handed (Events.Finish q w) l }
  holds_linux (Events.AckClear q) l m = record { coherent = coherent_ack_clear pair c q m; simulated = simulated_ack_clear pair c q m; copies = tt; handed_out = handed (Events.AckClear q) l }
