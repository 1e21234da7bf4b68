-- What holds of a process that begins: its side has a table, and nothing else.
use Rattle.hybrid_laws.proofs.reap.Reap.{each-empty, numbered-empty}
use Rattle.hybrid_model.specs.Coherence.{AnswerCovered, AnswerIsFor, ClearIsOf, InterruptIs, IsOutside, NotAhead, OfProcess, OnlyOwn, Placed, RequestIs, answers_to, asks, clears, faulting, faults_of, goes_to_linux, holder, is_fetched, is_live, is_posted, is_waiting, service_at}
use Rattle.hybrid_model.specs.Rings.{all_empty}
use Rattle.hybrid_model.specs.Sides.{Caller, Noted, Row, Service, new_side, no_lwk, state_in}
use Rattle.hybrid_model.specs.Tallies.{counted as counted_noted, sum_rings, tally}
use Rattle.ikc_ring.specs.declared.CallRequest.{CallRequest}
use Rattle.ikc_ring.specs.declared.Msg.{Msg}
use Rattle.kernel_model.specs.Nodes.{Node, Thread, is_called}
use Rattle.mck_word.specs.MapLaws.{at-none}
use Rattle.mck_word.specs.Maps.{Map, at, no_rows}
use Rattle.request_book.specs.declared.ReqState.{ReqState}
use Rattle.std.proofs.Common.{ap, arith, refl, sym, ◌∙◌}
use Rattle.std.proofs.lemmas.Bool.Decides.{nat_tests}
use Rattle.std.specs.Prelude.{List, None, Option, Some, [], false, is_some, replicate, suc, true, zero, ℕ, ◌+◌, ◌∷◌, ◌≡◌}

pub sum-empty : (f : Msg → ℕ) (rs : List (List Msg)) → all_empty rs ≡ true → sum_rings f rs ≡ 0
sum-empty f [] e = refl
sum-empty f ([] ∷ rs) e = let a = sum-empty f rs e in omega (arith, a)
sum-empty f ((m ∷ ms) ∷ rs) e = absurd (grind (arith, nat_tests, e))

pub new-empty : (n : ℕ) → all_empty (replicate n []) ≡ true
new-empty zero = refl
new-empty (suc n) = new-empty n

pub no-at : {V : Type 0} (k : ℕ) (v : V) → at no_rows k ≡ Some v → ⊥
no-at k v e = let n = sym (at-none k) ∙ e in grind (arith, n)

pub new_side-keeps : (p rings : ℕ) (table : Map Row) (node : Node) (workers : ℕ) (ring : ℕ → ℕ) → ((u : ℕ) (x : Thread) → at node.threads u ≡ Some x → x.process ≡ p → is_called x.does ≡ false)
    → OfProcess p (record (new_side rings) { lwk = record no_lwk { table = table } }) node workers ring
new_side-keeps p rings table node workers ring none =
    let e = new-empty rings in
    record {
      covered = record { mirror_rows = λ i r f. absurd (no-at i r f); answers = each-empty (AnswerCovered (at table) 0) rs e; not_ahead = each-empty (NotAhead 0) rs e; pin_rows = λ w x f. absurd (no-at w x f) };
      rounded = record { clears_are = sum-empty clears rs e; acks_are = refl; clear_of = each-empty (ClearIsOf None) rs e; fetched = refl; outside = each-empty (IsOutside None 0) rs e; mirror_outside = λ i f. at-none i; pins_outside = λ w x f. refl };
      owned = tt;
      served = record {
        worker_below = λ w q f. absurd (no-at w q f);
        requests = λ q. sum-empty (asks q) rs e ∙ sym (ap (λ (o : Option (ReqState × CallRequest)). is_posted (state_in o)) (at-none q));
        waits = λ q. sym (ap (λ (o : Option (ReqState × CallRequest)). is_waiting (state_in o)) (at-none q));
        known = λ q. ap (λ (o : Option (ReqState × CallRequest)). is_fetched (state_in o)) (at-none q) ∙ sym (ap (λ (o : Option Service). is_some o) (at-none q));
        workers_hold = λ w q f. absurd (no-at w q f);
        held_by = λ q w f. absurd (let k = sym (ap (λ (o : Option (ReqState × CallRequest)). holder (state_in o) (service_at (at no_rows) q).worker) (at-none q)) ∙ f in grind (arith, k));
        faults = λ w. counts w;
        fault_for = tt;
        noted_for = λ w n f. absurd (no-at w n f);
        answer_for = each-empty (AnswerIsFor (at no_rows) (at no_rows)) rs e;
        pins_serve = λ w x f. absurd (no-at w x f);
      };
      answered = record {
        awaited = tt;
        calls = λ t c f. absurd (no-at t c f);
        alone = λ t u c d f g s. absurd (no-at t c f);
        live = λ q l. absurd (let k = sym (ap (λ (o : Option (ReqState × CallRequest)). is_live (state_in o)) (at-none q)) ∙ l in grind (arith, k));
        replies = λ q. omega arith;
        fresh = λ q l. at-none q;
        not_replied = λ q r f. absurd (no-at q r f);
      };
      calls = record { called = λ u x f own. none u x f own ∙ sym (ap (λ (o : Option Caller). is_some o) (at-none u)); there = λ u c f. absurd (no-at u c f) };
      asked = each-empty (RequestIs (at no_rows)) rs e;
      interrupts = each-empty (InterruptIs 1 (at no_rows) (at node.threads)) rs e;
      directions = record { to_linux = each-empty (λ m. goes_to_linux m ≡ true) rs e; to_lwk = tt };
      messages = record {
        placed = numbered-empty (Placed (at no_rows) (at node.threads) ring) (λ r. record { parts = λ j. tt; own = tt }) 0 rs e;
        only = numbered-empty (OnlyOwn (at no_rows) (at node.threads) ring (at no_rows)) (λ r t x c a b d f. tt) 0 rs e;
      };
      marked = record { fetched = λ t c f g. absurd (no-at t c f); posted = λ t c f. absurd (no-at t c f) };
    }
  where
    rs : List (List Msg)
    rs = replicate rings []

    counts : (w : ℕ) → tally (faults_of w) [] + counted_noted (at (no_rows {V = Noted}) w) + sum_rings (answers_to w) rs ≡ faulting (at no_rows) (at (no_rows {V = ℕ}) w)
    counts w =
        let a = sum-empty (answers_to w) rs (new-empty rings) in
        let b = ap (λ (o : Option Noted). counted_noted o) (at-none w) in
        let c = ap (λ (o : Option ℕ). faulting (at no_rows) o) (at-none w) in
        omega (arith, a, b, c)
