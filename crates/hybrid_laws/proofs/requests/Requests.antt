-- What stays where one request changes.
use Rattle.hybrid_laws.proofs.maps.Reading.{Each-map, Each-push, EachRing-map, EachRing-post, EachRing-take}
use Rattle.hybrid_model.specs.Coherence.{AnswerIsFor, Answered, FaultIsFor, IsForNext, NotedIsFor, PinServes, ReplyIsAwaited, calls_it, is_live, state_at, tid_in, service_at, RequestIs, is_posted, Directions, InterruptIs, goes_to_linux, is_faulted, place_in}
use Rattle.hybrid_model.specs.Rings.{post, ring, with_ring}
use Rattle.hybrid_model.specs.Sides.{Noted, Service, Caller, state_in}
use Rattle.hybrid_model.specs.Tallies.{Reads, with_at, Each, EachRing}
use Rattle.ikc_ring.specs.declared.CallRequest.{CallRequest}
use Rattle.ikc_ring.specs.declared.Msg.TheVariants.{Request, Clear, Answer, Interrupt, Reply, Ack, Fault}
use Rattle.ikc_ring.specs.declared.Msg.{Msg}
use Rattle.isa_model.specs.Memory.{allows}
use Rattle.kernel_model.specs.Nodes.{Thread}
use Rattle.kernel_model.specs.Progress.{has_piece, needed_access, next_piece}
use Rattle.mck_word.specs.declared.Access.{Access}
use Rattle.page_pins.specs.declared.Pin.{Pin}
use Rattle.request_book.specs.declared.ReqState.{ReqState}
use Rattle.std.proofs.Common.{ap, refl, sym, ◌∙◌, arith}
use Rattle.std.proofs.lemmas.Bool.Decides.{nat_tests}
use Rattle.std.specs.Prelude.{Bool, List, None, Some, false, if◌then◌else◌, true, ℕ, ◌==◌, ◌≡◌, Option, [], ◌++◌, ◌∷◌}

pub IsForNext-keeps : (workers workers' : Reads ℕ) (services services' : Reads Service) (w i : ℕ) (a : Access) (k : IsForNext workers services w i a) → workers' w ≡ Some k.number → (service_at services' k.number).progress ≡ (service_at services k.number).progress → IsForNext workers' services' w i a
IsForNext-keeps workers workers' services services' w i a k e f =
    record { number = k.number; serves = e; left = ap has_piece f ∙ k.left; page_is = ap (λ x. (next_piece x).page) f ∙ k.page_is; access_is = ap needed_access f ∙ k.access_is }

pub PinServes-keeps : (workers workers' : Reads ℕ) (rows rows' : Reads (ReqState × CallRequest)) (services services' : Reads Service) (w : ℕ) (x : Pin) (k : PinServes workers rows services w x) → workers' w ≡ Some k.number
    → is_faulted (state_at rows' k.number) ≡ 0 → (x.copied ≡ false → (state_at rows' k.number ≡ state_at rows k.number) × ((service_at services' k.number).progress ≡ (service_at services k.number).progress)) → PinServes workers' rows' services' w x
PinServes-keeps workers workers' rows rows' services services' w x k e n f =
    record {
      number = k.number;
      serves = e;
      not_faulted = n;
      held = λ u. (f u).0 ∙ k.held u;
      left = λ u. ap has_piece (f u).1 ∙ k.left u;
      page_is = λ u. ap (λ y. (next_piece y).page) (f u).1 ∙ k.page_is u;
      right = λ u. ap (λ y. allows (needed_access y) x.rights) (f u).1 ∙ k.right u;
    }

-- what is for the next piece of each worker stays
module _ (workers workers' : Reads ℕ) (services services' : Reads Service) (same : (v i : ℕ) (a : Access) → IsForNext workers services v i a → IsForNext workers' services' v i a) where
  pub fault-keeps : (m : Msg) → FaultIsFor workers services m → FaultIsFor workers' services' m
  fault-keeps (Fault v i a) h = same v i a h
  fault-keeps (Request c) h = tt
  fault-keeps (Clear r) h = tt
  fault-keeps (Answer v i n row) h = tt
  fault-keeps (Interrupt q place) h = tt
  fault-keeps (Reply q code) h = tt
  fault-keeps Ack h = tt

  pub answer-keeps : (m : Msg) → AnswerIsFor workers services m → AnswerIsFor workers' services' m
  answer-keeps (Answer v i n row) h = record { access = h.access; next = same v i h.access h.next; right = h.right }
  answer-keeps (Fault v i a) h = tt
  answer-keeps (Request c) h = tt
  answer-keeps (Clear r) h = tt
  answer-keeps (Interrupt q place) h = tt
  answer-keeps (Reply q code) h = tt
  answer-keeps Ack h = tt

  pub faults-keep : (bs : List Msg) → Each (FaultIsFor workers services) bs → Each (FaultIsFor workers' services') bs
  faults-keep bs h = Each-map (FaultIsFor workers services) (FaultIsFor workers' services') bs fault-keeps h

  pub answers-keep : (rs : List (List Msg)) → EachRing (AnswerIsFor workers services) rs → EachRing (AnswerIsFor workers' services') rs
  answers-keep rs h = EachRing-map (AnswerIsFor workers services) (AnswerIsFor workers' services') rs answer-keeps h

  pub noted-keep : (noted : Reads Noted) → NotedIsFor workers services noted → NotedIsFor workers' services' noted
  noted-keep noted h = λ v n e. same v n.0 n.1 (h v n e)

-- ---- a request of the book gets another state, and its call stays
module _ (rows : Reads (ReqState × CallRequest)) (q : ℕ) (was now : ReqState) (call : CallRequest) (is : rows q ≡ Some (was, call)) (live : is_live was ≡ true) (still : is_live now ≡ true) where
  abbrev rows' : Reads (ReqState × CallRequest)
  rows' = with_at rows q (Some (now, call))

  awaited-state : (callers : Reads Caller) (m : Msg) → ReplyIsAwaited rows callers m → ReplyIsAwaited rows' callers m
  awaited-state callers (Reply n code) h = record { gone = grind (arith, nat_tests, h.gone, is); thread = h.thread; caller = h.caller; calls = h.calls; number = h.number }
  awaited-state callers (Request c) h = tt
  awaited-state callers (Clear r) h = tt
  awaited-state callers (Answer v i n row) h = tt
  awaited-state callers (Interrupt n place) h = tt
  awaited-state callers (Fault v i a) h = tt
  awaited-state callers Ack h = tt

  pub tid-state : (p : ℕ) → tid_in (rows' p) ≡ tid_in (rows p)
  tid-state p = go (p == q) refl
    where
      go : (b : Bool) → (p == q) ≡ b → tid_in (if b then Some (now, call) else rows p) ≡ tid_in (rows p)
      go true h = let g : p ≡ q = grind (arith, nat_tests, h) in rw (g, is) refl
      go false h = refl

  pub live-state : (p : ℕ) → is_live (state_at rows' p) ≡ is_live (state_at rows p)
  live-state p = go (p == q) refl
    where
      go : (b : Bool) → (p == q) ≡ b → is_live (state_in (if b then Some (now, call) else rows p)) ≡ is_live (state_at rows p)
      go true h = let g : p ≡ q = grind (arith, nat_tests, h) in rw (g, is) (still ∙ sym live)
      go false h = refl

  pub none-state : (p : ℕ) → rows' p ≡ None → rows p ≡ None
  none-state p e = grind (arith, nat_tests, e, is)

  pub none-stays : (p : ℕ) → rows p ≡ None → rows' p ≡ None
  none-stays p e = grind (arith, nat_tests, e, is)

  pub Answered-state : (callers : Reads Caller) (next : ℕ) (bs : List Msg) → Answered rows callers next bs → Answered rows' callers next bs
  Answered-state callers next bs c = record {
    awaited = Each-map (ReplyIsAwaited rows callers) (ReplyIsAwaited rows' callers) bs (awaited-state callers) c.awaited;
    calls = λ t x e. let k = c.calls t x e in record { given = k.given; named = λ u. tid-state x.request ∙ k.named (sym (live-state x.request) ∙ u); replied = λ u. k.replied (none-state x.request u) };
    alone = c.alone;
    live = λ p u. ap (λ t. calls_it p (callers t)) (tid-state p) ∙ c.live p (sym (live-state p) ∙ u);
    replies = c.replies;
    fresh = λ p u. none-stays p (c.fresh p u);
    not_replied = λ p r e. grind (arith, nat_tests, still, e, c.not_replied p r);
  }

-- ---- the Requests in the rings, where a request that isn't Posted gets another state
module _ (rows : Reads (ReqState × CallRequest)) (q : ℕ) (was : ReqState) (call : CallRequest) (is : rows q ≡ Some (was, call)) (not_posted : is_posted was ≡ 0) (new : Option (ReqState × CallRequest)) where
  asked-one : (m : Msg) → RequestIs rows m → RequestIs (with_at rows q new) m
  asked-one (Request c) h = grind (arith, nat_tests, is, h, not_posted)
  asked-one (Clear r) h = tt
  asked-one (Answer v i n row) h = tt
  asked-one (Interrupt n place) h = tt
  asked-one (Reply n code) h = tt
  asked-one (Fault v i a) h = tt
  asked-one Ack h = tt

  pub asked-state : (rings : List (List Msg)) → EachRing (RequestIs rows) rings → EachRing (RequestIs (with_at rows q new)) rings
  asked-state rings h = EachRing-map (RequestIs rows) (RequestIs (with_at rows q new)) rings asked-one h

-- ---- the Interrupts in the rings, where the thread of each live request stays
module _ (rows rows' : Reads (ReqState × CallRequest)) (threads : Reads Thread) (next : ℕ) (live-same : (p : ℕ) → is_live (state_at rows' p) ≡ true → is_live (state_at rows p) ≡ true) (tid-same : (p : ℕ) → is_live (state_at rows' p) ≡ true → tid_in (rows' p) ≡ tid_in (rows p)) where
  interrupt-one : (m : Msg) → InterruptIs next rows threads m → InterruptIs next rows' threads m
  interrupt-one (Interrupt n place) h = (h.0, h.1, λ u. ap (λ t. place_in place (threads t)) (tid-same n.0 u) ∙ h.2 (live-same n.0 u))
  interrupt-one (Request c) h = tt
  interrupt-one (Clear r) h = tt
  interrupt-one (Answer v i n row) h = tt
  interrupt-one (Reply n code) h = tt
  interrupt-one (Fault v i a) h = tt
  interrupt-one Ack h = tt

  pub interrupts-state : (rings : List (List Msg)) → EachRing (InterruptIs next rows threads) rings → EachRing (InterruptIs next rows' threads) rings
  interrupts-state rings h = EachRing-map (InterruptIs next rows threads) (InterruptIs next rows' threads) rings interrupt-one h

-- ---- directions
pub directions-take : (r : ℕ) (m : Msg) (ms : List Msg) (rings : List (List Msg)) (bs : List Msg) → ring r rings ≡ m ∷ ms → Directions rings bs → Directions (with_ring r ms rings) bs
directions-take r m ms rings bs first h = record { to_linux = EachRing-take (λ x. goes_to_linux x ≡ true) r m ms rings first h.to_linux; to_lwk = h.to_lwk }

pub directions-post : (r : ℕ) (m : Msg) (rings : List (List Msg)) (bs : List Msg) → goes_to_linux m ≡ true → Directions rings bs → Directions (post r m rings) bs
directions-post r m rings bs e h = record { to_linux = EachRing-post (λ x. goes_to_linux x ≡ true) r m rings h.to_linux e; to_lwk = h.to_lwk }

pub directions-back : (m : Msg) (rings : List (List Msg)) (bs : List Msg) → goes_to_linux m ≡ false → Directions rings bs → Directions rings (bs ++ m ∷ [])
directions-back m rings bs e h = record { to_linux = h.to_linux; to_lwk = Each-push (λ x. goes_to_linux x ≡ false) bs m h.to_lwk e }
