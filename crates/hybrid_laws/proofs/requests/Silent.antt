-- Where one request gets another state or leaves the book and shows the same, the process shows the same.
use Rattle.hybrid_laws.proofs.requests.Showing.{shown-same}
use Rattle.hybrid_model.specs.Coherence.{replies_to}
use Rattle.hybrid_model.specs.Pairs.{Here}
use Rattle.hybrid_model.specs.Shown.{has_empty, reply_code, serves_it, shown_born, shown_here, status_by, status_in, status_of, shown_own}
use Rattle.hybrid_model.specs.Sides.{Service, Side, Turn, call_in, no_service, state_in}
use Rattle.hybrid_model.specs.Tallies.{Reads, tally, with_at}
use Rattle.ikc_ring.specs.declared.CallRequest.{CallRequest}
use Rattle.ikc_ring.specs.declared.Msg.TheVariants.{Ack, Answer, Clear, Fault, Interrupt, Reply, Request}
use Rattle.ikc_ring.specs.declared.Msg.{Msg}
use Rattle.mck_word.specs.Maps.{Map}
use Rattle.request_book.specs.declared.ReqState.{ReqState}
use Rattle.std.proofs.Common.{ap, arith, refl, sym, ◌∙◌}
use Rattle.std.proofs.lemmas.Bool.Decides.{nat_tests}
use Rattle.std.specs.Prelude.{Bool, List, None, Option, Some, [], false, if◌then◌else◌, length, true, unwrap_or, ℕ, ℤ, ◌++◌, ◌==◌, ◌∷◌, ◌≡◌}

module _ (rows : Reads (ReqState × CallRequest)) (services services' : Reads Service) (workers workers' : Reads ℕ) (rings rings' : List (List Msg)) (bs bs' : List Msg) (q : ℕ) (new : Option (ReqState × CallRequest)) where
  pub status-one : status_in (state_in new) (call_in new) (unwrap_or (services' q) no_service) (has_empty workers' q rings') (reply_code q bs') ≡ status_by rows services workers rings bs q
      → ((x : ℕ) → (x == q) ≡ false → unwrap_or (services' x) no_service ≡ unwrap_or (services x) no_service)
      → ((x : ℕ) → (x == q) ≡ false → has_empty workers' x rings' ≡ has_empty workers x rings)
      → ((x : ℕ) → (x == q) ≡ false → reply_code x bs' ≡ reply_code x bs)
      → (x : ℕ) → status_by (with_at rows q new) services' workers' rings' bs' x ≡ status_by rows services workers rings bs x
  status-one own f g k x = go (x == q) refl
    where
      go : (b : Bool) → (x == q) ≡ b
          → status_in (state_in (if b then new else rows x)) (call_in (if b then new else rows x)) (unwrap_or (services' x) no_service) (has_empty workers' x rings') (reply_code x bs') ≡ status_by rows services workers rings bs x
      go true e = let y : x ≡ q = grind (arith, nat_tests, e) in rw y own
      go false e = λ i. status_in (state_in (rows x)) (call_in (rows x)) (f x e i) (g x e i) (k x e i)

-- a worker's map without one entry, or with another, as seen by the requests that it doesn't concern
pub serves-other : (workers : Reads ℕ) (w q x : ℕ) (o : Option ℕ) → workers w ≡ Some q → ((n : ℕ) → o ≡ Some n → n ≡ q) → (x == q) ≡ false → (v : ℕ) → serves_it x (with_at workers w o v) ≡ serves_it x (workers v)
serves-other workers w q x o s only n v = go (v == w) refl o only
  where
    none : (k : ℕ) → k ≡ q → (k == x) ≡ false
    none k e = grind (arith, nat_tests, e, n)

    go : (b : Bool) → (v == w) ≡ b → (o : Option ℕ) → ((k : ℕ) → o ≡ Some k → k ≡ q) → serves_it x (if b then o else workers v) ≡ serves_it x (workers v)
    go false e o f = refl
    go true e o f = let g : v ≡ w = grind (arith, nat_tests, e) in rw (g, s) (new o f ∙ sym (none q refl))
      where
        new : (o : Option ℕ) → ((k : ℕ) → o ≡ Some k → k ≡ q) → serves_it x o ≡ false
        new None f = refl
        new (Some k) f = none k (f k refl)

-- a message that is no Reply to x leaves the answer to x
pub code-other : (x : ℕ) (bs : List Msg) (m : Msg) → ((rest : List Msg) → reply_code x (m ∷ rest) ≡ reply_code x rest) → reply_code x (bs ++ m ∷ []) ≡ reply_code x bs
code-other x [] m n = n []
code-other x (Reply k code ∷ bs) m n = ap (λ c. if k.0 == x then code else c) (code-other x bs m n)
code-other x (Request c ∷ bs) m n = code-other x bs m n
code-other x (Clear r ∷ bs) m n = code-other x bs m n
code-other x (Answer w i k row ∷ bs) m n = code-other x bs m n
code-other x (Interrupt k place ∷ bs) m n = code-other x bs m n
code-other x (Ack ∷ bs) m n = code-other x bs m n
code-other x (Fault w i a ∷ bs) m n = code-other x bs m n

-- a Reply to x behind messages that have none
pub code-own : (x : ℕ) (code : ℤ) (bs : List Msg) → tally (replies_to x) bs ≡ 0 → reply_code x (bs ++ Reply (record { 0 = x }) code ∷ []) ≡ code
code-own x code [] e = let b : (x == x) ≡ true = grind (arith, nat_tests) in rw b refl
code-own x code (Reply k c ∷ bs) e = let b : (k.0 == x) ≡ false = grind (arith, nat_tests, e) in rw b (code-own x code bs (omega (arith, e)))
code-own x code (Request c ∷ bs) e = code-own x code bs (omega (arith, e))
code-own x code (Clear r ∷ bs) e = code-own x code bs (omega (arith, e))
code-own x code (Answer w i k row ∷ bs) e = code-own x code bs (omega (arith, e))
code-own x code (Interrupt k place ∷ bs) e = code-own x code bs (omega (arith, e))
code-own x code (Ack ∷ bs) e = code-own x code bs (omega (arith, e))
code-own x code (Fault w i a ∷ bs) e = code-own x code bs (omega (arith, e))

-- a state of one number in the book stands for a function that answers otherwise there
module _ (frames : Map (List ℕ)) (h : Here) (side' : Side) (turns : Map Turn) (tables : side'.lwk.table ≡ h.side.lwk.table) (calls : side'.lwk.callers ≡ h.side.lwk.callers) where
  pub shown-silent : ((x : ℕ) → status_of side' x ≡ status_of h.side x) → shown_here (record h { side = side'; turns = turns }) ≡ shown_here h
  shown-silent f =
      let k = shown-same h.frames h.side side' tables calls (λ t c e. f c.request) in
      λ i. record { own = k i; node = h.node; free = length h.free; born = shown_born h.frames h.born }

-- a side that shows the same in its process
pub shown-as : (h : Here) (side' : Side) → shown_own h.frames side' ≡ shown_own h.frames h.side → shown_here (record h { side = side' }) ≡ shown_here h
shown-as h side' e = λ i. record { own = e i; node = h.node; free = length h.free; born = shown_born h.frames h.born }
