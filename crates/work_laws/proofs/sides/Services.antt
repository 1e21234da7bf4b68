-- The service of a request after another is put or cut, the worker that holds a request, and the book with another state of a request.
use Rattle.hybrid_laws.proofs.requests.Serving.{Serves}
use Rattle.hybrid_model.specs.Coherence.{holder, holder_at, service_at}
use Rattle.hybrid_model.specs.Sides.{Book, LinuxSide, Service, no_service, serves, service_of, state_in, stated, with_state}
use Rattle.hybrid_model.specs.Tallies.{Reads}
use Rattle.ikc_ring.specs.declared.CallRequest.{CallRequest}
use Rattle.mck_word.specs.MapLaws.{at-cut, at-put}
use Rattle.mck_word.specs.Maps.{Map, at, count, cut, entries, put}
use Rattle.request_book.specs.declared.ReqState.TheVariants.{Held}
use Rattle.request_book.specs.declared.ReqState.{ReqState}
use Rattle.std.proofs.Common.{ap, arith, refl, sym, ◌∙◌}
use Rattle.std.proofs.lemmas.Bool.Decides.{nat_tests}
use Rattle.std.specs.Prelude.{None, Option, Some, cond, false, is_some, sum_by, true, unwrap_or, ℕ, ◌+◌, ◌==◌, ◌≡◌}
use Rattle.work_laws.proofs.sides.Rows.{count-stays, row-put}

pub service-own : (m : Map Service) (k : ℕ) (v : Service) → service_of (put m k v) k ≡ v
service-own m k v = ap (λ (o : Option Service). unwrap_or o no_service) (at-put m k v k ∙ (let e : (k == k) ≡ true = grind (arith, nat_tests) in ap (λ b. cond b (Some v) (at m k)) e))

pub service-other : (m : Map Service) (k : ℕ) (v : Service) (j : ℕ) → (j == k) ≡ false → service_of (put m k v) j ≡ service_of m j
service-other m k v j e = ap (λ (o : Option Service). unwrap_or o no_service) (at-put m k v j ∙ ap (λ b. cond b (Some v) (at m j)) e)

pub service-left : (m : Map Service) (k j : ℕ) → (j == k) ≡ false → service_of (cut m k) j ≡ service_of m j
service-left m k j e = ap (λ (o : Option Service). unwrap_or o no_service) (at-cut m k j ∙ ap (λ b. cond b None (at m j)) e)

-- a request that is Held and its worker
pub worker-is : (rows : Reads (ReqState × CallRequest)) (services : Reads Service) (q w : ℕ) (call : CallRequest) → rows q ≡ Some (Held, call) → holder_at rows services q ≡ Some w → (service_at services q).worker ≡ w
worker-is rows services q w call is h =
    let a = ap (λ o. holder (state_in o) (service_at services q).worker) is in
    ap (λ (o : Option ℕ). unwrap_or o 0) (sym a ∙ h)

module _ (l : LinuxSide) (b : Book) (w : ℕ) (s : ReqState) (x : Serves l b w s) where
  pub number-is : x.number ≡ serves l w
  number-is = sym (ap (λ (o : Option ℕ). unwrap_or o 0) x.serving)

  pub row-is : at b.rows (serves l w) ≡ Some (s, x.call)
  row-is = ap (at b.rows) (sym number-is) ∙ x.is

-- a request in another state, while each other counts as before
pub stated-row : (f g : ℕ × (ReqState × CallRequest) → ℕ) (b : Book) (q : ℕ) (s s' : ReqState) (call : CallRequest) → at b.rows q ≡ Some (s, call) → ((j : ℕ) (u : ReqState × CallRequest) → (j == q) ≡ false → at b.rows j ≡ Some u → g (j, u) ≡ f (j, u))
    → sum_by g (entries (with_state b q s').rows) + f (q, (s, call)) ≡ sum_by f (entries b.rows) + g (q, (s', call))
stated-row f g b q s s' call is others =
    let a = row-put f g b.rows q (s, call) is others (s', call) in
    let c = ap (λ o. sum_by g (entries (stated s' o q b.rows))) is in
    omega (arith, a, c)

-- a request in another state: there are as many
pub count-stated : (s : ReqState) (q : ℕ) (rows : Map (ReqState × CallRequest)) → count (stated s (at rows q) q rows) ≡ count rows
count-stated s q rows = go (at rows q) refl
  where
    go : (o : Option (ReqState × CallRequest)) → at rows q ≡ o → count (stated s o q rows) ≡ count rows
    go None e = refl
    go (Some r) e = count-stays rows q (s, r.1) (ap is_some e)
