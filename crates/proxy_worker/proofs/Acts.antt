-- The steps of the call that a worker serves.
use Rattle.file_model.specs.Files.{Files}
use Rattle.file_model.specs.declared.operations.Readiness.{Readiness}
use Rattle.file_model.specs.declared.operations.Readiness.TheVariants.{Ready, NotReady, FileStep}
use Rattle.hybrid_model.specs.Act.{acted, may_act}
use Rattle.hybrid_model.specs.Workers.{is_free_to_act, kind_for, stepped, stepped_service}
use Rattle.hybrid_model.specs.Sides.{Book, Service, serves, served, service_of, state_in, state_of, stated, with_service, with_state}
use Rattle.ikc_ring.specs.declared.CallRequest.{CallRequest}
use Rattle.kernel_model.specs.Progress.{After, is_file_step, next_kind, take_file_step}
use Rattle.mck_word.specs.Maps.{at, put}
use Rattle.proxy_worker.proofs.Parts.{put-same, service-changed, service-there, with-services}
use Rattle.proxy_worker.specs.Shown.{linux_of, services_of, shown_service}
use Rattle.proxy_worker.specs.declared.proxy.Proxy.{Proxy}
use Rattle.proxy_worker.specs.declared.services.Service.{Service as ServiceOf}
use Rattle.request_book.specs.declared.ReqState.{ReqState}
use Rattle.request_book.specs.declared.ReqState.TheVariants.{Held, Replied}
use Rattle.std.proofs.Common.{ap, arith, refl, sym, ◌∙◌}
use Rattle.std.specs.Prelude.{Bool, None, Option, Some, false, is_some, true, ℕ, ℤ, ◌&&◌, ◌≡◌}

pub both : (a b : Bool) → (a && b) ≡ true → (a ≡ true) × (b ≡ true)
both true b e = (refl, e)
both false b e = absurd (grind (arith, e))

pub no-answer : (o : Option ℤ) → is_some o ≡ false → o ≡ None
no-answer None e = refl
no-answer (Some v) e = absurd (grind (arith, e))

file-step-is : (r : Readiness) → is_file_step r ≡ true → r ≡ FileStep
file-step-is Ready e = absurd (grind (arith, e))
file-step-is NotReady e = absurd (grind (arith, e))
file-step-is FileStep e = refl

not-held : Replied ≡ Held → ⊥
not-held e = grind (arith, e)

-- a state that a request has already
pub state-same : (b : Book) (q : ℕ) (s : ReqState) (r : ReqState × CallRequest) → at b.rows q ≡ Some r → r.0 ≡ s → with_state b q s ≡ b
state-same b q s r e h =
    let rows : stated s (at b.rows q) q b.rows ≡ b.rows = ap (λ o. stated s o q b.rows) e ∙ (λ i. put b.rows q (sym h i, r.1)) ∙ put-same b.rows q r e in
    λ i. record b { rows = rows i }

pub held-same : (b : Book) (q : ℕ) → state_of b q ≡ Held → with_state b q Held ≡ b
held-same b q h = go (at b.rows q) refl
  where
    go : (o : Option (ReqState × CallRequest)) → at b.rows q ≡ o → with_state b q Held ≡ b
    go None e = absurd (not-held (sym (ap (λ o. state_in o) e) ∙ h))
    go (Some r) e = state-same b q Held r e (sym (ap (λ o. state_in o) e) ∙ h)

module _ (p : Proxy) (w q : ℕ) (k : ServiceOf) (named : q ≡ serves (linux_of p) w) (there : at p.services.map q ≡ Some k) where
  -- the service of the worker's request
  pub served-there : served (linux_of p) w ≡ shown_service k
  served-there = ap (λ j. service_of (services_of p.services.map) j) (sym named) ∙ service-there p.services.map q k there

  pub act-kind : (b : Book) (files : Files) → may_act (linux_of p) b files w ≡ true → next_kind files k.progress.progress ≡ FileStep
  act-kind b files may = ap (λ (s : Service). next_kind files s.progress) (sym served-there) ∙ file-step-is _ (both (is_free_to_act (linux_of p) b w) (is_file_step (kind_for (linux_of p) files w)) may).1

  pub act-after : (files : Files) (pid : ℕ) → take_file_step k.progress.progress files pid ≡ acted pid (linux_of p) files w
  unfolding acted
  act-after files pid = ap (λ (s : Service). take_file_step s.progress files pid) (sym served-there)

  -- the service after a step
  pub step-linux : (n : ServiceOf) (spare : ℕ) (f : Service → After) → shown_service n ≡ stepped_service (shown_service k) (f (shown_service k))
      → linux_of (record p { services = record { map = put p.services.map q n; spare = spare } }) ≡ stepped (linux_of p) w (f (served (linux_of p) w))
  step-linux n spare f e =
      with-services p (record { map = put p.services.map q n; spare = spare }) _ (service-changed (λ (s : Service). stepped_service s (f s)) p.services.map q k n there e)
      ∙ ap (λ j. let s = service_of (services_of p.services.map) j in with_service (linux_of p) j (stepped_service s (f s))) named

  pub act-linux : (n : ServiceOf) (spare : ℕ) (files : Files) (pid : ℕ) → shown_service n ≡ stepped_service (shown_service k) (take_file_step k.progress.progress files pid)
      → linux_of (record p { services = record { map = put p.services.map q n; spare = spare } }) ≡ stepped (linux_of p) w (acted pid (linux_of p) files w)
  unfolding acted
  act-linux n spare files pid e = step-linux n spare (λ s. take_file_step s.progress files pid) e
