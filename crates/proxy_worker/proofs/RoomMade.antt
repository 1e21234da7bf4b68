-- The room of a call, made in place.
use Rattle.call_progress.specs.Kept.{Kept}
use Rattle.mck_word.specs.EachLaws.{at-each, each-put}
use Rattle.mck_word.specs.MapLaws.{at-put}
use Rattle.mck_word.specs.Maps.{Map, at, put}
use Rattle.proxy_worker.proofs.Parts.{put-same, with-services}
use Rattle.proxy_worker.specs.Fits.{HasService}
use Rattle.proxy_worker.specs.Shown.{linux_of, services_of, shown_service}
use Rattle.proxy_worker.specs.declared.proxy.Proxy.{Proxy}
use Rattle.proxy_worker.specs.declared.services.Service.{Service as ServiceOf}
use Rattle.std.proofs.Common.{ap, arith, subst, sym, ◌∙◌}
use Rattle.std.proofs.lemmas.Bool.Decides.{nat_tests}
use Rattle.std.specs.Prelude.{Some, cond, is_some, option_map, true, ℕ, ◌==◌, ◌≡◌}

-- a service that shows the same
pub room-linux : (p : Proxy) (q : ℕ) (k n : ServiceOf) (spare : ℕ) → at p.services.map q ≡ Some k → shown_service n ≡ shown_service k
    → linux_of (record p { services = record { map = put p.services.map q n; spare = spare } }) ≡ linux_of p
room-linux p q k n spare there e =
    let m = p.services.map in
    with-services p (record { map = put m q n; spare = spare }) (services_of m)
    (each-put shown_service m q n ∙ ap (put (services_of m) q) e ∙ put-same (services_of m) q (shown_service k) (at-each shown_service m q ∙ ap (option_map shown_service) there))

-- the room of the service that was put in is that of the service found
pub room-kept : (P : Kept → Type 0) (m : Map ServiceOf) (q r : ℕ) (n k : ServiceOf) → q ≡ r → at (put m q n) r ≡ Some k → P n.progress → P k.progress
room-kept P m q r n k named found h =
    let test : (r == q) ≡ true = grind (arith, nat_tests, named) in
    let there : Some n ≡ Some k = sym (at-put m q n r ∙ ap (λ b. cond b (Some n) (at m r)) test) ∙ found in
    let same : n ≡ k = cc in
    subst (λ (s : ServiceOf). P s.progress) same h

-- a service that is there is shown
pub found-shown : (p : Proxy) (q r : ℕ) (k : ServiceOf) → q ≡ r → at p.services.map r ≡ Some k → HasService p q
found-shown p q r k named there = subst (λ (j : ℕ). HasService p j) (sym named) (ap is_some (at-each shown_service p.services.map r ∙ ap (option_map shown_service) there))
