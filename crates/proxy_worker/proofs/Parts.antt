-- The parts of a Linux side that a proxy shows.
use Rattle.hybrid_model.specs.Sides.{Service, no_service, service_of}
use Rattle.mck_word.specs.EachLaws.{at-each, each-put}
use Rattle.mck_word.specs.MapLaws.{at-cut, at-none, at-put, same_rows}
use Rattle.mck_word.specs.Maps.{Map, at, cut, no_rows, put}
use Rattle.mck_word.specs.Slots.{at-slots, by_place}
use Rattle.proxy_worker.specs.Shown.{linux_of, services_of, shown_service}
use Rattle.proxy_worker.specs.declared.proxy.Proxy.{Proxy}
use Rattle.key_rows.specs.Table.{Table}
use Rattle.proxy_worker.specs.declared.services.Service.{Service as ServiceOf}
use Rattle.std.proofs.Common.{Bor, ap, arith, refl, subst, sym, ◌∙◌}
use Rattle.std.proofs.lemmas.Bool.Decides.{nat_tests}
use Rattle.std.specs.Option.{option_copied}
use Rattle.std.specs.Prelude.{zero, suc, is_some, Bool, cond, false, true, ◌==◌, List, None, Option, Some, IsSome, MatchOption, option_map, replicate, slice_index_or, unwrap_or, ℕ, ◌≡◌}

module _ {V : Type 0} where
  abbrev pub empties : ℕ → List (Option V)
  empties n = replicate n None

  none-there : (n q : ℕ) → slice_index_or (empties n) q None ≡ None
  none-there zero q = refl
  none-there (suc n) zero = refl
  none-there (suc n) (suc q) = none-there n q

  -- empty slots are no rows
  pub empty-slots : (n : ℕ) → by_place (empties n) ≡ no_rows
  empty-slots n = same_rows _ _ (λ q. at-slots (empties n) q ∙ none-there n q ∙ sym (at-none q))

-- the service of a request that has one, and of one that has none
pub service-found : (m : Map ServiceOf) (q : ℕ) (o : Option ServiceOf) → o ≡ at m q → service_of (services_of m) q ≡ unwrap_or (option_map shown_service o) no_service
service-found m q o e = ap (λ x. unwrap_or x no_service) (at-each shown_service m q ∙ ap (option_map shown_service) (sym e))

pub service-there : (m : Map ServiceOf) (q : ℕ) (k : ServiceOf) → at m q ≡ Some k → service_of (services_of m) q ≡ shown_service k
service-there m q k e = service-found m q (Some k) (sym e)

pub service-absent : (m : Map ServiceOf) (q : ℕ) → at m q ≡ None → service_of (services_of m) q ≡ no_service
service-absent m q e = service-found m q None (sym e)

pub progress-of : (m : Map ServiceOf) (q : ℕ) (o : Option ServiceOf) → o ≡ at m q → option_map (λ (k : ServiceOf). k.progress.progress) o ≡ option_map (λ (s : Service). s.progress) (at (services_of m) q)
progress-of m q o e = go o ∙ sym (ap (option_map (λ (s : Service). s.progress)) (at-each shown_service m q ∙ ap (option_map shown_service) (sym e)))
  where
    go : (o : Option ServiceOf) → option_map (λ (k : ServiceOf). k.progress.progress) o ≡ option_map (λ (s : Service). s.progress) (option_map shown_service o)
    go None = refl
    go (Some k) = refl

pub service-shows : (m : Map ServiceOf) (q : ℕ) (o : Option ServiceOf) → o ≡ at m q → MatchOption o (service_of (services_of m) q ≡ no_service) (λ k. service_of (services_of m) q ≡ shown_service k)
service-shows m q None e = service-absent m q (sym e)
service-shows m q (Some k) e = service-there m q k (sym e)

-- a service that is changed in place
pub service-changed : (f : Service → Service) (m : Map ServiceOf) (q : ℕ) (k n : ServiceOf) → at m q ≡ Some k → shown_service n ≡ f (shown_service k) → services_of (put m q n) ≡ put (services_of m) q (f (service_of (services_of m) q))
service-changed f m q k n there e = each-put shown_service m q n ∙ ap (put (services_of m) q) (e ∙ ap f (sym (service-there m q k there)))

-- a service that the shown ones have is there
pub has-service : (m : Map ServiceOf) (q : ℕ) → IsSome (at (services_of m) q) → IsSome (at m q)
has-service m q h = go (at m q) (subst (λ (o : Option Service). IsSome o) (at-each shown_service m q) h)
  where
    go : (o : Option ServiceOf) → IsSome (option_map shown_service o) → IsSome o
    go None h = h
    go (Some k) h = refl

pub service-put : (m : Map ServiceOf) (q : ℕ) (k : ServiceOf) (s : Service) → shown_service k ≡ s → services_of (put m q k) ≡ put (services_of m) q s
service-put m q k s e = each-put shown_service m q k ∙ ap (put (services_of m) q) e

-- a proxy whose services alone change
pub with-services : (p : Proxy) (t : Table ServiceOf) (m : Map Service) → services_of t.map ≡ m → linux_of (record p { services = t }) ≡ record (linux_of p) { services = m }
with-services p t m e = λ i. record (linux_of p) { services = e i }

module _ {V : Type 0} where
  -- a key without a row, cut
  pub cut-absent : (m : Map V) (q : ℕ) → at m q ≡ None → cut m q ≡ m
  cut-absent m q e = same_rows _ _ (λ j. at-cut m q j ∙ go j (j == q) refl)
    where
      go : (j : ℕ) (b : Bool) → (j == q) ≡ b → cond b None (at m j) ≡ at m j
      go j true h = let g : j ≡ q = grind (arith, nat_tests, h) in sym (ap (at m) g ∙ e)
      go j false h = refl

  -- a row put in again
  pub put-same : (m : Map V) (q : ℕ) (v : V) → at m q ≡ Some v → put m q v ≡ m
  put-same m q v e = same_rows _ _ (λ j. at-put m q v j ∙ go j (j == q) refl)
    where
      go : (j : ℕ) (b : Bool) → (j == q) ≡ b → cond b (Some v) (at m j) ≡ at m j
      go j true h = let g : j ≡ q = grind (arith, nat_tests, h) in sym (ap (at m) g ∙ e)
      go j false h = refl

  -- what is not found is not there
  pub not-found : (r : Option (Bor V)) (o : Option V) → option_copied r ≡ o → is_some r ≡ false → o ≡ None
  not-found None o e h = sym e
  not-found (Some x) o e h = absurd (grind (arith, h))

pub shown-there : (m : Map ServiceOf) (q : ℕ) (r : Option (Bor ServiceOf)) → option_copied r ≡ at m q → is_some r ≡ is_some (at (services_of m) q)
shown-there m q r e = go r ∙ sym (ap is_some (at-each shown_service m q ∙ ap (option_map shown_service) (sym e)))
  where
    go : (r : Option (Bor ServiceOf)) → is_some r ≡ is_some (option_map shown_service (option_copied r))
    go None = refl
    go (Some x) = refl
