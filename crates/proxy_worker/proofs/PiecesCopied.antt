-- The piece that a worker copies.
use Rattle.file_model.specs.Files.{Files}
use Rattle.file_model.specs.declared.operations.Readiness.{Readiness}
use Rattle.file_model.specs.declared.operations.Readiness.TheVariants.{Ready, NotReady, FileStep}
use Rattle.hybrid_model.specs.Copy.{copied, is_uncopied, may_copy, moved_by}
use Rattle.hybrid_model.specs.Workers.{holds, kind_for}
use Rattle.hybrid_model.specs.Sides.{Book, Service, no_service, serves, served, service_of}
use Rattle.kernel_model.specs.Progress.{is_ready, move_piece, next_kind, next_piece}
use Rattle.mck_word.specs.Maps.{Map, at, put}
use Rattle.page_pins.specs.Pins.{with_copied}
use Rattle.page_pins.specs.declared.Pin.{Pin}
use Rattle.proxy_worker.proofs.Acts.{both, served-there, step-linux}
use Rattle.proxy_worker.proofs.Parts.{service-absent}
use Rattle.hybrid_model.specs.Workers.{stepped_service}
use Rattle.proxy_worker.specs.Shown.{linux_of, services_of, shown_service}
use Rattle.proxy_worker.specs.declared.proxy.Proxy.{Proxy}
use Rattle.proxy_worker.specs.declared.services.Service.{Service as ServiceOf}
use Rattle.std.proofs.Common.{ap, arith, refl, subst, sym, ◌∙◌}
use Rattle.std.specs.Prelude.{IsSome, List, None, Option, Some, true, ℕ, ◌&&◌, ◌<◌, ◌^◌, ◌≡◌}

ready-is : (r : Readiness) → is_ready r ≡ true → r ≡ Ready
ready-is Ready e = refl
ready-is NotReady e = absurd (grind (arith, e))
ready-is FileStep e = absurd (grind (arith, e))

module _ (p : Proxy) (b : Book) (files : Files) (w : ℕ) (may : may_copy (linux_of p) b files w ≡ true) where
  ready-kind : next_kind files (served (linux_of p) w).progress ≡ Ready
  ready-kind = ready-is _ (both (is_uncopied (at p.pins w) && holds (linux_of p) b w) (is_ready (kind_for (linux_of p) files w)) may).1

  -- a request whose step is ready has a service
  pub copy-there : (q : ℕ) → q ≡ serves (linux_of p) w → IsSome (at p.services.map q)
  copy-there q named = go (at p.services.map q) refl
    where
      go : (o : Option ServiceOf) → at p.services.map q ≡ o → IsSome o
      go None e =
          let absent : served (linux_of p) w ≡ no_service = ap (λ j. service_of (services_of p.services.map) j) (sym named) ∙ service-absent p.services.map q e in
          let kind : FileStep ≡ Ready = sym (ap (λ (s : Service). next_kind files s.progress) absent) ∙ ready-kind in
          absurd (grind (arith, kind))
      go (Some k) e = refl

  pub copy-kind : (q : ℕ) (k : ServiceOf) → q ≡ serves (linux_of p) w → at p.services.map q ≡ Some k → next_kind files k.progress.progress ≡ Ready
  copy-kind q k named there = ap (λ (s : Service). next_kind files s.progress) (sym (served-there p w q k named there)) ∙ ready-kind

module _ (p : Proxy) (w q : ℕ) (k : ServiceOf) (named : q ≡ serves (linux_of p) w) (there : at p.services.map q ≡ Some k) where
  pub copy-low : (next_piece (served (linux_of p) w).progress).page < 2 ^ 51 → (next_piece k.progress.progress).page < 2 ^ 51
  copy-low h = subst (λ (s : Service). (next_piece s.progress).page < 2 ^ 51) (served-there p w q k named there) h

  pub copy-moved : (files : Files) (pid : ℕ) (bytes : List ℕ) → move_piece k.progress.progress files pid bytes ≡ moved_by pid (linux_of p) files w bytes
  unfolding moved_by
  copy-moved files pid bytes = ap (λ (s : Service). move_piece s.progress files pid bytes) (sym (served-there p w q k named there))

  pub copy-linux : (n : ServiceOf) (spare : ℕ) (pins : Map Pin) (files : Files) (pid : ℕ) (bytes : List ℕ)
      → shown_service n ≡ stepped_service (shown_service k) (move_piece k.progress.progress files pid bytes).after → pins ≡ with_copied p.pins w
      → linux_of (record p { services = record { map = put p.services.map q n; spare = spare }; pins = pins }) ≡ copied (linux_of p) w (moved_by pid (linux_of p) files w bytes).after
  unfolding copied moved_by
  copy-linux n spare pins files pid bytes e marked =
      let step = step-linux p w q k named there n spare (λ s. (move_piece s.progress files pid bytes).after) e in
      λ i. record (step i) { pins = marked i }
