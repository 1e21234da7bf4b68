-- When an event of the Linux side may happen: its process has a row, and it may happen there.
use Rattle.hybrid_model.specs.declared.events.Event.TheVariants as Events
use Rattle.file_model.specs.Files.{Files}
use Rattle.hybrid_laws.specs.EventKinds.{is_of_linux}
use Rattle.hybrid_model.specs.Events.{may, may_here, process_of_event}
use Rattle.hybrid_model.specs.Globals.{Coherent}
use Rattle.hybrid_model.specs.Pairs.{here}
use Rattle.hybrid_model.specs.Sides.{Row}
use Rattle.hybrid_model.specs.declared.events.Event.{Event}
use Rattle.kernel_model.specs.Nodes.{Node, is_there}
use Rattle.kernel_tables.specs.Shown.{node_of}
use Rattle.mck_word.specs.Maps.{Map, at}
use Rattle.pair_core.proofs.Found.{found, here-is}
use Rattle.pair_core.specs.LinuxRoom.{linux_process}
use Rattle.pair_core.specs.Shown.{here_in, pair_of}
use Rattle.pair_core.specs.declared.parts.Parts.{Parts}
use Rattle.pair_core.specs.declared.parts.Side.{Side}
use Rattle.std.proofs.Common.{ap, arith, refl, sym, ◌∙◌}
use Rattle.std.specs.Prelude.{Bool, None, Option, Some, false, is_some, true, ℕ, ◌&&◌, ◌≡◌}

same-number : (a b : ℕ) → Some a ≡ Some b → a ≡ b
same-number a b e = cc

pub no-some : {V : Type 0} (o : Option V) → ((v : V) → o ≡ Some v → ⊥) → o ≡ None
no-some None h = refl
no-some (Some v) h = absurd (h v refl)

pub is-linux : (e : Event) (p : ℕ) (node : Node) → linux_process e ≡ Some p → (is_of_linux e ≡ true) × (process_of_event node e ≡ p)
is-linux (Events.Fetch q r) p node e = (refl, same-number q.0 p e)
is-linux (Events.Assign q w) p node e = (refl, same-number q.0 p e)
is-linux (Events.Miss q w) p node e = (refl, same-number q.0 p e)
is-linux (Events.Pin q w) p node e = (refl, same-number q.0 p e)
is-linux (Events.Copy q w) p node e = (refl, same-number q.0 p e)
is-linux (Events.Unpin q w) p node e = (refl, same-number q.0 p e)
is-linux (Events.Act q w) p node e = (refl, same-number q.0 p e)
is-linux (Events.Park q w) p node e = (refl, same-number q.0 p e)
is-linux (Events.Unpark q n) p node e = (refl, same-number q.0 p e)
is-linux (Events.Finish q w) p node e = (refl, same-number q.0 p e)
is-linux (Events.AckClear q) p node e = (refl, same-number q.0 p e)
is-linux (Events.Run core t n) p node e = absurd (grind (arith, e))
is-linux (Events.Trap t) p node e = absurd (grind (arith, e))
is-linux (Events.Deliver t) p node e = absurd (grind (arith, e))
is-linux (Events.Intake q) p node e = absurd (grind (arith, e))
is-linux (Events.Answer q w) p node e = absurd (grind (arith, e))
is-linux (Events.BeginVm t) p node e = absurd (grind (arith, e))
is-linux (Events.Interrupt t) p node e = absurd (grind (arith, e))
is-linux (Events.Wait t) p node e = absurd (grind (arith, e))
is-linux (Events.Reap q) p node e = absurd (grind (arith, e))
is-linux (Events.Script i) p node e = absurd (grind (arith, e))

pub none-linux : (e : Event) → linux_process e ≡ None → is_of_linux e ≡ false
none-linux (Events.Fetch q r) e = absurd (grind (arith, e))
none-linux (Events.Assign q w) e = absurd (grind (arith, e))
none-linux (Events.Miss q w) e = absurd (grind (arith, e))
none-linux (Events.Pin q w) e = absurd (grind (arith, e))
none-linux (Events.Copy q w) e = absurd (grind (arith, e))
none-linux (Events.Unpin q w) e = absurd (grind (arith, e))
none-linux (Events.Act q w) e = absurd (grind (arith, e))
none-linux (Events.Park q w) e = absurd (grind (arith, e))
none-linux (Events.Unpark q n) e = absurd (grind (arith, e))
none-linux (Events.Finish q w) e = absurd (grind (arith, e))
none-linux (Events.AckClear q) e = absurd (grind (arith, e))
none-linux (Events.Run core t n) e = refl
none-linux (Events.Trap t) e = refl
none-linux (Events.Deliver t) e = refl
none-linux (Events.Intake q) e = refl
none-linux (Events.Answer q w) e = refl
none-linux (Events.BeginVm t) e = refl
none-linux (Events.Interrupt t) e = refl
none-linux (Events.Wait t) e = refl
none-linux (Events.Reap q) e = refl
none-linux (Events.Script i) e = refl

module _ {T F : Type 0} (rows : T → Map Row) (files : F → Files) (x : Parts T F) (p : ℕ) (e : Event) (process : linux_process e ≡ Some p) where
  may-is : (is_of_linux e && may (pair_of rows files x) e) ≡ (is_there (pair_of rows files x).node p && may_here e (here (pair_of rows files x) p))
  may-is =
      let a = is-linux e p (pair_of rows files x).node process in
      ap (λ b. b && may (pair_of rows files x) e) a.0 ∙ ap (λ q. is_there (pair_of rows files x).node q && may_here e (here (pair_of rows files x) q)) a.1

  -- where the process has a row
  pub may-where : (s : Side T) → at x.sides.map p ≡ Some s → (is_of_linux e && may (pair_of rows files x) e) ≡ (is_there (node_of x.lwk.node (files x.files)) p && (is_of_linux e && may_here e (here_in rows files x s)))
  unfolding pair_of
  may-where s there =
      let a = is-linux e p (pair_of rows files x).node process in
      may-is ∙ ap (λ h. is_there (pair_of rows files x).node p && may_here e h) (here-is rows files x p s there)
      ∙ ap (λ b. is_there (pair_of rows files x).node p && (b && may_here e (here_in rows files x s))) (sym a.0)

  -- where it has none
  pub may-nowhere : Coherent (pair_of rows files x) → at x.sides.map p ≡ None → (is_of_linux e && may (pair_of rows files x) e) ≡ false
  may-nowhere k none = may-is ∙ go (is_there (pair_of rows files x).node p) refl
    where
      go : (b : Bool) → is_there (pair_of rows files x).node p ≡ b → (b && may_here e (here (pair_of rows files x) p)) ≡ false
      go false f = refl
      go true f = absurd (let a : is_some (at x.sides.map p) ≡ true = found rows files x p k f in let b = sym (ap is_some none) ∙ a in grind (arith, b))
