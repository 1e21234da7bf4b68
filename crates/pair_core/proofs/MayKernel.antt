-- When an event of the lightweight kernel may happen: its process has a row, and it may happen there.
use Rattle.file_model.specs.Files.{Files}
use Rattle.hybrid_laws.specs.EventKinds.{is_of_linux}
use Rattle.hybrid_model.specs.Events.{may, may_here, process_of_event}
use Rattle.hybrid_model.specs.Globals.{Coherent}
use Rattle.hybrid_model.specs.Pairs.{here}
use Rattle.hybrid_model.specs.Sides.{Row}
use Rattle.hybrid_model.specs.declared.events.Event.{Event}
use Rattle.kernel_model.specs.Nodes.{Node, is_there}
use Rattle.kernel_tables.specs.Shown.{node_of}
use Rattle.mck_word.specs.Maps.{Map, at}
use Rattle.pair_core.proofs.Found.{found, here-is}
use Rattle.pair_core.specs.KernelRoom.{kernel_process}
use Rattle.pair_core.specs.Shown.{here_in, pair_of}
use Rattle.pair_core.specs.declared.parts.Parts.{Parts}
use Rattle.pair_core.specs.declared.parts.Side.{Side}
use Rattle.std.proofs.Common.{ap, arith, refl, sym, ◌∙◌}
use Rattle.std.specs.Prelude.{Bool, None, Some, cond, false, is_some, not, true, ℕ, ◌&&◌, ◌≡◌}

same-number : (a b : ℕ) → Some a ≡ Some b → a ≡ b
same-number a b e = cc

kernel-when : (b : Bool) (q p : ℕ) → cond b None (Some q) ≡ Some p → (b ≡ false) × (q ≡ p)
kernel-when true q p e = absurd (grind (arith, e))
kernel-when false q p e = (refl, same-number q p e)

kernel-never : (b : Bool) (q : ℕ) → cond b None (Some q) ≡ None → not b ≡ false
kernel-never true q e = refl
kernel-never false q e = absurd (grind (arith, e))

pub none-kernel : (e : Event) (node : Node) → kernel_process node e ≡ None → not (is_of_linux e) ≡ false
none-kernel e node f = kernel-never (is_of_linux e) (process_of_event node e) f

module _ {T F : Type 0} (rows : T → Map Row) (files : F → Files) (x : Parts T F) (p : ℕ) (e : Event) (process : kernel_process (node_of x.lwk.node (files x.files)) e ≡ Some p) where
  own : (is_of_linux e ≡ false) × (process_of_event (node_of x.lwk.node (files x.files)) e ≡ p)
  own = kernel-when (is_of_linux e) (process_of_event (node_of x.lwk.node (files x.files)) e) p process

  may-is : (not (is_of_linux e) && may (pair_of rows files x) e) ≡ (is_there (pair_of rows files x).node p && may_here e (here (pair_of rows files x) p))
  unfolding pair_of
  may-is =
      ap (λ b. not b && may (pair_of rows files x) e) own.0 ∙ ap (λ q. is_there (pair_of rows files x).node q && may_here e (here (pair_of rows files x) q)) own.1

  -- where the process has a row
  pub kernel-where : (s : Side T) → at x.sides.map p ≡ Some s → (not (is_of_linux e) && may (pair_of rows files x) e) ≡ (is_there (node_of x.lwk.node (files x.files)) p && (not (is_of_linux e) && may_here e (here_in rows files x s)))
  unfolding pair_of
  kernel-where s there =
      may-is ∙ ap (λ h. is_there (pair_of rows files x).node p && may_here e h) (here-is rows files x p s there)
      ∙ ap (λ b. is_there (pair_of rows files x).node p && (not b && may_here e (here_in rows files x s))) (sym own.0)

  -- where it has none
  pub kernel-nowhere : Coherent (pair_of rows files x) → at x.sides.map p ≡ None → (not (is_of_linux e) && may (pair_of rows files x) e) ≡ false
  kernel-nowhere k none = may-is ∙ go (is_there (pair_of rows files x).node p) refl
    where
      go : (b : Bool) → is_there (pair_of rows files x).node p ≡ b → (b && may_here e (here (pair_of rows files x) p)) ≡ false
      go false f = refl
      go true f = absurd (let a : is_some (at x.sides.map p) ≡ true = found rows files x p k f in let b = sym (ap is_some none) ∙ a in grind (arith, b))
