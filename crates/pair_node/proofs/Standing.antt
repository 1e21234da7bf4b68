-- How a worker of a process stands, where the process has a row and where it has none.
use Rattle.file_model.specs.Files.{Files}
use Rattle.hybrid_model.specs.Workers.{has_pin, holds, is_held}
use Rattle.hybrid_model.specs.Pairs.{side_of}
use Rattle.hybrid_model.specs.Sides.{Row, Side as SideOf, new_side, no_linux, serves, state_of}
use Rattle.mck_word.specs.MapLaws.{at-none}
use Rattle.mck_word.specs.Maps.{Map, at}
use Rattle.pair_core.specs.Shown.{pair_of}
use Rattle.pair_core.specs.declared.parts.Parts.{Parts}
use Rattle.pair_core.specs.declared.parts.Side.{Side}
use Rattle.pair_node.proofs.Sides.{no-side, own-side}
use Rattle.pair_offers.specs.Stances.{stance_of}
use Rattle.pair_offers.specs.declared.stance.Stance.TheVariants.{Holding, Other, Pinned}
use Rattle.proxy_worker.specs.Shown.{linux_of}
use Rattle.std.proofs.Common.{ap, ◌∙◌}
use Rattle.std.specs.Prelude.{Bool, None, Some, cond, is_some, ℕ, ◌&&◌, ◌≡◌}

-- a side at its beginning has no pin and no worker that serves
new-other : (w : ℕ) → stance_of (new_side 0) w ≡ Other
new-other w =
    ap (λ (b : Bool). cond b Pinned (cond (holds no_linux (new_side 0).book w) Holding Other)) (ap is_some (at-none w))
    ∙ ap (λ (b : Bool). cond (b && is_held (state_of (new_side 0).book (serves no_linux w))) Holding Other) (ap is_some (at-none w))

module _ {T F : Type 0} (rows : T → Map Row) (files : F → Files) (x : Parts T F) (p w : ℕ) where
  pub stance-is : (s : Side T) → at x.sides.map p ≡ Some s
      → stance_of (side_of (pair_of rows files x) p) w ≡ cond (has_pin (linux_of s.proxy) w) Pinned (cond (holds (linux_of s.proxy) s.channel.book.requests w) Holding Other)
  stance-is s e = ap (λ (y : SideOf). stance_of y w) (own-side rows files x p s e)

  pub new-stance : at x.sides.map p ≡ None → stance_of (side_of (pair_of rows files x) p) w ≡ Other
  new-stance e = ap (λ (y : SideOf). stance_of y w) (no-side rows files x p e) ∙ new-other w
