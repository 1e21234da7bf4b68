-- What the side of a process answers, where it has a row and where it has none.
use Rattle.file_model.specs.Files.{Files}
use Rattle.hybrid_model.specs.Unpark.{thread_of_request}
use Rattle.hybrid_model.specs.Answer.{answer_to, noted_of, thread_served}
use Rattle.hybrid_model.specs.Interrupt.{is_calling}
use Rattle.hybrid_model.specs.Pairs.{side_of}
use Rattle.hybrid_model.specs.Sides.{Row, Side as SideOf, call_in, looked_up, new_side, no_linux, no_service, served, serves}
use Rattle.lwk_side.specs.Shown.{shown_caller}
use Rattle.lwk_side.specs.declared.task.Caller.{Caller}
use Rattle.mck_word.specs.EachLaws.{at-each}
use Rattle.mck_word.specs.MapLaws.{at-none}
use Rattle.mck_word.specs.Maps.{Map, at, each}
use Rattle.pair_core.specs.Shown.{pair_of, shown_side}
use Rattle.pair_core.specs.declared.parts.Parts.{Parts}
use Rattle.pair_core.specs.declared.parts.Side.{Side}
use Rattle.pair_node.proofs.Shows.{side-is}
use Rattle.std.proofs.Common.{Bor, ap, refl, ◌∙◌}
use Rattle.std.specs.Option.{option_copied}
use Rattle.std.specs.Prelude.{None, Option, Some, false, is_some, option_map, unwrap_or, ℕ, ◌≡◌}

module _ {T F : Type 0} (rows : T → Map Row) (files : F → Files) (x : Parts T F) (p : ℕ) where
  pub own-side : (s : Side T) → at x.sides.map p ≡ Some s → side_of (pair_of rows files x) p ≡ shown_side rows s
  own-side s e = side-is rows files x p (Some s) e

  pub no-side : at x.sides.map p ≡ None → side_of (pair_of rows files x) p ≡ new_side 0
  no-side e = side-is rows files x p None e

-- ---- a side at its beginning
pub new-request : (q : ℕ) → thread_of_request (new_side 0) q ≡ 0
new-request q = ap (λ o. (call_in o).tid.0) (at-none q)

pub new-thread : (w : ℕ) → thread_served (new_side 0) w ≡ 0
new-thread w = new-request (serves no_linux w)

pub new-interrupted : (w : ℕ) → (served (new_side 0).linux w).interrupted ≡ false
new-interrupted w = ap (λ o. (unwrap_or o no_service).interrupted) (at-none (serves no_linux w))

pub new-calling : (t : ℕ) → is_calling (new_side 0) t ≡ false
new-calling t = ap is_some (at-none t)

pub new-answer : (w : ℕ) → is_some (answer_to (new_side 0) w) ≡ false
new-answer w = let s : SideOf = new_side 0 in ap (λ o. is_some (looked_up o (noted_of s w).1)) (at-none (noted_of s w).0)

-- ---- whether a row is there
pub some-copied : {A : Type 0} (o : Option (Bor A)) → is_some o ≡ is_some (option_copied o)
some-copied None = refl
some-copied (Some b) = refl

some-mapped : {A B : Type 0} (f : A → B) (o : Option A) → is_some (option_map f o) ≡ is_some o
some-mapped f None = refl
some-mapped f (Some b) = refl

pub some-shown : (m : Map Caller) (t : ℕ) → is_some (at (each shown_caller m) t) ≡ is_some (at m t)
some-shown m t = ap is_some (at-each shown_caller m t) ∙ some-mapped shown_caller (at m t)
