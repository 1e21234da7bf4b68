-- Room that is made in a process's row: the parts show the same, and the row found has the room.
use Rattle.file_model.specs.Files.{Files}
use Rattle.hybrid_model.specs.Pairs.{put_here}
use Rattle.hybrid_model.specs.Sides.{Row}
use Rattle.mck_word.specs.EachLaws.{at-each}
use Rattle.mck_word.specs.MapLaws.{at-put}
use Rattle.mck_word.specs.Maps.{Map, at, each, put}
use Rattle.pair_core.proofs.Found.{put-back}
use Rattle.pair_core.specs.Shown.{here_in, pair_of, shown_side}
use Rattle.pair_core.specs.declared.parts.Parts.{Parts}
use Rattle.pair_core.specs.declared.parts.Side.{Side}
use Rattle.proxy_worker.proofs.Parts.{put-same}
use Rattle.std.proofs.Common.{ap, arith, subst, sym, ◌∙◌}
use Rattle.std.proofs.lemmas.Bool.Decides.{nat_tests}
use Rattle.std.specs.Prelude.{None, Option, Some, cond, is_some, option_map, true, ℕ, ◌==◌, ◌≡◌}

-- what holds of the row that was put in holds of the row found
pub room-put : {V : Type 0} (m : Map V) (p : ℕ) (t : V) (P : V → Type 0) → P t → (u : V) → at (put m p t) p ≡ Some u → P u
room-put {V = V} m p t P h u found =
    let test : (p == p) ≡ true = grind (arith, nat_tests) in
    let there : Some t ≡ Some u = sym (at-put m p t p ∙ ap (λ b. cond b (Some t) (at m p)) test) ∙ found in
    let same : t ≡ u = cc in
    subst (λ (v : V). P v) same h

-- what holds of the value of an option holds of each value that it has
pub of-some : {V : Type 0} (P : V → Type 0) (o : Option V) (t : V) → o ≡ Some t → P t → (u : V) → o ≡ Some u → P u
of-some P o t there h u found = let both : Some t ≡ Some u = sym there ∙ found in let same : t ≡ u = cc in subst P same h

pub of-none : {V : Type 0} (P : V → Type 0) (o : Option V) → o ≡ None → (u : V) → o ≡ Some u → P u
of-none P o none u found = absurd (let test = ap is_some (sym none ∙ found) in grind (arith, test))

module _ {T F : Type 0} (rows : T → Map Row) (files : F → Files) (x y : Parts T F) (p : ℕ) (s t : Side T) where
  pub same-pair : at x.sides.map p ≡ Some s → y.sides.map ≡ put x.sides.map p t → here_in rows files y t ≡ here_in rows files x s → pair_of rows files y ≡ pair_of rows files x
  unfolding pair_of
  same-pair there puts h =
      put-back rows files x y p t puts ∙ ap (put_here (pair_of rows files x) p) h
      ∙ ap (λ sides. record (pair_of rows files x) { sides = sides })
      (put-same (each (shown_side rows) x.sides.map) p (shown_side rows s) (at-each (shown_side rows) x.sides.map p ∙ ap (option_map (shown_side rows)) there))
