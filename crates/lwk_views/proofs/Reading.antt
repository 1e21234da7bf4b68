-- What may be read and stored through a table.
use Rattle.hybrid_model.specs.Sides.{Row}
use Rattle.isa_model.specs.Memory.{Memory, may_access, write_bytes}
use Rattle.isa_model.specs.declared.stops.Lack.{Lack}
use Rattle.lwk_space.proofs.BytesRead.{lacks-looked, not-allowed}
use Rattle.lwk_space.specs.Lacks.{IsFirstLack, OthersStay, memory}
use Rattle.lwk_space.specs.Rows.{FramesIn}
use Rattle.lwk_views.specs.Views.{tried}
use Rattle.mck_word.specs.Maps.{Map}
use Rattle.mck_word.specs.declared.Access.TheVariants.{Write}
use Rattle.mck_word.specs.declared.Access.{Access}
use Rattle.std.proofs.Common.{ap, refl, subst, sym, ◌∙◌}
use Rattle.std.specs.Prelude.{List, cond, length, not, suc, true, zero, ℕ, ◌&&◌, ◌+◌, ◌/◌, ◌<◌, ◌≡◌}

-- what may be accessed is a matter of the rows alone
pub may_any : (rows : Map Row) (pages other : List (List ℕ)) (a : Access) (address n : ℕ) → may_access (memory rows pages) a address n ≡ may_access (memory rows other) a address n
may_any rows pages other a address zero = refl
may_any rows pages other a address (suc n) =
    (λ i. not ((lacks-looked rows pages a (address / 4096) ∙ sym (lacks-looked rows other a (address / 4096))) i) && may_any rows pages other a (address + 1) n i)

-- the memory after bytes are stored, or where they can't be
pub tried_done : (m : Memory) (address : ℕ) (bytes : List ℕ) → may_access m Write address (length bytes) ≡ true → tried address bytes m ≡ write_bytes m address bytes
tried_done m address bytes e = ap (λ b. cond b (write_bytes m address bytes) m) e

pub tried_not : (m : Memory) (address : ℕ) (bytes : List ℕ) (l : Lack) → IsFirstLack m Write address (length bytes) l → m ≡ tried address bytes m
tried_not m address bytes l h = sym (ap (λ b. cond b (write_bytes m address bytes) m) (not-allowed m Write address (length bytes) l h))

-- the frames of rows are frames of a memory of as many pages
pub frames_in : (rows : Map Row) (pages left : List (List ℕ)) → FramesIn rows pages → length left ≡ length pages → FramesIn rows left
frames_in rows pages left h e = λ k w there. subst (λ n. w.0.0 < n) (sym e) (h k w there)

pub others_more : (rows : Map Row) (a b c : List (List ℕ)) → OthersStay rows a b → OthersStay rows b c → OthersStay rows a c
others_more rows a b c h g = λ f none. g f none ∙ h f none
