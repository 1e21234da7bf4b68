-- Turns at the ends of pipes: which request goes next.
-- Source: this project's own, after the idea of IHK/McKernel.
use Rattle.file_model.specs.Files.{Files, description_of}
use Rattle.file_model.specs.declared.descriptions.Target.{Target}
use Rattle.file_model.specs.declared.descriptions.Target.TheVariants.{OfConsole, OfNode, ReadEnd, WriteEnd}
use Rattle.hybrid_model.specs.Pairs.{Here}
use Rattle.hybrid_model.specs.Sides.{LinuxSide, Turn, served, serves}
use Rattle.kernel_model.specs.Progress.{Progress}
use Rattle.mck_word.specs.Maps.{Map, at, cut, put}
use Rattle.std.specs.Prelude.{Bool, None, Option, Some, cond, false, is_some, not, ℕ, ◌&&◌, ◌*◌, ◌+◌, ◌==◌}

-- the end of a pipe on which a call's stream is, as a number
abbrev pub end_of_target : Target → Option ℕ
end_of_target (OfNode n) = None
end_of_target (ReadEnd n) = Some (2 * n)
end_of_target (WriteEnd n) = Some (2 * n + 1)
end_of_target (OfConsole n) = None

abbrev pub end_of_found : Files → Option ℕ → Option ℕ
end_of_found files None = None
end_of_found files (Some d) = end_of_target (description_of files d).target

abbrev pub pipe_end : Files → Progress → Option ℕ
pipe_end files p = end_of_found files p.found

abbrev pub is_turn_for : ℕ → ℕ → Option Turn → Bool
is_turn_for p q None = false
is_turn_for p q (Some t) = t.process == p && t.request == q

abbrev pub without_turn : ℕ → ℕ → Option ℕ → Map Turn → Map Turn
without_turn p q None turns = turns
without_turn p q (Some e) turns = cond (is_turn_for p q (at turns e)) (cut turns e) turns

abbrev pub with_turn : ℕ → ℕ → Option ℕ → Map Turn → Map Turn
with_turn p q None turns = turns
with_turn p q (Some e) turns = put turns e (record { process = p; request = q })

-- another request has the turn of that end
abbrev pub other_has_turn : Map Turn → Option ℕ → ℕ → ℕ → Bool
other_has_turn turns None p q = false
other_has_turn turns (Some e) p q = is_some (at turns e) && not (is_turn_for p q (at turns e))

-- the turn of the request that worker w serves is given up
unfoldable pub turn_given_up : ℕ → LinuxSide → Files → ℕ → Map Turn → Map Turn
turn_given_up p l files w turns = without_turn p (serves l w) (pipe_end files (served l w).progress) turns

abbrev pub give_up_turn : ℕ → ℕ → Here → Here
give_up_turn p w h = record h { turns = turn_given_up p h.side.linux h.node.files w h.turns }
