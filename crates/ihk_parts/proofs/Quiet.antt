-- Quiet states, and what passing over the offers of all processes tells of them.
use Rattle.hybrid_model.specs.Events.{after, may}
use Rattle.hybrid_model.specs.Pairs.{Pair}
use Rattle.hybrid_model.specs.declared.events.Event.TheVariants.{Run}
use Rattle.hybrid_model.specs.declared.events.Event.{Event}
use Rattle.ihk_parts.proofs.Passed.{first-get, offers-append}
use Rattle.ihk_parts.specs.Passing.{Goes, offers_of}
use Rattle.kernel_model.specs.Nodes.{ready_to_run, thread_of}
use Rattle.mck_word.specs.Maps.{keys}
use Rattle.mck_word.specs.declared.Tid.{Tid}
use Rattle.quiet_laws.specs.Quiet.{IsQuiet}
use Rattle.run_model.specs.Walks.{actors_of_process, first_chosen}
use Rattle.run_model.specs.declared.actors.Actor.{Actor}
use Rattle.std.proofs.Common.{List, None, ap, arith, flat_map, length, length-append, refl, subst, sym, true, ℕ, [], ◌∙◌, ◌∷◌, ◌≡◌}
use Rattle.std.specs.List.{slice_get}

abbrev processes_of : Pair → List ℕ → List Actor
processes_of pair numbers = flat_map (actors_of_process pair) numbers

none_first : {X : Type 0} (xs : List X) → slice_get xs 0 ≡ None → length xs ≡ 0
none_first [] e = refl
none_first (x ∷ xs) e = cc

first_none : {X : Type 0} (xs : List X) → length xs ≡ 0 → slice_get xs 0 ≡ None
first_none [] e = refl
first_none (x ∷ xs) e = absurd (omega (arith, e))

quiet_offers : (pair : Pair) → IsQuiet pair → (numbers : List ℕ) → length (offers_of pair (processes_of pair numbers)) ≡ 0
quiet_offers pair quiet [] = refl
quiet_offers pair quiet (p ∷ ps) =
    let own = none_first (offers_of pair (actors_of_process pair p)) (sym (first-get pair (actors_of_process pair p)) ∙ quiet p) in
    let whole = ap length (offers-append pair (actors_of_process pair p) (processes_of pair ps)) ∙ length-append (offers_of pair (actors_of_process pair p)) (offers_of pair (processes_of pair ps)) in
    let rest = quiet_offers pair quiet ps in
    omega (arith, own, whole, rest)

-- none is passed over in a quiet state
pub quiet_passed : (pair : Pair) (skip : ℕ) → IsQuiet pair → Goes pair (flat_map (actors_of_process pair) (keys pair.node.processes)) skip None skip
quiet_passed pair skip quiet = let none = quiet_offers pair quiet (keys pair.node.processes) in omega (arith, none)

-- where none was passed over, none has an offer
pub none_passed : (pair : Pair) (a b : ℕ) → Goes pair (flat_map (actors_of_process pair) (keys pair.node.processes)) a None b → b ≡ a
    → first_chosen pair (flat_map (actors_of_process pair) (keys pair.node.processes)) ≡ None
none_passed pair a b goes same =
    let all = processes_of pair (keys pair.node.processes) in
    first-get pair all ∙ first_none (offers_of pair all) (omega (arith, goes, same))

-- the law of runs, where the event and the state behind it are had by equations
abbrev pub RunsStayQuiet : Type 0
RunsStayQuiet = (pair : Pair) (core : ℕ) (t : Tid) (n : ℕ) → may pair (Run core t n) ≡ true
    → ready_to_run (thread_of (after pair (Run core t n)).node t.0).does ≡ true → IsQuiet pair → IsQuiet (after pair (Run core t n))

pub after_run : RunsStayQuiet → (pair later : Pair) (e : Event) (core : ℕ) (t : Tid) (n : ℕ) → e ≡ Run core t n → may pair e ≡ true → later ≡ after pair e
    → ready_to_run (thread_of later.node t.0).does ≡ true → IsQuiet pair → IsQuiet later
after_run law pair later e core t n is may_it behind ready quiet =
    let same : later ≡ after pair (Run core t n) = behind ∙ ap (after pair) is in
    subst IsQuiet (sym same) (law pair core t n (sym (ap (may pair) is) ∙ may_it) (subst (λ (x : Pair). ready_to_run (thread_of x.node t.0).does ≡ true) same ready) quiet)
