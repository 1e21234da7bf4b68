use Rattle.mck_word.specs.declared.Pid.{Pid}
use Rattle.pair_core.specs.Shown.{pair_of}
use Rattle.pair_node.proofs.summary.ends.Goals as goal
use Rattle.pair_node.specs.Summed.{end_at}
use Rattle.run_summary.specs.declared.ProcessEnd.{ProcessEnd}
use Rattle.std.proofs.Common.{ap, arith, sym, ◌∙◌}
use Rattle.std.proofs.Math.Seq.{take-length}
use Rattle.std.proofs.lemmas.List.{map-append, take_more}
use Rattle.std.specs.Prelude.{List, [], get_or, length, map, take, ℕ, ◌+◌, ◌++◌, ◌<◌, ◌≡◌, ◌∷◌}

one-more : (f : Pid → ProcessEnd) (pids : List Pid) (i : ℕ) → i < length pids → map f (take (i + 1) pids) ≡ map f (take i pids) ++ f (get_or pids i (record { 0 = 0 })) ∷ []
one-more f pids i l = ap (map f) (take_more pids i (record { 0 = 0 }) l) ∙ map-append f (take i pids) (get_or pids i (record { 0 = 0 }) ∷ [])

pub loop-pid-preserved : goal.loop-pid-preserved
loop-pid-preserved g c =
    let f = end_at (pair_of g.T.PageTable.rows g.F.FileStore.files c.args.parts.now).node in
    c.in_ok-push.ensures.ok ∙ (λ i. c.loop-pid.invariant i ++ c.end_at.ensures i ∷ []) ∙ sym (one-more f c.args.pids.now c.loop-pid.pid-index c.loop-pid-test.true)

pub returns : goal.returns
returns g c =
    let f = end_at (pair_of g.T.PageTable.rows g.F.FileStore.files c.args.parts.now).node in
    let all : c.loop-pid.pid-index ≡ length c.args.pids.now = omega arith in
    c.loop-pid.invariant ∙ ap (λ n. map f (take n c.args.pids.now)) all ∙ ap (map f) (take-length c.args.pids.now)
