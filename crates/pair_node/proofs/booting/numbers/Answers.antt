use Rattle.pair_node.proofs.booting.numbers.Goals as goal
use Rattle.hybrid_laws.proofs.memory.Written.{each-entry}
use Rattle.hybrid_model.specs.Tallies.{Each}
use Rattle.kernel_tables.specs.Shown.{node_of, shown_process}
use Rattle.kernel_tables.specs.declared.process_rows.Process.{Process}
use Rattle.mck_word.specs.EachLaws.{at-each}
use Rattle.mck_word.specs.Maps.{at, each}
use Rattle.mck_word.specs.declared.Pid.{Pid}
use Rattle.pair_node.proofs.SameKeys.{same-keys}
use Rattle.std.proofs.Common.{List, Some, ap, append-nil, arith, length, map, subst, sym, ℕ, ◌++◌, ◌∙◌, ◌≡◌}
use Rattle.std.specs.Prelude.{None, Option, [], is_some, option_map, refl, ◌∷◌}

shown-there : (o : Option Process) → is_some (option_map shown_process o) ≡ is_some o
shown-there None = refl
shown-there (Some x) = refl

no-more : (ks : List ℕ) (es : List (ℕ × Process)) → length es ≡ 0 → ks ≡ ks ++ map (λ (e : ℕ × Process). e.0) es
no-more ks [] e = sym (append-nil ks)
no-more ks (x ∷ es) e = absurd (omega (arith, e))

pub loop-row-init : goal.loop-row-init
loop-row-init c =
    let m = c.args.node.now.processes.map in
    record {
      left = ap (λ (ps : List Pid). map (λ (p : Pid). p.0) ps ++ map (λ (e : ℕ × Process). e.0) c.rows-rest.result.now) c.new-pids.ensures.items ∙ ap (map (λ (e : ℕ × Process). e.0)) c.rows-rest.ensures.rows;
      found = subst (Each (λ (e : ℕ × Process). at m e.0 ≡ Some e.1)) (sym c.rows-rest.ensures.rows) (each-entry m);
    }

pub returns : goal.returns
unfolding node_of
returns c =
    let m = c.args.node.now.processes.map in
    λ files. no-more (map (λ (p : Pid). p.0) c.loop-row.pids.items) c.loop-row.rest.now c.in_default.ensures.cases ∙ c.loop-row.invariant.left ∙ same-keys m (each shown_process m) (λ k. sym (ap is_some (at-each shown_process m k) ∙ shown-there (at m k)))
