-- A process of the state is a row of the parts, and what a step leaves of it is put back.
use Rattle.kernel_model.specs.Nodes.{thread_of}
use Rattle.kernel_model.specs.OneKernel.{OneHere, no_own, one_here, put_one_here}
use Rattle.kernel_model.specs.Steps.{after, after_here, may_here, process_of_step}
use Rattle.kernel_model.specs.declared.steps.Step.{Step}
use Rattle.file_model.specs.Files.{Files}
use Rattle.kernel_tables.specs.Shown.{node_of}
use Rattle.mck_word.specs.EachLaws.{at-each, each-put}
use Rattle.mck_word.specs.declared.Regs.{Regs}
use Rattle.mck_word.specs.MapLaws.{at-put, same_rows}
use Rattle.mck_word.specs.Maps.{Map, at, each, put}
use Rattle.one_kernel.specs.Parts.{here_in, one_of, shown_own}
use Rattle.one_kernel.specs.Ready.{Ready}
use Rattle.one_kernel.specs.declared.parts.One.{One}
use Rattle.one_kernel.specs.declared.parts.Own.{Own}
use Rattle.one_files.specs.Seen.{seen}
use Rattle.std.proofs.Common.{ap, inl, inr, refl, sym, ◌∙◌}
use Rattle.std.proofs.lemmas.Bool.{cases_eq, eq-eqb, ne_eqb}
use Rattle.std.specs.Prelude.{IsSome, None, Option, Some, cond, is_some, option_map, true, unwrap_or, ℕ, ◌≡◌}

pub put-same : {V : Type 0} (m : Map V) (k : ℕ) (v : V) → at m k ≡ Some v → m ≡ put m k v
put-same m k v there = same_rows _ _ (λ q. elim (cases_eq q k) [
  | inl e ↦ (ap (at m) e ∙ there) ∙ sym (at-put m k v q ∙ ap (λ b. cond b (Some v) (at m q)) (eq-eqb q k e))
  | inr o ↦ sym (at-put m k v q ∙ ap (λ b. cond b (Some v) (at m q)) (ne_eqb q k o))
])

-- the process of a thread
pub process-is : (x : One) (t q : ℕ) → ((other : Files) → q ≡ (thread_of (node_of x.node other) t).process) → (thread_of (one_of x).node t).process ≡ q
unfolding one_of
process-is x t q e = sym (e (seen x.files))

-- the registers of a thread
pub regs-is : (x : One) (t : ℕ) (r : Regs) → ((other : Files) → r ≡ (thread_of (node_of x.node other) t).regs) → r ≡ (thread_of (one_of x).node t).regs
unfolding one_of
regs-is x t r e = e (seen x.files)

-- the process with what all share
pub here-is : (x : One) (p : ℕ) (w : Own) → at x.own.map p ≡ Some w → one_here (one_of x) p ≡ here_in x w
unfolding one_of
here-is x p w e = ap (λ own. record (here_in x w) { own = own }) (ap (λ o. unwrap_or o no_own) (at-each shown_own x.own.map p ∙ ap (option_map shown_own) e))

-- what is left of it is put back
pub put-back : (x y : One) (p : ℕ) (w : Own) → y.own.map ≡ put x.own.map p w → one_of y ≡ put_one_here (one_of x) p (here_in y w)
unfolding one_of
put-back x y p w e = ap (λ own. record (put_one_here (one_of x) p (here_in y w)) { own = own }) (ap (each shown_own) e ∙ each-put shown_own x.own.map p w)

-- a step is what it leaves of its process
pub after-is : (x y : One) (p : ℕ) (w o : Own) (s : Step) → at x.own.map p ≡ Some w → y.own.map ≡ put x.own.map p o → process_of_step (one_of x).node s ≡ p
    → here_in y o ≡ after_here s p (here_in x w) → one_of y ≡ after (one_of x) s
after-is x y p w o s there puts process h =
    put-back x y p o puts ∙ ap (put_one_here (one_of x) p) (h ∙ ap (after_here s p) (sym (here-is x p w there)))
    ∙ (λ i. let q = sym process i in put_one_here (one_of x) q (after_here s q (one_here (one_of x) q)))

pub may-here : (x : One) (p : ℕ) (s : Step) → process_of_step (one_of x).node s ≡ p → Ready (one_of x) s → may_here s (one_here (one_of x) p) ≡ true
may-here x p s process r = (λ i. may_here s (one_here (one_of x) (sym process i))) ∙ r.may

pub may-in : (x : One) (p : ℕ) (w : Own) (s : Step) → at x.own.map p ≡ Some w → process_of_step (one_of x).node s ≡ p → Ready (one_of x) s → may_here s (here_in x w) ≡ true
may-in x p w s there process r = ap (may_here s) (sym (here-is x p w there)) ∙ may-here x p s process r

-- a step that leaves the rows as they are
pub after-same : (x y : One) (p : ℕ) (w : Own) (s : Step) → at x.own.map p ≡ Some w → y.own.map ≡ x.own.map → process_of_step (one_of x).node s ≡ p
    → here_in y w ≡ after_here s p (here_in x w) → one_of y ≡ after (one_of x) s
after-same x y p w s there same process h = after-is x y p w w s there (same ∙ put-same x.own.map p w there) process h

-- the row of a process that the state has
pub row-there : (x : One) (p : ℕ) → is_some (at (one_of x).own p) ≡ true → IsSome (at x.own.map p)
unfolding one_of
row-there x p e = go (at x.own.map p) (ap is_some (sym (at-each shown_own x.own.map p)) ∙ e)
  where
    go : (o : Option Own) → is_some (option_map shown_own o) ≡ true → IsSome o
    go None e = absurd (cc)
    go (Some w) e = refl

pub row-of : (x : One) (p : ℕ) → is_some (at (one_of x).own p) ≡ true → (w : Own) × (at x.own.map p ≡ Some w)
row-of x p e = go (at x.own.map p) (row-there x p e)
  where
    go : (o : Option Own) → IsSome o → (w : Own) × (o ≡ Some w)
    go None e = absurd (cc)
    go (Some w) e = (w, refl)

one-is : (x : One) → one_of x ≡ record { node = node_of x.node (seen x.files); own = each shown_own x.own.map; free = x.free }
unfolding one_of
one-is x = refl

own-is : (x : One) → each shown_own x.own.map ≡ (one_of x).own
unfolding one_of
own-is x = refl

-- a step that begins a process, too
pub after-born : (x y : One) (p q : ℕ) (w o b : Own) (s : Step) → at x.own.map p ≡ Some w → y.own.map ≡ put (put x.own.map p o) q b → process_of_step (one_of x).node s ≡ p
    → record (here_in y o) { born = Some (q, shown_own b) } ≡ after_here s p (here_in x w) → one_of y ≡ after (one_of x) s
after-born x y p q w o b s there puts process h =
    back ∙ ap (put_one_here (one_of x) p) (h ∙ ap (after_here s p) (sym (here-is x p w there)))
    ∙ (λ i. let k = sym process i in put_one_here (one_of x) k (after_here s k (one_here (one_of x) k)))
  where
    left : OneHere
    left = record (here_in y o) { born = Some (q, shown_own b) }

    unfolded : one_of y ≡ record { node = node_of y.node (seen y.files); own = each shown_own y.own.map; free = y.free }
    unfolded = one-is y

    back : one_of y ≡ put_one_here (one_of x) p left
    back = unfolded ∙ (λ i. record {
      node = node_of y.node (seen y.files);
      own = (ap (each shown_own) puts ∙ each-put shown_own (put x.own.map p o) q b ∙ ap (λ m. put m q (shown_own b)) (each-put shown_own x.own.map p o) ∙ ap (λ m. put (put m p (shown_own o)) q (shown_own b)) (own-is x)) i;
      free = y.free;
    })
