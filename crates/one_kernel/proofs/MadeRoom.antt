-- Room that is made in the row of a thread's process: the state stays, and the row found has the room.
use Rattle.key_rows.specs.Table.{Table}
use Rattle.kernel_model.specs.OneKernel.{put_one_here}
use Rattle.kernel_tables.specs.Shown.{node_of}
use Rattle.mck_word.specs.MapLaws.{at-put}
use Rattle.mck_word.specs.Maps.{Map, and_then, at, each, put}
use Rattle.one_files.specs.Seen.{seen}
use Rattle.one_kernel.proofs.After.{put-back, put-same}
use Rattle.one_kernel.proofs.Stepping.{own-with, with_call}
use Rattle.one_kernel.specs.Parts.{here_in, one_of, shown_call, shown_own}
use Rattle.one_kernel.specs.declared.calls.Call.{Call}
use Rattle.one_kernel.specs.declared.parts.One.{One}
use Rattle.one_kernel.specs.declared.parts.Own.{Own}
use Rattle.std.proofs.Common.{ap, arith, subst, sym, ◌∙◌}
use Rattle.std.proofs.lemmas.Bool.Decides.{nat_tests}
use Rattle.std.specs.Prelude.{None, Option, Some, cond, false, is_some, true, ℕ, ◌==◌, ◌≡◌}

-- what holds of the value of an option holds of each value that it has
pub of-some : {V : Type 0} (P : V → Type 0) (o : Option V) (t : V) → o ≡ Some t → P t → (u : V) → o ≡ Some u → P u
of-some P o t there h u found = let both : Some t ≡ Some u = sym there ∙ found in let same : t ≡ u = cc in subst P same h

pub of-none : {V : Type 0} (P : V → Type 0) (o : Option V) → o ≡ None → (u : V) → o ≡ Some u → P u
of-none P o none u found = absurd (let test = ap is_some (sym none ∙ found) in grind (arith, test))

-- what holds of the row that was put in holds of the row found
pub of-put : {V : Type 0} (m : Map V) (p : ℕ) (t : V) (P : V → Type 0) → P t → (u : V) → at (put m p t) p ≡ Some u → P u
of-put {V = V} m p t P h =
    let test : (p == p) ≡ true = grind (arith, nat_tests) in
    of-some P (at (put m p t) p) t (at-put m p t p ∙ ap (λ b. cond b (Some t) (at m p)) test) h

-- and so for the call that was put into its row
pub of-call : (m : Map Own) (t p q : ℕ) (w : Own) (d : Call) (P : Call → Type 0) → q ≡ p → P d → (v : Own) (k : Call) → at (put m p (with_call w t d)) q ≡ Some v → at v.calls.map t ≡ Some k → P k
of-call m t p q w d P process h v k found called =
    of-put m p (with_call w t d) (λ (u : Own). (e : Call) → at u.calls.map t ≡ Some e → P e) (of-put w.calls.map t d P h) v (ap (at (put m p (with_call w t d))) (sym process) ∙ found) k called

-- a thread without a call has none in the row of its process
pub no-call : (m : Map Own) (t p q : ℕ) (P : Call → Type 0) → q ≡ p → is_some (and_then (at m p) (λ (w : Own). at w.calls.map t)) ≡ false → (v : Own) (k : Call) → at m q ≡ Some v → at v.calls.map t ≡ Some k → P k
no-call m t p q P process none v k found called =
    let there : is_some (and_then (at m p) (λ (w : Own). at w.calls.map t)) ≡ true
    = ap (λ (o : Option Own). is_some (and_then o (λ w. at w.calls.map t))) (ap (at m) (sym process) ∙ found) ∙ ap is_some called in
    absurd (grind (arith, none, there))

-- a call that shows the same in a row shows the same row
pub same-row : (w : Own) (t : ℕ) (c d : Call) → at w.calls.map t ≡ Some c → shown_call d ≡ shown_call c → shown_own (with_call w t d) ≡ shown_own w
same-row w t c d there same =
    own-with w t d ∙ ap (λ k. record (shown_own w) { calls = put (shown_own w).calls t k }) same ∙ sym (own-with w t c)
    ∙ ap (λ (m : Map Call). shown_own (record w { calls = record w.calls { map = m } })) (sym (put-same w.calls.map t c there))

-- a row that shows the same in the machine shows the same state
pub same-state : (x y : One) (p : ℕ) (w o : Own) → at x.own.map p ≡ Some w → y.own.map ≡ put x.own.map p o → here_in y o ≡ here_in x w → one_of y ≡ one_of x
same-state x y p w o there puts h = put-back x y p o puts ∙ ap (put_one_here (one_of x) p) h ∙ sym (put-back x x p w (put-same x.own.map p w there))

-- so does a row whose calls have more room
pub same-calls : (x y : One) (p : ℕ) (w : Own) (calls : Table Call) → at x.own.map p ≡ Some w → calls.map ≡ w.calls.map → y.own.map ≡ put x.own.map p (record w { calls = calls }) → y.node ≡ x.node → y.files ≡ x.files
    → y.free ≡ x.free → one_of y ≡ one_of x
same-calls x y p w calls there same puts node files free =
    same-state x y p w (record w { calls = calls }) there puts (λ i. record { own = record { memory = w.memory.map; calls = each shown_call (same i) }; node = node_of (node i) (seen (files i)); free = free i; born = None })

-- where there is no row, none is found
pub not-there : {V : Type 0} (m : Map V) (p : ℕ) (P : V → Type 0) → is_some (at m p) ≡ false → (u : V) → at m p ≡ Some u → P u
not-there m p P none u found = absurd (let test = ap is_some found in grind (arith, none, test))
