-- What stands where a pointer points.
use Rattle.isa_model.specs.Memory.{Memory, may_access, read_bytes}
use Rattle.mck_word.specs.declared.Access.TheVariants.{Read}
use Rattle.one_calls.specs.SignalWords.{readable}
use Rattle.one_memory.specs.Views.{read_or}
use Rattle.std.proofs.Common.{ap, sym, ◌∙◌}
use Rattle.std.proofs.lemmas.Bool.{ne_eqb}
use Rattle.std.specs.Prelude.{List, None, Some, cond, length, true, ℕ, ◌==◌, ◌||◌, ◌≡◌, ◌≢◌}

-- what is asked for is what stands there
pub reads_there : {A : Type 0} (f : List ℕ → A) (m : Memory) (address : ℕ) (old bytes : List ℕ) → address ≢ 0 → readable m address (length old) ≡ true → bytes ≡ read_or old address m
    → Some (f bytes) ≡ cond (address == 0) None (Some (f (read_bytes m address (length old))))
reads_there f m address old bytes some may read =
    let there = ne_eqb address 0 some in
    let allowed : may_access m Read address (length old) ≡ true = ap (λ b. b || may_access m Read address (length old)) (sym there) ∙ may in
    let now : bytes ≡ read_bytes m address (length old) = read ∙ ap (λ b. cond b (read_bytes m address (length old)) old) allowed in
    ap (λ bs. Some (f bs)) now ∙ sym (ap (λ b. cond b None (Some (f (read_bytes m address (length old))))) there)
