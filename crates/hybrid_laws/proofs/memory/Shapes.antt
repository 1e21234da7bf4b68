-- Stores and instructions change no page's rights, and make and take away no page.
use Rattle.hybrid_laws.proofs.memory.Written.{SameShape, shown_written}
use Rattle.hybrid_laws.proofs.node.Primitives.{at-change}
use Rattle.hybrid_model.specs.Run.{run_for}
use Rattle.hybrid_model.specs.Sides.{Row}
use Rattle.hybrid_model.specs.Spaces.{shown_memory, shown_row, written_back}
use Rattle.isa_model.specs.Arith.{add_of, store_size}
use Rattle.isa_model.specs.Atomics.{AmIns, am_decoded, am_result, am_size, is_atomic}
use Rattle.isa_model.specs.Decode.{decoded}
use Rattle.isa_model.specs.Instr.{Outcome, after_fetch, do_am, do_arith, do_atomic, do_atomic_at, do_s, execute, execute_am, execute_any, instr, outcome, store_of, wide_of}
use Rattle.isa_model.specs.Memory.{Memory, Page, fetched, first_lack, lacks, number_at, page_with, put_byte, put_number, stored_unless, write_bytes}
use Rattle.isa_model.specs.Registers.{reg}
use Rattle.isa_model.specs.declared.forms.Form.TheVariants.{B, I, J, R, S, U}
use Rattle.isa_model.specs.declared.forms.Form.{Form}
use Rattle.isa_model.specs.declared.names.Op.{Op}
use Rattle.isa_model.specs.declared.stops.Lack.{Lack}
use Rattle.isa_model.specs.declared.stops.Stop.TheVariants.{Misaligned, On, Fault as StopFault}
use Rattle.kernel_model.specs.Nodes.{ready_to_run, thread_of}
use Rattle.kernel_model.specs.Signals.{Store, stored_all}
use Rattle.kernel_model.specs.Traps.{Ran, executed}
use Rattle.mck_flags.specs.declared.rights.Rights.{Rights}
use Rattle.mck_word.specs.MapLaws.{at-collect}
use Rattle.mck_word.specs.Maps.{Map, and_then, at}
use Rattle.mck_word.specs.declared.Access.TheVariants.{Read as ReadAccess, Write as WriteAccess}
use Rattle.mck_word.specs.declared.Regs.{Regs}
use Rattle.std.proofs.Common.{ap, arith, refl, ◌∙◌}
use Rattle.std.proofs.lemmas.Bool.Decides.{nat_tests}
use Rattle.std.specs.Prelude.{Bool, Err, List, None, Ok, Option, Result, Some, [], cond, false, if◌then◌else◌, option_map, suc, true, zero, ℕ, ℤ, ◌%◌, ◌+◌, ◌/◌, ◌==◌, ◌^◌, ◌||◌, ◌∷◌, ◌≡◌}

abbrev pub rights_in : Option Page → Option Rights
rights_in None = None
rights_in (Some x) = Some x.rights

abbrev pub SameRights : Memory → Memory → Type 0
SameRights m n = (i : ℕ) → rights_in (at n i) ≡ rights_in (at m i)

same-rights : (m : Memory) → SameRights m m
same-rights m i = refl

rights-then : (a b c : Memory) → SameRights a b → SameRights b c → SameRights a c
rights-then a b c k l i = l i ∙ k i

put_byte-rights : (m : Memory) (a b : ℕ) → SameRights m (put_byte m a b)
put_byte-rights m a b i = ap rights_in (at-change m (a / 4096) (page_with a b) i) ∙ go (i == a / 4096) refl
  where
    mapped : (o : Option Page) → rights_in (option_map (page_with a b) o) ≡ rights_in o
    mapped None = refl
    mapped (Some x) = refl

    go : (c : Bool) → (i == a / 4096) ≡ c → rights_in (cond c (option_map (page_with a b) (at m (a / 4096))) (at m i)) ≡ rights_in (at m i)
    go true e = let g : i ≡ a / 4096 = grind (arith, nat_tests, e) in rw g (mapped (at m (a / 4096)))
    go false e = refl

pub put_number-rights : (n : ℕ) (m : Memory) (a v : ℕ) → SameRights m (put_number m a n v)
unfolding put_number
put_number-rights zero m a v i = refl
put_number-rights (suc n) m a v i = put_number-rights n (put_byte m a (v % 256)) ((a + 1) % 2 ^ 64) (v / 256) i ∙ put_byte-rights m a (v % 256) i

pub write_bytes-rights : (bytes : List ℕ) (m : Memory) (a : ℕ) → SameRights m (write_bytes m a bytes)
unfolding write_bytes
write_bytes-rights [] m a i = refl
write_bytes-rights (b ∷ bytes) m a i = write_bytes-rights bytes (put_byte m a b) (a + 1) i ∙ put_byte-rights m a b i

pub stored_all-rights : (ss : List Store) (m : Memory) → SameRights m (stored_all ss m)
stored_all-rights [] m i = refl
stored_all-rights (s ∷ ss) m i = stored_all-rights ss (write_bytes m s.address s.bytes) i ∙ write_bytes-rights s.bytes m s.address i

-- ---- instructions
store-rights : (r : Regs) (o : Option Lack) (old new : Memory) → SameRights old new → SameRights old (store_of r (stored_unless o old new)).memory
store-rights r None old new h = h
store-rights r (Some l) old new h = same-rights old

do_s-rights : (op : Op) (a b : ℕ) (imm : ℤ) (r : Regs) (m : Memory) → SameRights m (do_s op a b imm r m).memory
unfolding do_s
do_s-rights op a b imm r m = store-rights r (first_lack m WriteAccess (add_of (reg r a) (wide_of imm)) (store_size op)) m (put_number m (add_of (reg r a) (wide_of imm)) (store_size op) (reg r b))
    (put_number-rights (store_size op) m (add_of (reg r a) (wide_of imm)) (reg r b))

if-rights : (b : Bool) (m : Memory) (x y : Outcome) → SameRights m x.memory → SameRights m y.memory → SameRights m (if b then x else y).memory
if-rights true m x y k l = k
if-rights false m x y k l = l

do_am-rights : (i : AmIns) (r : Regs) (m : Memory) → SameRights m (do_am i r m).memory
unfolding do_am
do_am-rights i r m =
    let addr = reg r i.rs1 % 2 ^ 64 in
    let fault = outcome r m (StopFault (record { page = addr / 4096; access = WriteAccess })) in
    if-rights (is_atomic i.op) m (do_atomic i r m) (outcome (do_arith i r) m On)
    (if-rights (addr % am_size i.op == 0) m (if lacks m ReadAccess (addr / 4096) || lacks m WriteAccess (addr / 4096) then fault else do_atomic_at i addr r m) (outcome r m Misaligned)
    (if-rights (lacks m ReadAccess (addr / 4096) || lacks m WriteAccess (addr / 4096)) m fault (do_atomic_at i addr r m) (same-rights m)
    (put_number-rights (am_size i.op) m addr (am_result i.op (number_at m addr (am_size i.op)) (reg r i.rs2))))
    (same-rights m))
    (same-rights m)

execute-rights : (form : Form) (r : Regs) (m : Memory) → SameRights m (execute form r m).memory
execute-rights (R op rd a b) r m = same-rights m
execute-rights (I op rd a imm) r m = same-rights m
execute-rights (S op a b imm) r m = do_s-rights op a b imm r m
execute-rights (B op a b imm) r m = same-rights m
execute-rights (U op rd imm) r m = same-rights m
execute-rights (J op rd imm) r m = same-rights m

any-rights : (o : Option Form) (w : ℕ) (r : Regs) (m : Memory) → SameRights m (execute_any o w r m).memory
any-rights (Some form) w r m = execute-rights form r m
any-rights None w r m = am (am_decoded w)
  where
    am : (o : Option AmIns) → SameRights m (execute_am o r m).memory
    am None = same-rights m
    am (Some i) = do_am-rights i r m

fetch-rights : (o : Result ℕ Lack) (r : Regs) (m : Memory) → SameRights m (after_fetch o r m).memory
fetch-rights (Err l) r m = same-rights m
fetch-rights (Ok w) r m = any-rights (decoded w) w r m

pub instr-rights : (r : Regs) (m : Memory) → SameRights m (instr r m).memory
unfolding instr
instr-rights r m = if-rights (r.pc % 4 == 0) m (after_fetch (fetched m r.pc) r m) (outcome r m Misaligned) (fetch-rights (fetched m r.pc) r m) (same-rights m)

pub run_for-rights : (n t : ℕ) (v : Ran) → SameRights v.memory (run_for n t v).memory
run_for-rights zero t v = same-rights v.memory
run_for-rights (suc n) t v = rights-then v.memory w.memory (cond (ready_to_run (thread_of w.node t).does) (run_for n t w) w).memory (instr-rights (thread_of v.node t).regs v.memory) (go (ready_to_run (thread_of w.node t).does) (run_for-rights n t w))
  where
    w : Ran
    w = executed t v

    go : (b : Bool) → SameRights w.memory (run_for n t w).memory → SameRights w.memory (cond b (run_for n t w) w).memory
    go true k = k
    go false k = same-rights w.memory

-- ---- against a table
pub shape-shown : (table : Map Row) (frames : Map (List ℕ)) → SameShape table (shown_memory table frames)
shape-shown table frames = record {
  absent = λ i e. at-collect (λ k v. Some (shown_row frames v)) table i ∙ ap (λ o. and_then o (λ v. Some (shown_row frames v))) e;
  present = λ i r e. (shown_row frames r, at-collect (λ k v. Some (shown_row frames v)) table i ∙ ap (λ o. and_then o (λ v. Some (shown_row frames v))) e, refl);
}

pub shape-rights : (table : Map Row) (m n : Memory) → SameRights m n → SameShape table m → SameShape table n
shape-rights table m n same h = record {
  absent = λ i e. none i (at n i) (same i ∙ ap rights_in (h.absent i e));
  present = λ i r e. let y = h.present i r e in some r (at n i) (same i ∙ ap rights_in y.1 ∙ ap Some y.2);
}
  where
    none : (i : ℕ) (o : Option Page) → rights_in o ≡ None → o ≡ None
    none i None e = refl
    none i (Some x) e = absurd (grind (arith, e))

    some : (r : Row) (o : Option Page) → rights_in o ≡ Some r.1 → (y : Page) × (o ≡ Some y) × (y.rights ≡ r.1)
    some r None e = absurd (grind (arith, e))
    some r (Some x) e = (x, refl, (let k : x.rights ≡ r.1 = cc in k))

-- what is written back is what is shown
pub shown-back : (table : Map Row) (frames : Map (List ℕ)) (m : Memory) → ((i j : ℕ) (r t : Row) → at table i ≡ Some r → at table j ≡ Some t → r.0.0 ≡ t.0.0 → i ≡ j)
    → SameRights (shown_memory table frames) m → shown_memory table (written_back table m frames) ≡ m
shown-back table frames m apart same = shown_written table m apart frames (shape-rights table (shown_memory table frames) m same (shape-shown table frames))
