-- Each page of a memory has its 4,096 bytes: stores, instructions and effects keep that.
use Rattle.hybrid_laws.proofs.node.Primitives.{at-change}
use Rattle.isa_model.specs.Arith.{add_of, store_size}
use Rattle.isa_model.specs.Atomics.{AmIns, am_decoded, am_result, am_size, is_atomic}
use Rattle.isa_model.specs.Decode.{decoded}
use Rattle.isa_model.specs.Instr.{Outcome, after_fetch, do_am, do_arith, do_atomic, do_atomic_at, do_s, execute, execute_am, execute_any, instr, outcome, store_of, wide_of}
use Rattle.isa_model.specs.Memory.{Memory, Page, fetched, first_lack, lacks, number_at, page_with, put_byte, put_number, stored_unless, write_bytes}
use Rattle.isa_model.specs.Registers.{reg}
use Rattle.isa_model.specs.declared.forms.Form.TheVariants.{B, I, J, R, S, U}
use Rattle.isa_model.specs.declared.forms.Form.{Form}
use Rattle.isa_model.specs.declared.names.Op.{Op}
use Rattle.isa_model.specs.declared.stops.Lack.{Lack}
use Rattle.isa_model.specs.declared.stops.Stop.TheVariants.{Misaligned, On, Fault as StopFault}
use Rattle.kernel_model.specs.MemoryCalls.{Effect}
use Rattle.kernel_model.specs.Pages.{page_size, pages_count, zero_page}
use Rattle.kernel_model.specs.Signals.{Store, stored_all}
use Rattle.kernel_model.specs.Spaces.{OneSpace, add_page, after_effect, drop_page, each_page, protect_page}
use Rattle.mck_flags.specs.declared.rights.Rights.{Rights}
use Rattle.mck_word.specs.MapLaws.{at-cut, at-put}
use Rattle.mck_word.specs.Maps.{at, change, cut, put}
use Rattle.mck_word.specs.declared.Access.TheVariants.{Read as ReadAccess, Write as WriteAccess}
use Rattle.mck_word.specs.declared.Regs.{Regs}
use Rattle.std.proofs.Common.{refl, subst, sym, ◌∙◌}
use Rattle.std.proofs.lemmas.List.{length-set}
use Rattle.std.specs.Prelude.{Bool, Err, List, None, Ok, Option, Result, Some, [], cond, false, if◌then◌else◌, length, option_map, suc, true, zero, ℕ, ℤ, ◌%◌, ◌+◌, ◌/◌, ◌==◌, ◌^◌, ◌||◌, ◌∷◌, ◌≡◌}
use Rattle.work_laws.specs.WholePages.{Full, IsFull}

-- ---- one page
mapped : (f : Page → Page) → ((x : Page) → length x.bytes ≡ page_size → length (f x).bytes ≡ page_size) → (o : Option Page) → IsFull o → IsFull (option_map f o)
mapped f h None full = tt
mapped f h (Some x) full = h x full

pub full-change : (m : Memory) (k : ℕ) (f : Page → Page) → ((x : Page) → length x.bytes ≡ page_size → length (f x).bytes ≡ page_size) → Full m → Full (change m k f)
full-change m k f h full i = subst IsFull (sym (at-change m k f i)) (go (i == k))
  where
    go : (b : Bool) → IsFull (cond b (option_map f (at m k)) (at m i))
    go true = mapped f h (at m k) (full k)
    go false = full i

pub full-put : (m : Memory) (k : ℕ) (x : Page) → length x.bytes ≡ page_size → Full m → Full (put m k x)
full-put m k x e full i = subst IsFull (sym (at-put m k x i)) (go (i == k))
  where
    go : (b : Bool) → IsFull (cond b (Some x) (at m i))
    go true = e
    go false = full i

full-cut : (m : Memory) (k : ℕ) → Full m → Full (cut m k)
full-cut m k full i = subst IsFull (sym (at-cut m k i)) (go (i == k))
  where
    go : (b : Bool) → IsFull (cond b None (at m i))
    go true = tt
    go false = full i

-- ---- stores
put_byte-full : (m : Memory) (a b : ℕ) → Full m → Full (put_byte m a b)
put_byte-full m a b full = full-change m (a / 4096) (page_with a b) (λ x e. length-set x.bytes (a % 4096) b ∙ e) full

put_number-full : (n : ℕ) (m : Memory) (a v : ℕ) → Full m → Full (put_number m a n v)
unfolding put_number
put_number-full zero m a v full = full
put_number-full (suc n) m a v full = put_number-full n (put_byte m a (v % 256)) ((a + 1) % 2 ^ 64) (v / 256) (put_byte-full m a (v % 256) full)

pub write_bytes-full : (bytes : List ℕ) (m : Memory) (a : ℕ) → Full m → Full (write_bytes m a bytes)
unfolding write_bytes
write_bytes-full [] m a full = full
write_bytes-full (b ∷ bytes) m a full = write_bytes-full bytes (put_byte m a b) (a + 1) (put_byte-full m a b full)

pub stored_all-full : (ss : List Store) (m : Memory) → Full m → Full (stored_all ss m)
stored_all-full [] m full = full
stored_all-full (s ∷ ss) m full = stored_all-full ss (write_bytes m s.address s.bytes) (write_bytes-full s.bytes m s.address full)

-- ---- instructions
store-full : (r : Regs) (o : Option Lack) (old new : Memory) → Full old → Full new → Full (store_of r (stored_unless o old new)).memory
store-full r None old new was is = is
store-full r (Some l) old new was is = was

do_s-full : (op : Op) (a b : ℕ) (imm : ℤ) (r : Regs) (m : Memory) → Full m → Full (do_s op a b imm r m).memory
unfolding do_s
do_s-full op a b imm r m full = store-full r (first_lack m WriteAccess (add_of (reg r a) (wide_of imm)) (store_size op)) m (put_number m (add_of (reg r a) (wide_of imm)) (store_size op) (reg r b)) full
    (put_number-full (store_size op) m (add_of (reg r a) (wide_of imm)) (reg r b) full)

if-full : (b : Bool) (x y : Outcome) → Full x.memory → Full y.memory → Full (if b then x else y).memory
if-full true x y k l = k
if-full false x y k l = l

do_am-full : (i : AmIns) (r : Regs) (m : Memory) → Full m → Full (do_am i r m).memory
unfolding do_am
do_am-full i r m full =
    let addr = reg r i.rs1 % 2 ^ 64 in
    let fault = outcome r m (StopFault (record { page = addr / 4096; access = WriteAccess })) in
    if-full (is_atomic i.op) (do_atomic i r m) (outcome (do_arith i r) m On)
    (if-full (addr % am_size i.op == 0) (if lacks m ReadAccess (addr / 4096) || lacks m WriteAccess (addr / 4096) then fault else do_atomic_at i addr r m) (outcome r m Misaligned)
    (if-full (lacks m ReadAccess (addr / 4096) || lacks m WriteAccess (addr / 4096)) fault (do_atomic_at i addr r m) full
    (put_number-full (am_size i.op) m addr (am_result i.op (number_at m addr (am_size i.op)) (reg r i.rs2)) full))
    full)
    full

execute-full : (form : Form) (r : Regs) (m : Memory) → Full m → Full (execute form r m).memory
execute-full (R op rd a b) r m full = full
execute-full (I op rd a imm) r m full = full
execute-full (S op a b imm) r m full = do_s-full op a b imm r m full
execute-full (B op a b imm) r m full = full
execute-full (U op rd imm) r m full = full
execute-full (J op rd imm) r m full = full

any-full : (o : Option Form) (w : ℕ) (r : Regs) (m : Memory) → Full m → Full (execute_any o w r m).memory
any-full (Some form) w r m full = execute-full form r m full
any-full None w r m full = am (am_decoded w)
  where
    am : (o : Option AmIns) → Full (execute_am o r m).memory
    am None = full
    am (Some i) = do_am-full i r m full

fetch-full : (o : Result ℕ Lack) (r : Regs) (m : Memory) → Full m → Full (after_fetch o r m).memory
fetch-full (Err l) r m full = full
fetch-full (Ok w) r m full = any-full (decoded w) w r m full

pub instr-full : (r : Regs) (m : Memory) → Full m → Full (instr r m).memory
unfolding instr
instr-full r m full = if-full (r.pc % 4 == 0) (after_fetch (fetched m r.pc) r m) (outcome r m Misaligned) (fetch-full (fetched m r.pc) r m full) full

-- ---- effects
abbrev OneFull : OneSpace → Type 0
OneFull sp = Full sp.memory

pages-full : (f : ℕ → OneSpace → OneSpace) → ((i : ℕ) (sp : OneSpace) → OneFull sp → OneFull (f i sp)) → (n low : ℕ) (sp : OneSpace) → OneFull sp → OneFull (each_page f n low sp)
pages-full f h zero low sp full = full
pages-full f h (suc n) low sp full = pages-full f h n (suc low) (f low sp) (h low sp full)

drop-full : (i : ℕ) (sp : OneSpace) → OneFull sp → OneFull (drop_page i sp)
unfolding drop_page
drop-full i sp full = full-cut sp.memory i full

add-full : (rights : Rights) (i : ℕ) (sp : OneSpace) → OneFull sp → OneFull (add_page rights i sp)
unfolding add_page
add-full rights i sp full = full-put sp.memory i (record { rights = rights; bytes = zero_page }) refl full

protect-full : (rights : Rights) (i : ℕ) (sp : OneSpace) → OneFull sp → OneFull (protect_page rights i sp)
unfolding protect_page
protect-full rights i sp full = full-change sp.memory i (λ x. record x { rights = rights }) (λ x e. e) full

pub effect-full : (e : Effect) (sp : OneSpace) → Full sp.memory → Full (after_effect e sp).memory
effect-full e sp full =
    let dropped = each_page drop_page (pages_count e.dropped) e.dropped.lo sp in
    let added = each_page (add_page e.rights) (pages_count e.added) e.added.lo dropped in
    pages-full (protect_page e.rights) (protect-full e.rights) (pages_count e.protected) e.protected.lo added
    (pages-full (add_page e.rights) (add-full e.rights) (pages_count e.added) e.added.lo dropped
    (pages-full drop_page drop-full (pages_count e.dropped) e.dropped.lo sp full))
