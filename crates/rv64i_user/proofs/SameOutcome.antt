-- An instruction does the same on the pages that were seen and on all pages.
use Rattle.std.proofs.Common.{◌≡◌, ℕ, ◌/◌, ◌%◌, ◌^◌, ◌<◌, ◌≤◌, Bool, true, false, cond, if◌then◌else◌, ◌||◌, eqb, ℤ, Option, Some, None, Result, Ok, Err, sym, ap, ◌∙◌, refl, subst, lit≤, arith}
use Rattle.mck_word.specs.declared.Access.TheVariants as access
use Rattle.mck_word.specs.declared.Access.{Access}
use Rattle.mck_word.specs.declared.Regs.{Regs}
use Rattle.isa_model.specs.Decode.{decoded}
use Rattle.isa_model.specs.declared.names.Op.{Op}
use Rattle.isa_model.specs.declared.names.Op.TheVariants.{Lb, Sb}
use Rattle.isa_model.specs.declared.forms.Form.{Form}
use Rattle.isa_model.specs.declared.forms.Form.TheVariants.{R, I, S, B, U, J}
use Rattle.isa_model.specs.declared.stops.Lack.{Lack}
use Rattle.isa_model.specs.declared.stops.Stop.{Stop}
use Rattle.isa_model.specs.declared.stops.Stop.TheVariants.{On, Misaligned, Fault}
use Rattle.isa_model.specs.declared.kinds.Kind.{Kind}
use Rattle.isa_model.specs.declared.kinds.Kind.TheVariants as kinds
use Rattle.isa_model.specs.Memory.{Memory, page_at, lacks, lacks_in, first_lack, number_at, put_number, read_unless, stored_unless, fetched}
use Rattle.isa_model.specs.Registers.{reg, goes_on}
use Rattle.isa_model.specs.Kinds.{kind_of}
use Rattle.isa_model.specs.Arith.{add_of, load_size, store_size}
use Rattle.isa_model.specs.Instr.{Outcome, outcome, wide_of, load_of, do_load, do_kind, do_i, store_of, do_s, beside, gives, execute, do_arith, do_atomic, do_atomic_at, do_am, execute_am, execute_any, after_fetch, instr}
use Rattle.isa_model.specs.Atomics.{AmIns, am_decoded, am_result, am_size, is_atomic, old_value}
use Rattle.isa_model.specs.declared.atomics.AmOp.{AmOp}
use Rattle.isa_model.specs.declared.atomics.AmOp.TheVariants.{AddD, SwapD, XorD, OrD, AndD, MinD, MaxD, MinuD, MaxuD}
use Rattle.rv64i_user.proofs.AtomicSteps.{address, address-small, aligned-has, is-size}
use Rattle.std.proofs.lemmas.Bool.Decides.{nat_tests}
use Rattle.rv64i_user.specs.Seen.{Extends, FaultIsKnown, DoesTheSame}
use Rattle.rv64i_user.proofs.Locality.{Read, read-same, put-left, same-page}
use Rattle.rv64i_user.proofs.Written.{put-extends, put-kept}

abbrev Known : Memory → Memory → Stop → Type 0
Known m w s = (l : Lack) → s ≡ Fault l → page_at w l.page ≡ page_at m l.page

record Same (m w : Memory) (x y : Outcome) : Type 0 where
  pub regs : y.regs ≡ x.regs
  pub stop : y.stop ≡ x.stop
  pub pages : Extends x.memory y.memory
  pub others : (p : ℕ) → page_at m p ≡ None → page_at y.memory p ≡ page_at w p
  pub kept : (p : ℕ) → page_at w p ≡ page_at m p → page_at y.memory p ≡ page_at x.memory p

-- where memory stays, registers and stop decide
stays : (m w : Memory) (d e : Regs × Stop) → Extends m w → e ≡ d → Same m w (beside m d) (beside w e)
stays m w d e h q = record { regs = ap (λ x. x.0) q; stop = ap (λ x. x.1) q; pages = h; others = λ p k. refl; kept = λ p k. k }

load-small : (op : Op) → load_size op ≤ 8
load-small Lb = lit≤ tt
load-small op = lit≤ tt

store-small : (op : Op) → store_size op ≤ 8
store-small Sb = lit≤ tt
store-small op = lit≤ tt

add-small : (a b : ℕ) → add_of a b < 2 ^ 64
add-small a b = omega arith

read-is : (m w : Memory) (a : Access) (addr n : ℕ) (o : Option Lack) → first_lack m a addr n ≡ o → Read m w a addr n
    → read_unless (first_lack w a addr n) (number_at w addr n) ≡ read_unless (first_lack m a addr n) (number_at m addr n)
read-is m w a addr n None e r = ap (λ o. read_unless o (number_at w addr n)) (r.lack ∙ e) ∙ ap Ok (r.number e) ∙ sym (ap (λ o. read_unless o (number_at m addr n)) e)
read-is m w a addr n (Some l) e r = ap (λ o. read_unless o (number_at w addr n)) (r.lack ∙ e) ∙ sym (ap (λ o. read_unless o (number_at m addr n)) e)

load-same : (m w : Memory) (op : Op) (rd addr : ℕ) (r : Regs) → addr < 2 ^ 64 → Extends m w → Known m w (do_load op rd addr r m).1 → do_load op rd addr r w ≡ do_load op rd addr r m
unfolding do_load
load-same m w op rd addr r h e known =
    let n = load_size op in
    let fault : (l : Lack) → first_lack m access.Read addr n ≡ Some l → page_at w l.page ≡ page_at m l.page = λ l q. known l (ap (λ o. (load_of op rd r (read_unless o (number_at m addr n))).1) q) in
    ap (load_of op rd r) (read-is m w access.Read addr n _ refl (read-same m w access.Read addr n h (load-small op) e fault))

kind-same : (m w : Memory) (k : Kind) (op : Op) (rd a : ℕ) (z : ℤ) (r : Regs) → Extends m w → Known m w (do_kind k op rd a z r m).1 → do_kind k op rd a z r w ≡ do_kind k op rd a z r m
kind-same m w kinds.Load op rd a z r e known = load-same m w op rd (add_of (reg r a) (wide_of z)) r (add-small (reg r a) (wide_of z)) e known
kind-same m w k op rd a z r e known = refl

i-same : (m w : Memory) (op : Op) (rd a : ℕ) (z : ℤ) (r : Regs) → Extends m w → Known m w (do_i op rd a z r m).1 → do_i op rd a z r w ≡ do_i op rd a z r m
unfolding do_i
i-same m w op rd a z r e known = kind-same m w (kind_of op) op rd a z r e known

store-in : (m w : Memory) (r : Regs) (addr n v : ℕ) → addr < 2 ^ 64 → n ≤ 8 → Extends m w → (o : Option Lack) → first_lack m access.Write addr n ≡ o → first_lack w access.Write addr n ≡ o
    → Same m w (store_of r (stored_unless (first_lack m access.Write addr n) m (put_number m addr n v))) (store_of r (stored_unless (first_lack w access.Write addr n) w (put_number w addr n v)))
store-in m w r addr n v h few e None p q =
    subst (λ o. Same m w (store_of r (stored_unless o m (put_number m addr n v))) (store_of r (stored_unless (first_lack w access.Write addr n) w (put_number w addr n v)))) (sym p)
    (subst (λ o. Same m w (outcome (goes_on r) (put_number m addr n v) On) (store_of r (stored_unless o w (put_number w addr n v)))) (sym q)
    (record { regs = refl; stop = refl; pages = put-extends m w addr n v e; others = λ x k. put-left m w access.Write addr n v x h few p k; kept = λ x k. put-kept m w addr n v x k }))
store-in m w r addr n v h few e (Some l) p q =
    subst (λ o. Same m w (store_of r (stored_unless o m (put_number m addr n v))) (store_of r (stored_unless (first_lack w access.Write addr n) w (put_number w addr n v)))) (sym p)
    (subst (λ o. Same m w (outcome r m (Fault l)) (store_of r (stored_unless o w (put_number w addr n v)))) (sym q)
    (record { regs = refl; stop = refl; pages = e; others = λ x k. refl; kept = λ x k. k }))

s-same : (m w : Memory) (op : Op) (a b : ℕ) (z : ℤ) (r : Regs) → Extends m w → Known m w (do_s op a b z r m).stop → Same m w (do_s op a b z r m) (do_s op a b z r w)
unfolding do_s
s-same m w op a b z r e known =
    let addr = add_of (reg r a) (wide_of z) in
    let n = store_size op in
    let v = reg r b in
    let fault : (l : Lack) → first_lack m access.Write addr n ≡ Some l → page_at w l.page ≡ page_at m l.page = λ l q. known l (ap (λ o. (store_of r (stored_unless o m (put_number m addr n v))).stop) q) in
    let told = read-same m w access.Write addr n (add-small (reg r a) (wide_of z)) (store-small op) e fault in
    store-in m w r addr n v (add-small (reg r a) (wide_of z)) (store-small op) e (first_lack m access.Write addr n) refl told.lack

execute-same : (m w : Memory) (form : Form) (r : Regs) → Extends m w → Known m w (execute form r m).stop → Same m w (execute form r m) (execute form r w)
execute-same m w (I op rd a z) r e known = stays m w _ _ e (i-same m w op rd a z r e known)
execute-same m w (S op a b z) r e known = s-same m w op a b z r e known
execute-same m w (R op rd a b) r e known = record { regs = refl; stop = refl; pages = e; others = λ p k. refl; kept = λ p k. k }
execute-same m w (B op a b z) r e known = record { regs = refl; stop = refl; pages = e; others = λ p k. refl; kept = λ p k. k }
execute-same m w (U op rd i) r e known = record { regs = refl; stop = refl; pages = e; others = λ p k. refl; kept = λ p k. k }
execute-same m w (J op rd z) r e known = record { regs = refl; stop = refl; pages = e; others = λ p k. refl; kept = λ p k. k }

-- ---- multiplication, division and atomic operations

am-small : (op : AmOp) → am_size op ≤ 8
am-small AddD = lit≤ tt
am-small SwapD = lit≤ tt
am-small XorD = lit≤ tt
am-small OrD = lit≤ tt
am-small AndD = lit≤ tt
am-small MinD = lit≤ tt
am-small MaxD = lit≤ tt
am-small MinuD = lit≤ tt
am-small MaxuD = lit≤ tt
am-small op = lit≤ tt

nothing-new : (m w : Memory) (r : Regs) (s : Stop) → Extends m w → Same m w (outcome r m s) (outcome r w s)
nothing-new m w r s e = record { regs = refl; stop = refl; pages = e; others = λ p k. refl; kept = λ p k. k }

-- where a page has both rights, the operation reads and writes the same
updates-same : (m w : Memory) (i : AmIns) (a : ℕ) (r : Regs) → a < 2 ^ 64 → Extends m w → first_lack m access.Write a (am_size i.op) ≡ None → number_at w a (am_size i.op) ≡ number_at m a (am_size i.op)
    → Same m w (do_atomic_at i a r m) (do_atomic_at i a r w)
updates-same m w i a r h e none number =
    let n = am_size i.op in
    let v = am_result i.op (number_at m a n) (reg r i.rs2) in
    subst (λ x. Same m w (do_atomic_at i a r m) (outcome (gives r i.rd (old_value i.op x)) (put_number w a n (am_result i.op x (reg r i.rs2))) On)) (sym number)
    (record { regs = refl; stop = refl; pages = put-extends m w a n v e; others = λ x k. put-left m w access.Write a n v x h (am-small i.op) none k; kept = λ x k. put-kept m w a n v x k })

abbrev atomic_end : Bool → Bool → Bool → AmIns → Regs → Memory → Outcome
atomic_end t b c i r m =
    if t then (if b || c then outcome r m (Fault (record { page = address i r / 4096; access = access.Write })) else do_atomic_at i (address i r) r m) else outcome r m Misaligned

lacking-same : (m w : Memory) (acc : Access) (p : ℕ) (b : Bool) → lacks m acc p ≡ b → page_at w p ≡ page_at m p → lacks w acc p ≡ b
lacking-same m w acc p b h e = ap (lacks_in acc) e ∙ h

-- a page that is known to lack a right, or that has both
page-is : (m w : Memory) (i : AmIns) (r : Regs) (b c : Bool) → Extends m w → lacks m access.Read (address i r / 4096) ≡ b → lacks m access.Write (address i r / 4096) ≡ c
    → Known m w (atomic_end true b c i r m).stop → page_at w (address i r / 4096) ≡ page_at m (address i r / 4096)
page-is m w i r true c e f g known = known (record { page = address i r / 4096; access = access.Write }) refl
page-is m w i r false true e f g known = known (record { page = address i r / 4096; access = access.Write }) refl
page-is m w i r false false e f g known = same-page m w access.Read (address i r / 4096) e f

end-same : (m w : Memory) (i : AmIns) (r : Regs) (b c : Bool) → address i r % am_size i.op ≡ 0 → Extends m w
    → lacks m access.Read (address i r / 4096) ≡ b → lacks m access.Write (address i r / 4096) ≡ c → Same m w (atomic_end true b c i r m) (atomic_end true b c i r w)
end-same m w i r true c z e f g = nothing-new m w r _ e
end-same m w i r false true z e f g = nothing-new m w r _ e
end-same m w i r false false z e f g =
    let a = address i r in
    let n = am_size i.op in
    let h = address-small i r in
    let reads = aligned-has m access.Read a n (is-size i.op) z h f in
    let same = read-same m w access.Read a n h (am-small i.op) e (λ l q. absurd (some-lack l (sym q ∙ reads))) in
    updates-same m w i a r h e (aligned-has m access.Write a n (is-size i.op) z h g) (same.number reads)
  where
    some-lack : (l : Lack) → ◌≡◌ {A = Option Lack} (Some l) None → ⊥
    some-lack l q = cc

by-tests : (m w : Memory) (i : AmIns) (r : Regs) (t b c : Bool) → eqb (address i r % am_size i.op) 0 ≡ t → Extends m w
    → lacks m access.Read (address i r / 4096) ≡ b → lacks m access.Write (address i r / 4096) ≡ c → Known m w (atomic_end t b c i r m).stop
    → Same m w (atomic_end t b c i r m) (atomic_end t (lacks w access.Read (address i r / 4096)) (lacks w access.Write (address i r / 4096)) i r w)
by-tests m w i r true b c z e f g known =
    let p = address i r / 4096 in
    let page = page-is m w i r b c e f g known in
    let zero-is : address i r % am_size i.op ≡ 0 = grind (arith, nat_tests, z) in
    subst (λ x. Same m w (atomic_end true b c i r m) (atomic_end true x (lacks w access.Write p) i r w)) (sym (lacking-same m w access.Read p b f page))
    (subst (λ x. Same m w (atomic_end true b c i r m) (atomic_end true b x i r w)) (sym (lacking-same m w access.Write p c g page)) (end-same m w i r b c zero-is e f g))
by-tests m w i r false b c z e f g known = nothing-new m w r Misaligned e

am-by : (m w : Memory) (i : AmIns) (r : Regs) (t : Bool) → Extends m w
    → Known m w (if t then do_atomic i r m else outcome (do_arith i r) m On).stop
    → Same m w (if t then do_atomic i r m else outcome (do_arith i r) m On) (if t then do_atomic i r w else outcome (do_arith i r) w On)
am-by m w i r true e known =
    let p = address i r / 4096 in
    let t = eqb (address i r % am_size i.op) 0 in
    subst (λ x. Same m w (do_atomic i r m) (atomic_end x (lacks w access.Read p) (lacks w access.Write p) i r w)) refl
    (by-tests m w i r t (lacks m access.Read p) (lacks m access.Write p) refl e refl refl known)
am-by m w i r false e known = nothing-new m w (do_arith i r) On e

am-same : (m w : Memory) (i : Option AmIns) (r : Regs) → Extends m w → Known m w (execute_am i r m).stop → Same m w (execute_am i r m) (execute_am i r w)
unfolding do_am
am-same m w None r e known = nothing-new m w r _ e
am-same m w (Some i) r e known = am-by m w i r (is_atomic i.op) e known

any-same : (m w : Memory) (f : Option Form) (x : ℕ) (r : Regs) → Extends m w → Known m w (execute_any f x r m).stop → Same m w (execute_any f x r m) (execute_any f x r w)
any-same m w None x r e known = am-same m w (am_decoded x) r e known
any-same m w (Some form) x r e known = execute-same m w form r e known

fetch-same : (m w : Memory) (f : Result ℕ Lack) (r : Regs) → Extends m w → Known m w (after_fetch f r m).stop → Same m w (after_fetch f r m) (after_fetch f r w)
fetch-same m w (Err l) r e known = record { regs = refl; stop = refl; pages = e; others = λ p k. refl; kept = λ p k. k }
fetch-same m w (Ok x) r e known = any-same m w (decoded x) x r e known

fetched-same : (m w : Memory) (r : Regs) → r.pc < 2 ^ 64 → Extends m w → Known m w (after_fetch (fetched m r.pc) r m).stop → fetched w r.pc ≡ fetched m r.pc
fetched-same m w r h e known =
    let fault : (l : Lack) → first_lack m access.Exec r.pc 4 ≡ Some l → page_at w l.page ≡ page_at m l.page = λ l q. known l (ap (λ o. (after_fetch (read_unless o (number_at m r.pc 4)) r m).stop) q) in
    read-is m w access.Exec r.pc 4 _ refl (read-same m w access.Exec r.pc 4 h (lit≤ tt) e fault)

by-pc : (m w : Memory) (r : Regs) (b : Bool) → r.pc < 2 ^ 64 → Extends m w → Known m w (cond b (after_fetch (fetched m r.pc) r m) (outcome r m Misaligned)).stop
    → Same m w (cond b (after_fetch (fetched m r.pc) r m) (outcome r m Misaligned)) (cond b (after_fetch (fetched w r.pc) r w) (outcome r w Misaligned))
by-pc m w r true h e known = subst (λ f. Same m w (after_fetch (fetched m r.pc) r m) (after_fetch f r w)) (sym (fetched-same m w r h e known)) (fetch-same m w (fetched m r.pc) r e known)
by-pc m w r false h e known = record { regs = refl; stop = refl; pages = e; others = λ p k. refl; kept = λ p k. k }

pub instr-same : (r : Regs) (m w : Memory) → r.pc < 2 ^ 64 → Extends m w → FaultIsKnown r m w → DoesTheSame r m w
unfolding instr
instr-same r m w h e known =
    let s = by-pc m w r (eqb (r.pc % 4) 0) h e known in
    record { regs = s.regs; stop = s.stop; pages = s.pages; others = s.others; kept = s.kept }
