-- An instruction that stores into a doubleword only as an AMOADD.D leaves the old value and what it adds, modulo 2 ^ 64.
use Rattle.isa_model.specs.declared.atomics.AmOp.TheVariants as Ops
use Rattle.isa_model.specs.declared.names.Op.TheVariants as Names
use Rattle.atomic_laws.proofs.Doublewords.{number-other, number-own}
use Rattle.atomic_laws.specs.Additions.{Atomic, Bytes, HasWholePages, IsAmoadd, IsDoubleword, IsMore, Nothing, Writes, added, am_writes, doubleword, form_writes, is_add, is_on, meets, only_adds, word_writes, writes}
use Rattle.isa_model.specs.Arith.{add_of, store_size}
use Rattle.isa_model.specs.Atomics.{AmIns, am_decoded, am_result, am_size, is_atomic}
use Rattle.isa_model.specs.Decode.{decoded}
use Rattle.isa_model.specs.Instr.{Outcome, after_fetch, do_am, do_arith, do_atomic, do_atomic_at, do_b, do_i, do_j, do_r, do_s, do_u, execute, execute_am, execute_any, instr, outcome, store_of, wide_of}
use Rattle.isa_model.specs.Memory.{Memory, Page, fetched, first_lack, lacks, lacks_in, number_at, put_number, read_unless, stored_unless}
use Rattle.isa_model.specs.Registers.{reg}
use Rattle.isa_model.specs.declared.atomics.AmOp.{AmOp}
use Rattle.isa_model.specs.declared.forms.Form.TheVariants.{B, I, J, R, S, U}
use Rattle.isa_model.specs.declared.forms.Form.{Form}
use Rattle.isa_model.specs.declared.names.Op.{Op}
use Rattle.isa_model.specs.declared.stops.Lack.{Lack}
use Rattle.isa_model.specs.declared.stops.Stop.TheVariants.{Illegal, Misaligned, On, Fault as StopFault}
use Rattle.isa_model.specs.declared.stops.Stop.{Stop}
use Rattle.mck_word.specs.Maps.{at}
use Rattle.mck_word.specs.declared.Access.TheVariants.{Read as ReadAccess, Write as WriteAccess, Exec as ExecAccess}
use Rattle.mck_word.specs.declared.Regs.{Regs}
use Rattle.std.proofs.Common.{ap, arith, refl, subst, sym, ◌∙◌}
use Rattle.std.proofs.lemmas.Bool.Decides.{nat_tests}
use Rattle.std.specs.Prelude.{Bool, None, Ok, Option, Some, cond, false, if◌then◌else◌, length, not, true, ℕ, ℤ, ◌%◌, ◌&&◌, ◌+◌, ◌/◌, ◌==◌, ◌^◌, ◌||◌, ◌≡◌, ◌≤◌, ◌<◌}

pub more-none : (x y : ℕ) → y ≡ x → IsMore x 0 y
more-none x y e = ap (λ z. z % 2 ^ 64) (let f : y ≡ x + 0 = omega (arith, e) in f)

free-of : (b : Bool) → (not b || false) ≡ true → b ≡ false
free-of false e = refl
free-of true e = absurd (grind (arith, e))

some-size : (op : AmOp) → am_size op ≤ 8
some-size Ops.AddD = omega arith
some-size Ops.SwapD = omega arith
some-size Ops.XorD = omega arith
some-size Ops.OrD = omega arith
some-size Ops.AndD = omega arith
some-size Ops.MinD = omega arith
some-size Ops.MaxD = omega arith
some-size Ops.MinuD = omega arith
some-size Ops.MaxuD = omega arith
some-size _ = omega arith

some-bytes : (op : Op) → store_size op ≤ 8
some-bytes Names.Sb = omega arith
some-bytes Names.Sh = omega arith
some-bytes Names.Sw = omega arith
some-bytes _ = omega arith

module _ (a : ℕ) (is : IsDoubleword a) (m : Memory) (whole : HasWholePages m) where
  -- what an instruction writes that has this outcome and would write that
  abbrev done : Outcome → Writes → Writes
  done o w = cond (is_on o.stop) w Nothing

  abbrev Adds : Outcome → Writes → Type 0
  Adds o w = only_adds a (done o w) ≡ true → IsMore (doubleword m a) (added a (done o w)) (doubleword o.memory a)

  nothing : (r : Regs) (s : Stop) → Adds (outcome r m s) Nothing
  nothing r s = go (is_on s)
    where
      go : (b : Bool) → only_adds a (cond b Nothing Nothing) ≡ true → IsMore (doubleword m a) (added a (cond b Nothing Nothing)) (doubleword m a)
      go true e = more-none (doubleword m a) (doubleword m a) refl
      go false e = more-none (doubleword m a) (doubleword m a) refl

  -- ---- stores
  stored-adds : (r : Regs) (x n v : ℕ) (o : Option Lack) → x < 2 ^ 64 → n ≤ 8 → Adds (store_of r (stored_unless o m (put_number m x n v))) (Bytes x n)
  stored-adds r x n v None below size = λ e. more-none (doubleword m a) (doubleword (put_number m x n v) a) (number-other m a x n v is below size (free-of (meets a x n) e))
  stored-adds r x n v (Some l) below size = λ e. more-none (doubleword m a) (doubleword m a) refl

  do_s-adds : (op : Op) (b c : ℕ) (imm : ℤ) (r : Regs) → Adds (do_s op b c imm r m) (form_writes (S op b c imm) r)
  unfolding do_s
  do_s-adds op b c imm r = stored-adds r (add_of (reg r b) (wide_of imm)) (store_size op) (reg r c) (first_lack m WriteAccess (add_of (reg r b) (wide_of imm)) (store_size op)) (omega arith) (some-bytes op)

  -- ---- atomic operations
  present : (x : ℕ) → lacks m ReadAccess (x / 4096) ≡ false → (page : Page) × (at m (x / 4096) ≡ Some page) × (length page.bytes ≡ 4096)
  present x e = go (at m (x / 4096)) refl
    where
      go : (o : Option Page) → at m (x / 4096) ≡ o → (page : Page) × (at m (x / 4096) ≡ Some page) × (length page.bytes ≡ 4096)
      go None f = absurd (let k = sym e ∙ ap (lacks_in ReadAccess) f in grind (arith, k))
      go (Some page) f = (page, f, whole (x / 4096) page f)

  -- an AMOADD.D at the doubleword
  adding : (op : AmOp) (x v : ℕ) → is_add op ≡ true → a ≡ x → lacks m ReadAccess (x / 4096) ≡ false
      → IsMore (doubleword m a) v (doubleword (put_number m x (am_size op) (am_result op (number_at m x (am_size op)) v)) a)
  adding Ops.AddD x v e f there = subst (λ y. IsMore (doubleword m a) v (doubleword (put_number m y 8 ((number_at m y 8 + v) % 2 ^ 64)) a)) f own
    where
      own : IsMore (doubleword m a) v (doubleword (put_number m a 8 ((doubleword m a + v) % 2 ^ 64)) a)
      own =
          let page = present a (ap (λ y. lacks m ReadAccess (y / 4096)) f ∙ there) in
          let k = number-own m a ((doubleword m a + v) % 2 ^ 64) page.0 is page.1 page.2 in
          same (doubleword (put_number m a 8 ((doubleword m a + v) % 2 ^ 64)) a) (doubleword m a + v) k
        where
          same : (now sum : ℕ) → now ≡ sum % 2 ^ 64 % 2 ^ 64 → now % 2 ^ 64 ≡ sum % 2 ^ 64
          same now sum e = omega (arith, e)
  adding _ x v e f there = absurd (grind (arith, e))

  atomic-at : (i : AmIns) (r : Regs) → lacks m ReadAccess (reg r i.rs1 % 2 ^ 64 / 4096) ≡ false → Adds (do_atomic_at i (reg r i.rs1 % 2 ^ 64) r m) (Atomic i.op (reg r i.rs1 % 2 ^ 64) (reg r i.rs2))
  atomic-at i r there = go (is_add i.op) refl (x == a) refl
    where
      x : ℕ
      x = reg r i.rs1 % 2 ^ 64

      v : ℕ
      v = reg r i.rs2

      now : ℕ
      now = doubleword (put_number m x (am_size i.op) (am_result i.op (number_at m x (am_size i.op)) v)) a

      leaves : (not (meets a x (am_size i.op)) || false) ≡ true → IsMore (doubleword m a) 0 now
      leaves e = more-none (doubleword m a) now (number-other m a x (am_size i.op) (am_result i.op (number_at m x (am_size i.op)) v) is (omega arith) (some-size i.op) (free-of (meets a x (am_size i.op)) e))

      go : (b : Bool) → is_add i.op ≡ b → (c : Bool) → (x == a) ≡ c → (not (meets a x (am_size i.op)) || (b && c)) ≡ true → IsMore (doubleword m a) (cond (b && c) v 0) now
      go true e true f = λ g. adding i.op x v e (let h : a ≡ x = grind (arith, nat_tests, f) in h) there
      go true e false f = leaves
      go false e c f = leaves

  do_am-adds : (i : AmIns) (r : Regs) → Adds (do_am i r m) (am_writes (Some i) r)
  unfolding do_am
  do_am-adds i r = kind (is_atomic i.op)
    where
      x : ℕ
      x = reg r i.rs1 % 2 ^ 64

      fault : Outcome
      fault = outcome r m (StopFault (record { page = x / 4096; access = WriteAccess }))

      stays : (s : Stop) (w : Writes) → is_on s ≡ false → Adds (outcome r m s) w
      stays s w e = subst (λ b. only_adds a (cond b w Nothing) ≡ true → IsMore (doubleword m a) (added a (cond b w Nothing)) (doubleword m a)) (sym e) (λ f. more-none (doubleword m a) (doubleword m a) refl)

      rights : (b c : Bool) → lacks m ReadAccess (x / 4096) ≡ b → Adds (if b || c then fault else do_atomic_at i x r m) (Atomic i.op x (reg r i.rs2))
      rights true c e = stays (StopFault (record { page = x / 4096; access = WriteAccess })) (Atomic i.op x (reg r i.rs2)) refl
      rights false true e = stays (StopFault (record { page = x / 4096; access = WriteAccess })) (Atomic i.op x (reg r i.rs2)) refl
      rights false false e = atomic-at i r e

      aligned : (b : Bool) → Adds (if b then (if lacks m ReadAccess (x / 4096) || lacks m WriteAccess (x / 4096) then fault else do_atomic_at i x r m) else outcome r m Misaligned) (Atomic i.op x (reg r i.rs2))
      aligned true = rights (lacks m ReadAccess (x / 4096)) (lacks m WriteAccess (x / 4096)) refl
      aligned false = stays Misaligned (Atomic i.op x (reg r i.rs2)) refl

      kind : (b : Bool) → Adds (if b then do_atomic i r m else outcome (do_arith i r) m On) (cond b (Atomic i.op x (reg r i.rs2)) Nothing)
      kind true = aligned (x % am_size i.op == 0)
      kind false = nothing (do_arith i r) On

  -- ---- any instruction
  execute-adds : (form : Form) (r : Regs) → Adds (execute form r m) (form_writes form r)
  execute-adds (R op rd b c) r = nothing (do_r op rd b c r) On
  execute-adds (I op rd b imm) r = nothing (do_i op rd b imm r m).0 (do_i op rd b imm r m).1
  execute-adds (S op b c imm) r = do_s-adds op b c imm r
  execute-adds (B op b c imm) r = nothing (do_b op b c imm r).0 (do_b op b c imm r).1
  execute-adds (U op rd imm) r = nothing (do_u op rd imm r) On
  execute-adds (J op rd imm) r = nothing (do_j rd imm r).0 (do_j rd imm r).1

  any-adds : (o : Option Form) (w : ℕ) (r : Regs) → Adds (execute_any o w r m) (word_writes o w r)
  any-adds (Some form) w r = execute-adds form r
  any-adds None w r = am (am_decoded w)
    where
      am : (o : Option AmIns) → Adds (execute_am o r m) (am_writes o r)
      am None = nothing r Illegal
      am (Some i) = do_am-adds i r

  pub instr-adds : (r : Regs) → only_adds a (writes r m) ≡ true → IsMore (doubleword m a) (added a (writes r m)) (doubleword (instr r m).memory a)
  unfolding instr
  instr-adds r = at-pc (r.pc % 4 == 0)
    where
      w : ℕ
      w = number_at m r.pc 4

      fetch : (o : Option Lack) → Adds (after_fetch (read_unless o w) r m) (word_writes (decoded w) w r)
      fetch None = any-adds (decoded w) w r
      fetch (Some l) = λ e. more-none (doubleword m a) (doubleword m a) refl

      at-pc : (b : Bool) → Adds (if b then after_fetch (fetched m r.pc) r m else outcome r m Misaligned) (word_writes (decoded w) w r)
      at-pc true = fetch (first_lack m ExecAccess r.pc 4)
      at-pc false = λ e. more-none (doubleword m a) (doubleword m a) refl

-- ---- an AMOADD.D counts
read-word : (o : Option Lack) (n w : ℕ) → read_unless o n ≡ Ok w → (o ≡ None) × (n ≡ w)
read-word None n w e = (refl, (let k : n ≡ w = cc in k))
read-word (Some l) n w e = absurd (grind (arith, e))

pub counts : (a : ℕ) (r : Regs) (m : Memory) (i : AmIns) → IsDoubleword a → IsAmoadd a r m i → added a (writes r m) ≡ reg r i.rs2
unfolding instr do_am
counts a r m i is h =
    ap (λ s. added a (cond (is_on s) (word_writes (decoded w) w r) Nothing)) goes
    ∙ ap (λ z. added a (word_writes (decoded z) z r)) (read-word (first_lack m ExecAccess r.pc 4) w h.word h.fetch).1
    ∙ ap (λ o. added a (word_writes o h.word r)) h.plain
    ∙ ap (λ o. added a (am_writes o r)) h.atomic
    ∙ ap (λ o. added a (cond (is_atomic o) (Atomic o x (reg r i.rs2)) Nothing)) h.op
    ∙ ap (λ b. cond b (reg r i.rs2) 0) (let p = h.place in let k : (x == a) ≡ true = grind (arith, nat_tests, p) in k)
  where
    w : ℕ
    w = number_at m r.pc 4

    x : ℕ
    x = reg r i.rs1 % 2 ^ 64

    fault : Outcome
    fault = outcome r m (StopFault (record { page = x / 4096; access = WriteAccess }))

    whole : (x % am_size i.op == 0) ≡ true
    whole = ap (λ o. x % am_size o == 0) h.op ∙ (let e = is.0 in let p = h.place in let k : (x % 8 == 0) ≡ true = grind (arith, nat_tests, e, p) in k)

    goes : (instr r m).stop ≡ On
    goes =
        ap (λ b. (if b then after_fetch (fetched m r.pc) r m else outcome r m Misaligned).stop) (let e = h.aligned in let k : (r.pc % 4 == 0) ≡ true = grind (arith, nat_tests, e) in k)
        ∙ ap (λ f. (after_fetch f r m).stop) h.fetch
        ∙ ap (λ o. (execute_any o h.word r m).stop) h.plain
        ∙ ap (λ o. (execute_am o r m).stop) h.atomic
        ∙ ap (λ b. (if b then do_atomic i r m else outcome (do_arith i r) m On).stop) (ap is_atomic h.op)
        ∙ ap (λ b. (if b then (if lacks m ReadAccess (x / 4096) || lacks m WriteAccess (x / 4096) then fault else do_atomic_at i x r m) else outcome r m Misaligned).stop) whole
        ∙ ap (λ b. (if b || lacks m WriteAccess (x / 4096) then fault else do_atomic_at i x r m).stop) (ap (λ y. lacks m ReadAccess (y / 4096)) h.place ∙ h.reads)
        ∙ ap (λ b. (if b then fault else do_atomic_at i x r m).stop) (ap (λ y. lacks m WriteAccess (y / 4096)) h.place ∙ h.writes)
