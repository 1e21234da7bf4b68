-- The promise of a batch that begins, of more instructions, and of one more image.
use Rattle.isa_model.specs.Instr.{Outcome, outcome}
use Rattle.isa_model.specs.Memory.{Memory, Page, page_at}
use Rattle.isa_model.specs.declared.stops.Lack.{Lack}
use Rattle.isa_model.specs.declared.stops.Stop.{Stop}
use Rattle.isa_model.specs.declared.stops.Stop.TheVariants.{Fault, On}
use Rattle.mck_word.specs.declared.Regs.{Regs}
use Rattle.rv64i_user.proofs.SameRuns.{runs}
use Rattle.rv64i_user.specs.Runs.{count_on, instrs}
use Rattle.rv64i_user.specs.Seen.{Extends}
use Rattle.rv_quantum.proofs.Counts.{all-on, at-most, counts-add, counts-same, exact, executed, front, runs-add}
use Rattle.rv_quantum.proofs.Rows.{at-memory, left-in, left-out, same-number}
use Rattle.rv_quantum.specs.Images.{AreFresh, Seen, is_in, is_kept, last_page, left, memory, missing_page, pages_of, seen, seen_page, page_with}
use Rattle.rv_quantum.specs.Promised.{Agrees, Led, Promised, stopped_one}
use Rattle.rv_quantum.specs.declared.image.Image.{Image}
use Rattle.std.proofs.Common.{ap, arith, refl, subst, sym, ◌∙◌}
use Rattle.std.specs.Prelude.{Bool, List, None, Option, Some, [], cond, false, length, map, true, ℕ, ◌++◌, ◌+◌, ◌<◌, ◌≤◌, ◌==◌, ◌^◌, ◌∷◌, ◌≡◌}

-- ---- a batch that begins

left-agreed : (is : List Image) (m : Memory) (p : ℕ) → AreFresh (length is) is → Agrees (map seen is) m → left is p (page_at m p) ≡ page_at m p
left-agreed [] m p f a = refl
left-agreed (i ∷ is) m p f a = by-test (p == i.page) refl (left-agreed is m p f.1 a.1)
  where
    by-test : (b : Bool) → (p == i.page) ≡ b → left is p (page_at m p) ≡ page_at m p → cond b (last_page i) (left is p (page_at m p)) ≡ page_at m p
    by-test true e ih = ap (page_with i.rights) f.0 ∙ sym a.0 ∙ ap (page_at m) (sym (same-number p i.page e))
    by-test false e ih = ih

pub begun : (r : Regs) (is : List Image) → AreFresh (length is) is → Promised r 0 is r On
unfolding instrs count_on
begun r is f = λ m a. record { regs = refl; stop = refl; count = refl; pages = λ p. sym (left-agreed is m p f a) }

-- ---- one more image

agrees-both : (is : List Image) (i : Image) (m : Memory) → Agrees (map seen (is ++ i ∷ [])) m → Agrees (map seen is) m × (page_at m i.page ≡ seen_page (seen i))
agrees-both [] i m a = (tt, a.0)
agrees-both (x ∷ is) i m a = let b = agrees-both is i m a.1 in ((a.0, b.0), b.1)

left-added : (is : List Image) (i : Image) (p : ℕ) (o : Option Page) → left (is ++ i ∷ []) p o ≡ left is p (cond (p == i.page) (last_page i) o)
left-added [] i p o = refl
left-added (x ∷ is) i p o = ap (cond (p == x.page) (last_page x)) (left-added is i p o)

agreed-one : (i : Image) (m : Memory) (p : ℕ) → i.last ≡ i.first → page_at m i.page ≡ seen_page (seen i) → cond (p == i.page) (last_page i) (page_at m p) ≡ page_at m p
agreed-one i m p f a = by-test (p == i.page) refl
  where
    by-test : (b : Bool) → (p == i.page) ≡ b → cond b (last_page i) (page_at m p) ≡ page_at m p
    by-test true e = ap (page_with i.rights) f ∙ sym a ∙ ap (page_at m) (sym (same-number p i.page e))
    by-test false e = refl

pub one-more : (r : Regs) (n : ℕ) (is : List Image) (i : Image) (q : Regs) (s : Stop) → i.last ≡ i.first → Promised r n is q s → Promised r n (is ++ i ∷ []) q s
one-more r n is i q s f promised = λ m a.
    let b = agrees-both is i m a in
    let led = promised m b.0 in
    record {
      regs = led.regs;
      stop = led.stop;
      count = led.count;
      pages = λ p. led.pages p ∙ sym (left-added is i p (page_at m p) ∙ ap (left is p) (agreed-one i m p f b.1));
    }

-- ---- more instructions

pages-seen : (is : List Image) → map (λ (s : Seen). s.page) (map seen is) ≡ pages_of is
pages-seen [] = refl
pages-seen (i ∷ is) = ap (λ ps. i.page ∷ ps) (pages-seen is)

pub kept-same : (is js : List Image) (p : ℕ) → map seen js ≡ map seen is → is_kept js p ≡ is_kept is p
kept-same is js p e = ap (λ ps. is_in ps p) (sym (pages-seen js) ∙ ap (map (λ (s : Seen). s.page)) e ∙ pages-seen is)

left-some : (is : List Image) (p : ℕ) (g : Page) (o : Option Page) → left is p None ≡ Some g → left is p o ≡ Some g
left-some is p g o h = by-kept (is_kept is p) refl
  where
    by-kept : (b : Bool) → is_kept is p ≡ b → left is p o ≡ Some g
    by-kept true e = left-in is p o None e ∙ h
    by-kept false e = let none = left-out is p None e in absurd (cc)

-- instructions on the images: what they came to, and that a page which they lack has an image
pub record Piece (k : ℕ) (r : Regs) (is js : List Image) (q : Regs) (s : Stop) : Type 0 where
  pub did : instrs k r (memory is) ≡ outcome q (memory js) s
  pub count : count_on k r (memory is) + stopped_one s ≡ k
  pub same : map seen js ≡ map seen is
  pub fault : (l : Lack) → s ≡ Fault l → is_kept is l.page ≡ true

module _ (first : Regs) (n : ℕ) (r : Regs) (k : ℕ) (is js : List Image) (q : Regs) (s : Stop) (small : r.pc < 2 ^ 64) (piece : Piece k r is js q s) (m : Memory) (led : Led n first m is r On) where
  abbrev later : Memory
  later = (instrs n first m).memory

  extends : Extends (memory is) later
  extends = λ p g e. led.pages p ∙ left-some is p g (page_at m p) (sym (at-memory is p) ∙ e)

  there : (p : ℕ) → is_kept is p ≡ true → page_at later p ≡ page_at (memory is) p
  there p h = led.pages p ∙ left-in is p (page_at m p) None h ∙ sym (at-memory is p)

  known : (l : Lack) → (instrs k r (memory is)).stop ≡ Fault l → page_at later l.page ≡ page_at (memory is) l.page
  known l e = there l.page (piece.fault l (sym (ap (λ (o : Outcome). o.stop) piece.did) ∙ e))

  added : instrs (n + k) first m ≡ instrs k r later
  added = runs-add n k first m led.stop ∙ ap (λ x. instrs k x later) led.regs

  counted : count_on (n + k) first m + stopped_one s ≡ n + k
  counted =
      let a : count_on (n + k) first m ≡ n + count_on k r later = counts-add n k first m led.stop ∙ ap (λ x. n + count_on k x later) led.regs in
      let b = counts-same k r (memory is) later small extends known in
      let c = piece.count in
      omega (arith, a, b, c)

  pages : (p : ℕ) → page_at (instrs k r later).memory p ≡ left js p (page_at m p)
  pages p = by-kept (is_kept is p) refl
    where
      by-kept : (b : Bool) → is_kept is p ≡ b → page_at (instrs k r later).memory p ≡ left js p (page_at m p)
      by-kept true e =
          (runs k r (memory is) later small extends known).kept p (there p e)
          ∙ ap (λ (o : Outcome). page_at o.memory p) piece.did ∙ at-memory js p
          ∙ left-in js p None (page_at m p) (kept-same is js p piece.same ∙ e)
      by-kept false e =
          (runs k r (memory is) later small extends known).others p (at-memory is p ∙ left-out is p None e)
          ∙ led.pages p ∙ left-out is p (page_at m p) e ∙ sym (left-out js p (page_at m p) (kept-same is js p piece.same ∙ e))

  led-on : Led (n + k) first m js q s
  led-on =
      let t = runs k r (memory is) later small extends known in
      record {
        regs = ap (λ (o : Outcome). o.regs) added ∙ t.regs ∙ ap (λ (o : Outcome). o.regs) piece.did;
        stop = ap (λ (o : Outcome). o.stop) added ∙ t.stop ∙ ap (λ (o : Outcome). o.stop) piece.did;
        count = counted;
        pages = λ p. ap (λ (o : Outcome). page_at o.memory p) added ∙ pages p;
      }

pub grown : (first : Regs) (n : ℕ) (r : Regs) (k : ℕ) (is js : List Image) (q : Regs) (s : Stop) → r.pc < 2 ^ 64 → Promised first n is r On → Piece k r is js q s → Promised first (n + k) js q s
grown first n r k is js q s small promised piece = λ m a.
    led-on first n r k is js q s small piece m (promised m (subst (λ x. Agrees x m) piece.same a))

-- what a run came to, as far as it went on, and with the instruction that stopped
module _ (most : ℕ) (r q : Regs) (is js : List Image) (s : Stop) (c : ℕ) (did : outcome q (memory js) s ≡ instrs most r (memory is)) (went : c ≡ count_on most r (memory is)) (same : map seen js ≡ map seen is) where
  pub went-piece : Piece c r is js q On
  went-piece =
      let f : instrs c r (memory is) ≡ outcome q (memory js) On = ap (λ n. instrs n r (memory is)) went ∙ front most r (memory is) ∙ sym (ap (λ (o : Outcome). outcome o.regs o.memory On) did) in
      let all = all-on c r (memory is) (ap (λ (o : Outcome). o.stop) f) in
      record { did = f; count = omega (arith, all); same = same; fault = λ l e. absurd (cc) }

  number : c + stopped_one s ≡ executed most r (memory is)
  number = (λ i. went i + stopped_one (did i).stop)

  pub few : c + stopped_one s ≤ most
  few = let e = number in let b = at-most most r (memory is) in omega (arith, e, b)

  pub all-went : s ≡ On → c ≡ most
  all-went on = went ∙ all-on most r (memory is) (sym (ap (λ (o : Outcome). o.stop) did) ∙ on)

  pub stopped-piece : ((l : Lack) → s ≡ Fault l → is_kept is l.page ≡ true) → Piece (c + stopped_one s) r is js q s
  stopped-piece fault =
      let e = exact most r (memory is) in
      let n = ap (λ x. count_on x r (memory is)) number ∙ e.1 in
      record {
        did = ap (λ x. instrs x r (memory is)) number ∙ e.0 ∙ sym did;
        count = let w = went in omega (arith, n, w);
        same = same;
        fault = fault;
      }

missing-case : (b : Bool) (page p : ℕ) → cond b None (Some page) ≡ Some p → (b ≡ false) × (page ≡ p)
missing-case true page p e = absurd (cc)
missing-case false page p e = (refl, cc)

pub missing-new : (is : List Image) (s : Stop) (p : ℕ) → missing_page is s ≡ Some p → is_kept is p ≡ false
missing-new is (Fault l) p e = let b = missing-case (is_kept is l.page) l.page p e in ap (is_kept is) (sym b.1) ∙ b.0
missing-new is s p e = absurd (cc)

none-case : (b : Bool) (page : ℕ) → cond b None (Some page) ≡ None → b ≡ true
none-case true page e = refl
none-case false page e = absurd (cc)

pub missing-none : (is : List Image) (s : Stop) → missing_page is s ≡ None → (l : Lack) → s ≡ Fault l → is_kept is l.page ≡ true
missing-none is s e l f = none-case (is_kept is l.page) l.page (sym (ap (missing_page is) f) ∙ e)
