-- Fetch of an Answer lessens the work. One with the table's rights takes no right from the mirror, since the table covers the mirror; one with others counts all that it may
-- take; an overtaken one counts the miss to which its worker goes back; an empty one ends its request.
use Rattle.request_book.specs.declared.ReqState.TheVariants as States
use Rattle.hybrid_laws.proofs.fetch.AnswerKeeps.{found}
use Rattle.hybrid_laws.proofs.maps.Reading.{first-of, sum-take}
use Rattle.hybrid_model.specs.Coherence.{AnswerIsFor, MirrorCovered, OfProcess}
use Rattle.hybrid_model.specs.Fetch.{fetch_from}
use Rattle.hybrid_model.specs.Copy.{is_uncopied}
use Rattle.hybrid_model.specs.Fetch.{fetch_empty, fetch_row, installed}
use Rattle.hybrid_model.specs.Pairs.{Here}
use Rattle.hybrid_model.specs.Rings.{ring, with_ring}
use Rattle.hybrid_model.specs.Sides.{LinuxSide, Row, Service, looked_up, serves, service_of, with_state}
use Rattle.hybrid_model.specs.Tallies.{Reads}
use Rattle.ikc_ring.specs.declared.CallRequest.{CallRequest}
use Rattle.ikc_ring.specs.declared.Msg.TheVariants.{Answer}
use Rattle.ikc_ring.specs.declared.Msg.{Msg}
use Rattle.isa_model.specs.Memory.{allows}
use Rattle.kernel_model.specs.Progress.{fault_answer, is_ready, needed_access, next_kind, next_piece}
use Rattle.mck_word.specs.MapLaws.{at-put}
use Rattle.mck_word.specs.Maps.{Map, at, count, put}
use Rattle.mck_word.specs.declared.Access.{Access}
use Rattle.request_book.specs.declared.ReqState.{ReqState}
use Rattle.std.proofs.Common.{ap, arith, refl, sym, ◌∙◌}
use Rattle.std.proofs.lemmas.Bool.Decides.{nat_tests}
use Rattle.std.specs.Prelude.{Bool, List, None, Option, Some, cond, false, if◌then◌else◌, is_none, nat_lt, true, unwrap_or, ℕ, ◌+◌, ◌==◌, ◌∷◌, ◌≡◌, ◌≤◌}
use Rattle.work_laws.proofs.sides.AnyRank.{rank-most, rank-with_row, requests-any}
use Rattle.work_laws.proofs.sides.Rows.{rows-le}
use Rattle.work_laws.proofs.sides.Services.{count-stated, service-other, stated-row}
use Rattle.work_laws.specs.Weights.{any_change, of_late, of_message, of_request, of_side, of_state, rank_held, rank_of}

-- a row more never makes a request count more
pub rank-less : (ready a b c : Bool) → (a ≡ false → b ≡ false) → rank_held ready b c ≤ rank_held ready a c
rank-less ready true true c h = omega arith
rank-less false true false c h = omega arith
rank-less true true false true h = omega arith
rank-less true true false false h = omega arith
rank-less ready false true c h = absurd (let e = h refl in grind (arith, e))
rank-less ready false false c h = omega arith

-- a row with the rights that the table gives has each right that the mirror's row has
module _ (table mirror : Reads Row) (covered : MirrorCovered table mirror) (page : ℕ) (row now : Row) (there : table page ≡ Some now) (same : now.1.0 ≡ row.1.0) where
  keeps-right : (a : Access) → is_none (looked_up (mirror page) a) ≡ false → is_none (looked_up (Some row) a) ≡ false
  keeps-right a e = go (mirror page) refl e
    where
      has : (m : Row) → mirror page ≡ Some m → (b : Bool) → allows a m.1 ≡ b → is_none (if b then Some m else None) ≡ false → is_none (looked_up (Some row) a) ≡ false
      has m f false g u = absurd (grind (arith, u))
      has m f true g u =
          let c = covered page m f in
          let i = c.rights a g in
          let t : c.row ≡ now = (let z : Some c.row ≡ Some now = sym c.there ∙ there in ap (λ (o : Option Row). unwrap_or o now) z) in
          let r : allows a row.1 ≡ true = ap (λ (n : ℕ). allows a (record { 0 = n })) (sym same) ∙ ap (λ (x : Row). allows a x.1) (sym t) ∙ i in
          ap (λ b. is_none (if b then Some row else None)) r

      go : (o : Option Row) → mirror page ≡ o → is_none (looked_up o a) ≡ false → is_none (looked_up (Some row) a) ≡ false
      go None f u = absurd (grind (arith, u))
      go (Some m) f u = has m f (allows a m.1) refl u

module _ (p : ℕ) (h : Here) (ring_number : ℕ → ℕ) (k : OfProcess p h.side h.node h.workers ring_number) (few : count h.side.book.rows ≤ 16) (r w page number : ℕ) (ms : List Msg) where
  abbrev l : LinuxSide
  l = h.side.linux

  abbrev rest : List (List Msg)
  rest = with_ring r ms h.side.to_linux

  abbrev weight : Option Row → ℕ
  weight o = of_message h.workers l.cleared (at h.side.lwk.table) (Answer w page number o)

  -- the request that the worker serves
  module _ (q : ℕ) (call : CallRequest) (serving : at l.workers w ≡ Some q) (is : at h.side.book.rows q ≡ Some (States.Faulted, call)) where
    abbrev x : Service
    x = service_of l.services q

    serves-it : serves l w ≡ q
    serves-it = ap (λ (o : Option ℕ). unwrap_or o 0) serving

    module _ (row : Row) (first : ring r h.side.to_linux ≡ Answer w page number (Some row) ∷ ms) where
      -- the worker goes on, with that mirror
      abbrev gone_on : Map Row → ℕ
      gone_on mirror = of_side h.workers h.node.files (record h.side { linux = record l { mirror = mirror }; book = with_state h.side.book q States.Held; to_linux = rest })

      taken : of_side h.workers h.node.files (record h.side { to_linux = rest }) + weight (Some row) ≡ of_side h.workers h.node.files h.side
      taken = let t = sum-take (of_message h.workers l.cleared (at h.side.lwk.table)) r (Answer w page number (Some row)) ms h.side.to_linux first in omega (arith, t)

      dropped : nat_lt number l.cleared ≡ true → gone_on l.mirror + 1 ≤ of_side h.workers h.node.files h.side
      dropped old =
          let f = of_request h.node.files l in
          let a = stated-row f f h.side.book q States.Faulted States.Held call is (λ j u n g. refl) in
          let b = rank-most (is_ready (next_kind h.node.files x.progress)) (is_none (looked_up (at l.mirror (next_piece x.progress).page) (needed_access x.progress))) (is_uncopied (at l.pins x.worker)) in
          let m : weight (Some row) ≡ 11 = ap (λ b. cond b 11 (3 + of_late (at h.side.lwk.table page) row)) old in
          let t = taken in
          omega (arith, a, b, t, m)

      -- a row that may take rights away
      late : nat_lt number l.cleared ≡ false → of_late (at h.side.lwk.table page) row ≡ any_change → gone_on (put l.mirror page row) + 1 ≤ of_side h.workers h.node.files h.side
      late new other =
          let rows' = (with_state h.side.book q States.Held).rows in
          let n = count-stated States.Held q h.side.book.rows in
          let a = requests-any h.node.files h.node.files l (record l { mirror = put l.mirror page row }) h.side.book.rows rows' (omega (arith, n)) few in
          let m : weight (Some row) ≡ 3 + any_change = ap (λ b. cond b 11 (3 + of_late (at h.side.lwk.table page) row)) new ∙ ap (λ n. 3 + n) other in
          let t = taken in
          omega (arith, a, t, m)

      -- a row with the table's rights
      module _ (now : Row) (there : at h.side.lwk.table page ≡ Some now) (same : now.1.0 ≡ row.1.0) where
        abbrev l' : LinuxSide
        l' = record l { mirror = put l.mirror page row }

        -- what a look-up finds then
        found-then : (j : ℕ) (a : Access) → is_none (looked_up (at l.mirror j) a) ≡ false → is_none (looked_up (at l'.mirror j) a) ≡ false
        found-then j a e = ap (λ o. is_none (looked_up o a)) (at-put l.mirror page row j) ∙ go (j == page) refl
          where
            go : (b : Bool) → (j == page) ≡ b → is_none (looked_up (cond b (Some row) (at l.mirror j)) a) ≡ false
            go false f = e
            go true f =
                let g : j ≡ page = grind (arith, nat_tests, f) in
                keeps-right (at h.side.lwk.table) (at l.mirror) k.covered.mirror_rows page row now there same a (ap (λ (i : ℕ). is_none (looked_up (at l.mirror i) a)) (sym g) ∙ e)

        less : (j : ℕ) (u : ReqState × CallRequest) → at h.side.book.rows j ≡ Some u → of_request h.node.files l' (j, u) ≤ of_request h.node.files l (j, u)
        less j (States.Held, c) e =
            let y = service_of l.services j in
            let a = rank-less (is_ready (next_kind h.node.files y.progress)) (is_none (looked_up (at l.mirror (next_piece y.progress).page) (needed_access y.progress))) (is_none (looked_up (at l'.mirror (next_piece y.progress).page) (needed_access y.progress))) (is_uncopied (at l.pins y.worker))
            (found-then (next_piece y.progress).page (needed_access y.progress)) in
            omega (arith, a)
        less j (States.Posted, c) e = omega arith
        less j (States.Waiting, c) e = omega arith
        less j (States.Faulted, c) e = omega arith
        less j (States.Parked, c) e = omega arith
        less j (States.Ended, c) e = omega arith
        less j (States.Replied, c) e = omega arith

        -- its own request has the row
        own : rank_of h.node.files x (at l'.pins) (at l'.mirror) ≤ 4
        own =
            let n = first-of (AnswerIsFor (at l.workers) (at l.services)) r (Answer w page number (Some row)) ms h.side.to_linux first k.served.answer_for in
            let i : n.next.number ≡ q = ap (λ (o : Option ℕ). unwrap_or o 0) (sym n.next.serves ∙ serving) in
            let g : (next_piece x.progress).page ≡ page = ap (λ (j : ℕ). (next_piece (service_of l.services j).progress).page) (sym i) ∙ n.next.page_is in
            let a : needed_access x.progress ≡ n.access = ap (λ (j : ℕ). needed_access (service_of l.services j).progress) (sym i) ∙ n.next.access_is in
            let y : (page == page) ≡ true = grind (arith, nat_tests) in
            let z : at l'.mirror (next_piece x.progress).page ≡ Some row = ap (at l'.mirror) g ∙ at-put l.mirror page row page ∙ ap (λ b. cond b (Some row) (at l.mirror page)) y in
            let v : is_none (looked_up (at l'.mirror (next_piece x.progress).page) (needed_access x.progress)) ≡ false = (λ j. is_none (looked_up (z j) (a j))) ∙ ap (λ b. is_none (if b then Some row else None)) (n.right row refl) in
            let m = rank-with_row (is_ready (next_kind h.node.files x.progress)) (is_uncopied (at l.pins x.worker)) in
            let e = ap (λ b. rank_held (is_ready (next_kind h.node.files x.progress)) b (is_uncopied (at l.pins x.worker))) v in
            omega (arith, m, e)

        current : nat_lt number l.cleared ≡ false → gone_on (put l.mirror page row) + 1 ≤ of_side h.workers h.node.files h.side
        current new =
            let f = of_request h.node.files l' in
            let a = stated-row f f h.side.book q States.Faulted States.Held call is (λ j u n g. refl) in
            let b = rows-le (of_request h.node.files l') (of_request h.node.files l) h.side.book.rows less in
            let d = own in
            let y : (now.1.0 == row.1.0) ≡ true = grind (arith, nat_tests, same) in
            let m : weight (Some row) ≡ 3 = ap (λ b. cond b 11 (3 + of_late (at h.side.lwk.table page) row)) new ∙ ap (λ o. 3 + of_late o row) there ∙ ap (λ b. 3 + cond b 0 any_change) y in
            let t = taken in
            omega (arith, a, b, d, t, m)

      by-age : (b : Bool) → nat_lt number l.cleared ≡ b → gone_on (installed b l.mirror page row) + 1 ≤ of_side h.workers h.node.files h.side
      by-age true e = dropped e
      by-age false e = by-table (at h.side.lwk.table page) refl
        where
          by-rights : (now : Row) → at h.side.lwk.table page ≡ Some now → (b : Bool) → (now.1.0 == row.1.0) ≡ b → gone_on (put l.mirror page row) + 1 ≤ of_side h.workers h.node.files h.side
          by-rights now there true f = current now there (grind (arith, nat_tests, f)) e
          by-rights now there false f = late e (ap (λ o. of_late o row) there ∙ ap (λ b. cond b 0 any_change) f)

          by-table : (o : Option Row) → at h.side.lwk.table page ≡ o → gone_on (put l.mirror page row) + 1 ≤ of_side h.workers h.node.files h.side
          by-table None there = late e (ap (λ o. of_late o row) there)
          by-table (Some now) there = by-rights now there (now.1.0 == row.1.0) refl

      pub row-served : of_side h.workers h.node.files (fetch_from r (Answer w page number (Some row) ∷ ms) h).side + 1 ≤ of_side h.workers h.node.files h.side
      unfolding fetch_row
      row-served = rw serves-it (by-age (nat_lt number l.cleared) refl)

    -- an answer without a row
    abbrev ended : Service
    ended = record x { answer = fault_answer x.progress }

    pub empty-served : ring r h.side.to_linux ≡ Answer w page number None ∷ ms → of_side h.workers h.node.files (fetch_from r (Answer w page number None ∷ ms) h).side + 1 ≤ of_side h.workers h.node.files h.side
    unfolding fetch_empty
    empty-served first =
        let l2 : LinuxSide = record l { services = put l.services q ended } in
        let a = stated-row (of_request h.node.files l) (of_request h.node.files l2) h.side.book q States.Faulted States.Ended call is
        (λ j u f g. ap (λ (s : Service). of_state h.node.files s (at l.pins) (at l.mirror) u.0) (service-other l.services q ended j f)) in
        let t = sum-take (of_message h.workers l.cleared (at h.side.lwk.table)) r (Answer w page number None) ms h.side.to_linux first in
        let m = least (nat_lt number l.cleared) in
        rw serves-it (omega (arith, a, t, m))
      where
        least : (b : Bool) → 3 ≤ cond b 11 3
        least true = omega arith
        least false = omega arith

  pub row-fetched : (row : Row) → ring r h.side.to_linux ≡ Answer w page number (Some row) ∷ ms → of_side h.workers h.node.files (fetch_from r (Answer w page number (Some row) ∷ ms) h).side + 1 ≤ of_side h.workers h.node.files h.side
  row-fetched row first = let f = found p h.side h.node h.workers ring_number k r w page number (Some row) ms first in row-served f.0 f.1 f.2 f.3 row first

  pub empty-fetched : ring r h.side.to_linux ≡ Answer w page number None ∷ ms → of_side h.workers h.node.files (fetch_from r (Answer w page number None ∷ ms) h).side + 1 ≤ of_side h.workers h.node.files h.side
  empty-fetched first = let f = found p h.side h.node h.workers ring_number k r w page number None ms first in empty-served f.0 f.1 f.2 f.3 first
