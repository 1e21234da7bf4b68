-- What each kind of move keeps of a thread table.
use Rattle.kernel_model.specs.Nodes.{most_threads}
use Rattle.lwk_threads.proofs.Counts.{passing, passing-change, passing-cut, passing-none, passing-put}
use Rattle.lwk_threads.proofs.Lowest.{lowest-missing}
use Rattle.lwk_threads.specs.Threads.{IsTable, Threads, is_of, joined, live_threads, lowest_free_place, no_peers, no_threads, one_if, parted, kept_if, peers_in, stands_at, threads_of, with_peer, with_thread, without_peer, without_thread}
use Rattle.lwk_threads.specs.declared.Thread.{Thread}
use Rattle.lwk_threads.specs.declared.member_rows.Peers.{Peers}
use Rattle.mck_word.specs.Lists.{count_from, find_or, member}
use Rattle.mck_word.specs.MapLaws.{at-cut, at-none, at-put}
use Rattle.mck_word.specs.Maps.{Map, at, no_rows, put, values}
use Rattle.std.proofs.Common.{◌≡◌, ◌≢◌, ◌+◌, ◌<◌, ◌≤◌, ℕ, zero, suc, Bool, true, false, cond, eqb, not, List, [], ◌∷◌, length, Some, None, refl, sym, ap, subst, ◌∙◌, inl, inr, arith}
use Rattle.std.proofs.lemmas.List.{length-map}
use Rattle.std.proofs.lemmas.Bool.{cases_eq, eq-eqb, ne_eqb, true≢false}
use Rattle.std.specs.Prelude.{filter, is_some, max, map as map_list, replicate, slice_index_or, slice_set, ◌&&◌, ◌||◌}

-- no place is taken among those of no thread
none_taken : (n place : ℕ) → slice_index_or (replicate n false) place false ≡ false
none_taken zero place = refl
none_taken (suc n) zero = refl
none_taken (suc n) (suc place) = none_taken n place

taken-set : (xs : List Bool) (i j : ℕ) (b : Bool) → i < length xs → slice_index_or (slice_set xs i b) j false ≡ cond (eqb j i) b (slice_index_or xs j false)
taken-set xs i j b h =
    elim (cases_eq j i) [
      | inl e ↦ rw (eq-eqb j i e, e) (at_place xs i b h)
      | inr o ↦ rw (ne_eqb j i o) (elsewhere xs i j b o)
    ]
  where
    at_place : (xs : List Bool) (i : ℕ) (b : Bool) → i < length xs → slice_index_or (slice_set xs i b) i false ≡ b
    at_place [] i b h = absurd (omega arith)
    at_place (x ∷ xs) zero b h = refl
    at_place (x ∷ xs) (suc i) b h = at_place xs i b (omega arith)

    elsewhere : (xs : List Bool) (i j : ℕ) (b : Bool) → j ≢ i → slice_index_or (slice_set xs i b) j false ≡ slice_index_or xs j false
    elsewhere [] i j b o = refl
    elsewhere (x ∷ xs) zero zero b o = absurd (omega arith)
    elsewhere (x ∷ xs) zero (suc j) b o = refl
    elsewhere (x ∷ xs) (suc i) zero b o = refl
    elsewhere (x ∷ xs) (suc i) (suc j) b o = elsewhere xs i j b (omega arith)

-- a place that is taken is one of the list
taken-within : (xs : List Bool) (i : ℕ) → 1 ≤ one_if (slice_index_or xs i false) → i < length xs
taken-within [] i h = absurd (omega arith)
taken-within (x ∷ xs) zero h = omega arith
taken-within (x ∷ xs) (suc i) h = let rest = taken-within xs i h in omega arith

set-wide : (xs : List Bool) (i : ℕ) (b : Bool) → length (slice_set xs i b) ≡ length xs
set-wide [] i b = refl
set-wide (x ∷ xs) zero b = refl
set-wide (x ∷ xs) (suc i) b = let rest = set-wide xs i b in omega arith

back : (b : Bool) → not (eqb (one_if b) 0) ≡ b
back true = refl
back false = refl

module _ {S : Type 0} where
  -- the places of a process's threads are those at which some thread stands
  member-places : (p n : ℕ) (xs : List (Thread S)) → member n (map_list (λ (x : Thread S). x.place) (filter (is_of p) xs)) ≡ not (eqb (passing (stands_at p n) xs) 0)
  member-places p n [] = refl
  member-places p n (x ∷ xs) =
      let rest = member-places p n xs in
      elim (eqb x.pid.0 p) as (λ b. member n (map_list (λ (x : Thread S). x.place) (cond b (x ∷ filter (is_of p) xs) (filter (is_of p) xs))) ≡ not (eqb (length (cond (b && eqb x.place n) (x ∷ filter (stands_at p n) xs) (filter (stands_at p n) xs))) 0)) [
        | true ↦ elim (eqb x.place n) as (λ b. (b || member n (map_list (λ (x : Thread S). x.place) (filter (is_of p) xs))) ≡ not (eqb (length (cond b (x ∷ filter (stands_at p n) xs) (filter (stands_at p n) xs))) 0)) [
          | true ↦ rw (ne_eqb (suc (passing (stands_at p n) xs)) 0 (omega arith)) refl
          | false ↦ rest
        ]
        | false ↦ rest
      ]

  pub stands-le : (p n : ℕ) (xs : List (Thread S)) → passing (stands_at p n) xs ≤ passing (is_of p) xs
  stands-le p n [] = omega arith
  stands-le p n (x ∷ xs) =
      let rest = stands-le p n xs in
      elim (eqb x.pid.0 p) as (λ b. length (cond (b && eqb x.place n) (x ∷ filter (stands_at p n) xs) (filter (stands_at p n) xs)) ≤ length (cond b (x ∷ filter (is_of p) xs) (filter (is_of p) xs))) [
        | true ↦ elim (eqb x.place n) as (λ b. length (cond b (x ∷ filter (stands_at p n) xs) (filter (stands_at p n) xs)) ≤ suc (passing (is_of p) xs)) [ true ↦ omega arith | false ↦ omega arith ]
        | false ↦ rest
      ]

  -- the process of a live thread has a live thread
  pub one-lives : (t : Threads S) (n : ℕ) (x : Thread S) → at t.rows n ≡ Some x → 1 ≤ live_threads x.pid.0 t
  one-lives t n x there =
      let all = passing-cut (is_of x.pid.0) t.rows n x there in
      let one : one_if (eqb x.pid.0 x.pid.0) ≡ 1 = rw (eq-eqb x.pid.0 x.pid.0 refl) refl in
      omega arith

  module _ (t : Threads S) (groups : Map Peers) (h : IsTable t groups) where
    abbrev taken : ℕ → ℕ → Bool
    taken p n = slice_index_or (peers_in (at groups p)).taken n false

    abbrev places : ℕ → List ℕ
    places p = map_list (λ (x : Thread S). x.place) (threads_of p t)

    taken-member : (p n : ℕ) → taken p n ≡ member n (places p)
    taken-member p n = sym (back (taken p n)) ∙ ap (λ k. not (eqb k 0)) (h.placed p n) ∙ sym (member-places p n (values t.rows))

    -- the lowest place that isn't taken is the lowest that no thread has, and no thread has it
    pub lowest-taken : (p : ℕ) → find_or (λ n. not (taken p n)) (count_from 0 (peers_in (at groups p)).live) (peers_in (at groups p)).live ≡ lowest_free_place p t
    lowest-taken p =
        let lives = h.counted p ∙ sym (length-map (threads_of p t) (λ (x : Thread S). x.place)) in
        λ i. find_or (λ n. not (taken-member p n i)) (count_from 0 (lives i)) (lives i)

    pub lowest-free : (p : ℕ) → passing (stands_at p (lowest_free_place p t)) (values t.rows) ≡ 0
    lowest-free p =
        let n = lowest_free_place p t in
        let missing : not (eqb (passing (stands_at p n) (values t.rows)) 0) ≡ false = sym (member-places p n (values t.rows)) ∙ lowest-missing (places p) in
        zero_of (passing (stands_at p n) (values t.rows)) missing
      where
        zero_of : (k : ℕ) → not (eqb k 0) ≡ false → k ≡ 0
        zero_of k e = elim (cases_eq k 0) [ inl z ↦ z | inr o ↦ absurd (true≢false (sym (rw (ne_eqb k 0 o) refl) ∙ e)) ]

    module _ (x : Thread S) (absent : at t.rows x.tid.0 ≡ None) (few : live_threads x.pid.0 t < most_threads) (within : x.place < most_threads) (free : passing (stands_at x.pid.0 x.place) (values t.rows) ≡ 0) (known : x.pid.0 < max t.next (x.tid.0 + 1)) where
      abbrev grown : Peers
      grown = with_peer x.place (peers_in (at groups x.pid.0))

      peers-joined : (p : ℕ) → peers_in (at (joined x.pid.0 x.place groups) p) ≡ cond (eqb p x.pid.0) grown (peers_in (at groups p))
      peers-joined p = ap peers_in (at-put groups x.pid.0 grown p) ∙ elim (eqb p x.pid.0) as (λ b. peers_in (cond b (Some grown) (at groups p)) ≡ cond b grown (peers_in (at groups p))) [ true ↦ refl | false ↦ refl ]

      live-joined : (p : ℕ) → live_threads p (with_thread x t) ≡ live_threads p t + one_if (eqb x.pid.0 p)
      live-joined p = passing-put (is_of p) t.rows x.tid.0 x absent

      pub IsTable-enter : IsTable (with_thread x t) (joined x.pid.0 x.place groups)
      IsTable-enter = record {
        unused = λ n up. at-put t.rows x.tid.0 x n ∙ rw (ne_eqb n x.tid.0 (omega arith)) (h.unused n (omega arith));
        born = λ p up. let is = live-joined p in let was = h.born p (omega arith) in let none : one_if (eqb x.pid.0 p) ≡ 0 = rw (ne_eqb x.pid.0 p (omega arith)) refl in omega arith;
        few = λ p. let is = live-joined p in let was = h.few p in elim (cases_eq x.pid.0 p) [
          | inl e ↦ let one : one_if (eqb x.pid.0 p) ≡ 1 = rw (eq-eqb x.pid.0 p e) refl in let less = subst (λ q. live_threads q t < most_threads) e few in omega arith
          | inr o ↦ let none : one_if (eqb x.pid.0 p) ≡ 0 = rw (ne_eqb x.pid.0 p o) refl in omega arith
        ];
        wide = λ p. ap (λ (g : Peers). length g.taken) (peers-joined p) ∙ elim (eqb p x.pid.0) as (λ b. length (cond b grown (peers_in (at groups p))).taken ≡ most_threads) [
          | true ↦ set-wide (peers_in (at groups x.pid.0)).taken x.place true ∙ h.wide x.pid.0
          | false ↦ h.wide p
        ];
        counted = λ p. ap (λ (g : Peers). g.live) (peers-joined p) ∙ sym (live-joined p ∙ sym (elim (cases_eq p x.pid.0) [
          | inl e ↦ rw (eq-eqb p x.pid.0 e, eq-eqb x.pid.0 p (sym e)) (let was = h.counted x.pid.0 in let same = ap (λ q. live_threads q t) e in omega arith)
          | inr o ↦ rw (ne_eqb p x.pid.0 o, ne_eqb x.pid.0 p (λ e. o (sym e))) (let was = h.counted p in omega arith)
        ]));
        placed = λ p n. ap (λ (g : Peers). one_if (slice_index_or g.taken n false)) (peers-joined p) ∙ sym (passing-put (stands_at p n) t.rows x.tid.0 x absent ∙ sym (elim (cases_eq p x.pid.0) [
          | inr o ↦ rw (ne_eqb p x.pid.0 o, ne_eqb x.pid.0 p (λ e. o (sym e))) (let was = h.placed p n in omega arith)
          | inl e ↦ rw (eq-eqb p x.pid.0 e, eq-eqb x.pid.0 p (sym e)) (
              let set = ap one_if (taken-set (peers_in (at groups x.pid.0)).taken x.place n true (subst (λ k. x.place < k) (sym (h.wide x.pid.0)) within)) in
              let here = ap (λ q. passing (stands_at q n) (values t.rows)) e in
              set ∙ elim (cases_eq n x.place) [
                | inl s ↦ rw (eq-eqb n x.place s, eq-eqb x.place n (sym s)) (let none = ap (λ k. passing (stands_at x.pid.0 k) (values t.rows)) s ∙ free in omega arith)
                | inr d ↦ rw (ne_eqb n x.place d, ne_eqb x.place n (λ s. d (sym s))) (let was = h.placed x.pid.0 n in omega arith)
              ])
        ]));
      }

    module _ (n : ℕ) (x : Thread S) (there : at t.rows n ≡ Some x) where
      abbrev fallen : Peers
      fallen = without_peer x.place (peers_in (at groups x.pid.0))

      pub some-live : 1 ≤ (peers_in (at groups x.pid.0)).live
      some-live =
          let all = passing-cut (is_of x.pid.0) t.rows n x there in
          let one : one_if (eqb x.pid.0 x.pid.0) ≡ 1 = rw (eq-eqb x.pid.0 x.pid.0 refl) refl in
          let was = h.counted x.pid.0 in
          omega arith

      pub place-within : x.place < most_threads
      place-within =
          let all = passing-cut (stands_at x.pid.0 x.place) t.rows n x there in
          let one : one_if (stands_at x.pid.0 x.place x) ≡ 1 = rw (eq-eqb x.pid.0 x.pid.0 refl, eq-eqb x.place x.place refl) refl in
          let was = h.placed x.pid.0 x.place in
          let wide = h.wide x.pid.0 in
          let within = taken-within (peers_in (at groups x.pid.0)).taken x.place (omega arith) in
          omega arith

      abbrev left : Bool → ℕ → Peers
      left b p = cond (eqb p x.pid.0) (cond b no_peers fallen) (peers_in (at groups p))

      peers-parted : (p : ℕ) → peers_in (at (parted x.pid.0 x.place groups) p) ≡ left (eqb fallen.live 0) p
      peers-parted p = elim (eqb fallen.live 0) as (λ b. peers_in (at (kept_if b x.pid.0 fallen groups) p) ≡ left b p) [
        | true ↦ ap peers_in (at-cut groups x.pid.0 p) ∙ elim (eqb p x.pid.0) as (λ b. peers_in (cond b None (at groups p)) ≡ cond b no_peers (peers_in (at groups p))) [ true ↦ refl | false ↦ refl ]
        | false ↦ ap peers_in (at-put groups x.pid.0 fallen p) ∙ elim (eqb p x.pid.0) as (λ b. peers_in (cond b (Some fallen) (at groups p)) ≡ cond b fallen (peers_in (at groups p))) [ true ↦ refl | false ↦ refl ]
      ]

      live-parted : (p : ℕ) → live_threads p (without_thread n t) + one_if (eqb x.pid.0 p) ≡ live_threads p t
      live-parted p = passing-cut (is_of p) t.rows n x there

      counted-left : (p : ℕ) → (left (eqb fallen.live 0) p).live ≡ live_threads p (without_thread n t)
      counted-left p =
          let is = live-parted p in
          elim (cases_eq p x.pid.0) [
            | inr o ↦ rw (ne_eqb p x.pid.0 o) (let none : one_if (eqb x.pid.0 p) ≡ 0 = rw (ne_eqb x.pid.0 p (λ e. o (sym e))) refl in let was = h.counted p in omega arith)
            | inl e ↦ rw (eq-eqb p x.pid.0 e) (
                let one : one_if (eqb x.pid.0 p) ≡ 1 = rw (eq-eqb x.pid.0 p (sym e)) refl in
                let was = h.counted x.pid.0 in
                let same = ap (λ q. live_threads q t) e in
                let down : fallen.live ≡ live_threads p (without_thread n t) = omega arith in
                elim (cases_eq fallen.live 0) [
                  | inl z ↦ rw (eq-eqb fallen.live 0 z) (sym z ∙ down)
                  | inr s ↦ rw (ne_eqb fallen.live 0 s) down
                ])
          ]

      placed-left : (p k : ℕ) → one_if (slice_index_or (left (eqb fallen.live 0) p).taken k false) ≡ passing (stands_at p k) (values (without_thread n t).rows)
      placed-left p k =
          let is = passing-cut (stands_at p k) t.rows n x there in
          elim (cases_eq p x.pid.0) [
            | inr o ↦ rw (ne_eqb p x.pid.0 o) (let none : one_if (stands_at p k x) ≡ 0 = rw (ne_eqb x.pid.0 p (λ e. o (sym e))) refl in let was = h.placed p k in omega arith)
            | inl e ↦ elim (cases_eq fallen.live 0) [
              | inl z ↦
                  let none = counted-left p in
                  let gone : (left (eqb fallen.live 0) p).live ≡ 0 = rw (eq-eqb p x.pid.0 e, eq-eqb fallen.live 0 z) refl in
                  let less = stands-le p k (values (without_thread n t).rows) in
                  rw (eq-eqb p x.pid.0 e, eq-eqb fallen.live 0 z, none_taken 16 k) (omega arith)
              | inr s ↦ rw (eq-eqb p x.pid.0 e, ne_eqb fallen.live 0 s) (
                  let set = ap one_if (taken-set (peers_in (at groups x.pid.0)).taken x.place k false (subst (λ j. x.place < j) (sym (h.wide x.pid.0)) place-within)) in
                  let here = ap (λ q. passing (stands_at q k) (values t.rows)) e in
                  let was = h.placed x.pid.0 k in
                  set ∙ elim (cases_eq k x.place) [
                    | inl d ↦ rw (eq-eqb k x.place d) (
                        let one : one_if (stands_at p k x) ≡ 1 = rw (eq-eqb x.pid.0 p (sym e), eq-eqb x.place k (sym d)) refl in
                        let most = at_most (slice_index_or (peers_in (at groups x.pid.0)).taken k false) in
                        omega arith)
                    | inr d ↦ rw (ne_eqb k x.place d) (
                        let none : one_if (stands_at p k x) ≡ 0 = rw (eq-eqb x.pid.0 p (sym e), ne_eqb x.place k (λ s. d (sym s))) refl in
                        omega arith)
                  ])
            ]
          ]
        where
          at_most : (b : Bool) → one_if b ≤ 1
          at_most true = omega arith
          at_most false = omega arith

      pub IsTable-leave : IsTable (without_thread n t) (parted x.pid.0 x.place groups)
      IsTable-leave = record {
        unused = λ k up. at-cut t.rows n k ∙ elim (eqb k n) as (λ b. cond b None (at t.rows k) ≡ None) [ true ↦ refl | false ↦ h.unused k up ];
        born = λ p up. let is = live-parted p in let was = h.born p up in omega arith;
        few = λ p. let is = live-parted p in let was = h.few p in omega arith;
        wide = λ p. ap (λ (g : Peers). length g.taken) (peers-parted p) ∙ elim (eqb p x.pid.0) as (λ b. length (cond b (cond (eqb fallen.live 0) no_peers fallen) (peers_in (at groups p))).taken ≡ most_threads) [
          | true ↦ elim (eqb fallen.live 0) as (λ b. length (cond b no_peers fallen).taken ≡ most_threads) [ true ↦ refl | false ↦ set-wide (peers_in (at groups x.pid.0)).taken x.place false ∙ h.wide x.pid.0 ]
          | false ↦ h.wide p
        ];
        counted = λ p. ap (λ (g : Peers). g.live) (peers-parted p) ∙ counted-left p;
        placed = λ p k. ap (λ (g : Peers). one_if (slice_index_or g.taken k false)) (peers-parted p) ∙ placed-left p k;
      }

      -- a change of a thread that leaves its process and place
      pub IsTable-changed : (y : Thread S) → y.pid ≡ x.pid → y.place ≡ x.place → IsTable (record t { rows = put t.rows n y }) groups
      IsTable-changed y pid place = record {
        unused = λ k up. at-put t.rows n y k ∙ elim (cases_eq k n) [
          | inl e ↦ absurd (true≢false (ap is_some (sym there ∙ h.unused n (subst (λ j. t.next ≤ j) e up))))
          | inr o ↦ rw (ne_eqb k n o) (h.unused k up)
        ];
        born = λ p up. passing-change (is_of p) t.rows n x y there (ap (λ q. eqb q.0 p) pid) ∙ h.born p up;
        few = λ p. let is = passing-change (is_of p) t.rows n x y there (ap (λ q. eqb q.0 p) pid) in let was = h.few p in omega arith;
        wide = h.wide;
        counted = λ p. h.counted p ∙ sym (passing-change (is_of p) t.rows n x y there (ap (λ q. eqb q.0 p) pid));
        placed = λ p k. h.placed p k ∙ sym (passing-change (stands_at p k) t.rows n x y there (λ i. eqb (pid i).0 p && eqb (place i) k));
      }

  pub IsTable-none : IsTable (no_threads {S = S}) no_rows
  IsTable-none = record {
    unused = λ n up. at-none n;
    born = λ p up. passing-none (is_of {S = S} p);
    few = λ p. let none = passing-none (is_of {S = S} p) in omega arith;
    wide = λ p. rw (at-none {V = Peers} p) refl;
    counted = λ p. rw (at-none {V = Peers} p) (sym (passing-none (is_of {S = S} p)));
    placed = λ p n. rw (at-none {V = Peers} p, none_taken 16 n) (sym (passing-none (stands_at {S = S} p n)));
  }
