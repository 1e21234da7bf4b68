-- Whole journals: by induction over their events, from what holds of each event.
use Rattle.kernel_model.specs.OneKernel as One
use Rattle.kernel_model.specs.Steps as OneSteps
use Rattle.hybrid_laws.proofs.calls.Last.{gone-after, lasting-after}
use Rattle.hybrid_laws.proofs.every.Linux.{holds_linux}
use Rattle.hybrid_laws.proofs.journal.NoStall.{no-dying, no-stall}
use Rattle.hybrid_laws.proofs.journal.Still.{and-true, live-there, parked, there-lives}
use Rattle.hybrid_laws.proofs.maps.Tests.{both}
use Rattle.hybrid_laws.specs.EventKinds.{is_of_linux}
use Rattle.hybrid_laws.specs.Journals.{Follows, gone, gone_in}
use Rattle.hybrid_laws.specs.Lasting.{Lasting}
use Rattle.hybrid_model.specs.Boot.{boot}
use Rattle.hybrid_model.specs.Claims.{Headline, Holds, Runs, WaitsForEver, replies}
use Rattle.hybrid_model.specs.Coherence.{is_live}
use Rattle.hybrid_model.specs.Events.{after, may}
use Rattle.hybrid_model.specs.Globals.{Coherent}
use Rattle.hybrid_model.specs.Images.{image}
use Rattle.hybrid_model.specs.Journals.{IsLegal, IsOver, images, may_all, state}
use Rattle.hybrid_model.specs.Pairs.{Pair, side_of}
use Rattle.hybrid_model.specs.Shown.{one}
use Rattle.hybrid_model.specs.Sides.{Book, no_book, state_in, state_of}
use Rattle.hybrid_model.specs.Tallies.{as_number}
use Rattle.hybrid_model.specs.declared.events.Event.{Event}
use Rattle.ikc_ring.specs.declared.CallRequest.{CallRequest}
use Rattle.job_model.specs.declared.image.Image.{Image}
use Rattle.job_model.specs.declared.job.Job.{Job}
use Rattle.kernel_model.specs.Nodes.{is_dying, is_living, is_there}
use Rattle.kernel_model.specs.declared.steps.Step.{Step}
use Rattle.mck_word.specs.Maps.{at}
use Rattle.request_book.specs.declared.ReqState.{ReqState}
use Rattle.std.proofs.Common.{ap, arith, inl, inr, refl, subst, sym, ◌∙◌}
use Rattle.std.proofs.lemmas.Bool.Decides.{nat_tests}
use Rattle.std.specs.Prelude.{Bool, List, None, Option, Some, [], false, is_none, nat_lt, true, ℕ, ◌&&◌, ◌++◌, ◌<◌, ◌∷◌, ◌≡◌, ◌≤◌, ◌⊎◌}

-- what holds of each event that may happen in a coherent state
abbrev pub EachEvent : Type 0
EachEvent = (pair : Pair) (e : Event) → Coherent pair → may pair e ≡ true → Holds pair e

-- the same of the events of the lightweight kernel
abbrev pub EachLwkEvent : Type 0
EachLwkEvent = (pair : Pair) (e : Event) → Coherent pair → is_of_linux e ≡ false → may pair e ≡ true → Holds pair e

pub each-event : EachLwkEvent → EachEvent
each-event lwk pair e c m = go (is_of_linux e) refl
  where
    go : (b : Bool) → is_of_linux e ≡ b → Holds pair e
    go true f = holds_linux pair c e f m
    go false f = lwk pair e c f m

-- runs one after the other
pub runs-append : (xs ys : List Step) (a b d : One.OneKernel) → Runs a xs b → Runs b ys d → Runs a (xs ++ ys) d
runs-append [] ys a b d r u = subst (λ (o : One.OneKernel). Runs o ys d) (sym r.leaves) u
runs-append (x ∷ xs) ys a b d r u =
    let m = both (OneSteps.may a x) (OneSteps.may_all (OneSteps.after a x) xs) r.may in
    let rest = runs-append xs ys (OneSteps.after a x) b d (record { may = m.1; leaves = r.leaves }) u in
    record { may = and-true (OneSteps.may a x) (OneSteps.may_all (OneSteps.after a x) (xs ++ ys)) m.0 rest.may; leaves = rest.leaves }

pub follows : EachEvent → (es : List Event) (pair : Pair) → Coherent pair → Lasting pair → may_all pair es ≡ true → Follows pair es
follows every [] pair c l m = record { coherent = c; lasting = l; simulated = record { may = refl; leaves = refl }; events = tt; replied = λ p q. omega arith }
follows every (e ∷ es) pair c l m =
    let a = both (may pair e) (may_all (after pair e) es) m in
    let h = every pair e c a.0 in
    let rest = follows every es (after pair e) h.coherent (lasting-after pair c e a.0 l) a.1 in
    record {
      coherent = rest.coherent;
      lasting = rest.lasting;
      simulated = runs-append (image pair e) (images (after pair e) es) (one pair) (one (after pair e)) (one (state pair (e ∷ es))) h.simulated rest.simulated;
      events = (h, rest.events);
      replied = λ p q. omega (arith, rest.replied p q, gone-after pair c e a.0 p q);
    }

-- ---- the end of a journal
gone-most : (o : Option (ReqState × CallRequest)) (q next : ℕ) → gone_in o q next ≤ 1
gone-most o q next = go (nat_lt q next && is_none o)
  where
    go : (b : Bool) → as_number b ≤ 1
    go true = omega arith
    go false = omega arith

-- a request that is still in the book where no event may happen waits for ever
waits-for-ever : (pair : Pair) → Coherent pair → Lasting pair → IsOver pair → (p q : ℕ) (r : ReqState × CallRequest) → at (side_of pair p).book.rows q ≡ Some r → WaitsForEver pair p q
waits-for-ever pair c l over p q r e =
    (parked pair c l over p there q live, living (there-lives pair.node p there))
  where
    live : is_live (state_of (side_of pair p).book q) ≡ true
    live = ap (λ o. is_live (state_in o)) e ∙ (c.whole p).answered.not_replied q r e

    there : is_there pair.node p ≡ true
    there = live-there pair c p q live

    living : (is_living pair.node p ≡ true) ⊎ (is_dying pair.node p ≡ true) → is_living pair.node p ≡ true
    living (inl a) = a
    living (inr a) = absurd (no-dying pair c l over p a)

-- a number that was given is gone, or waits for ever
pub answered-or-waits : (pair : Pair) → Coherent pair → Lasting pair → IsOver pair → (p q : ℕ) → q < (side_of pair p).book.next → (gone (side_of pair p) q ≡ 1) ⊎ WaitsForEver pair p q
answered-or-waits pair c l over p q below = go (at (side_of pair p).book.rows q) refl
  where
    go : (o : Option (ReqState × CallRequest)) → at (side_of pair p).book.rows q ≡ o → (gone (side_of pair p) q ≡ 1) ⊎ WaitsForEver pair p q
    go (Some r) e = inr (waits-for-ever pair c l over p q r e)
    go None e = inl (let a : nat_lt q (side_of pair p).book.next ≡ true = grind (arith, nat_tests, below) in (λ i. as_number (a i && is_none (e i))))

-- ---- from a beginning in which no number was given
pub record Begins (job : Job) (imgs : List Image) : Type 0 where
  pub boots : one (boot job imgs) ≡ One.boot job imgs
  pub coherent : Coherent (boot job imgs)
  pub lasting : Lasting (boot job imgs)
  pub first : (p : ℕ) → (side_of (boot job imgs) p).book ≡ no_book

pub headline : EachEvent → (job : Job) (imgs : List Image) (journal : List Event) → Begins job imgs → IsLegal job imgs journal → Headline job imgs journal
headline every job imgs journal b legal = record {
  boots = b.boots;
  coherent = f.coherent;
  simulated = subst (λ (o : One.OneKernel). Runs o (images (boot job imgs) journal) (one (state (boot job imgs) journal))) b.boots f.simulated;
  events = f.events;
  one_reply = λ p q. (let a = f.replied p q in let m = gone-most (at (side_of (state (boot job imgs) journal) p).book.rows q) q (side_of (state (boot job imgs) journal) p).book.next in omega (arith, a, m));
  answered = λ over p q some below. ended over p q some (answered-or-waits (state (boot job imgs) journal) f.coherent f.lasting over p q below);
  no_stall = no-stall (state (boot job imgs) journal) f.coherent f.lasting;
}
  where
    f : Follows (boot job imgs) journal
    f = follows every journal (boot job imgs) b.coherent b.lasting legal.1

    none-gone : (p q : ℕ) → 1 ≤ q → gone (side_of (boot job imgs) p) q ≡ 0
    none-gone p q some =
        let l : nat_lt q 1 ≡ false = grind (arith, nat_tests, some) in
        ap (λ (z : Book). gone_in (at z.rows q) q z.next) (b.first p) ∙ ap (λ x. as_number (x && is_none (at no_book.rows q))) l

    ended : IsOver (state (boot job imgs) journal) → (p q : ℕ) → 1 ≤ q → (gone (side_of (state (boot job imgs) journal) p) q ≡ 1) ⊎ WaitsForEver (state (boot job imgs) journal) p q
        → (replies (boot job imgs) journal p q ≡ 1) ⊎ WaitsForEver (state (boot job imgs) journal) p q
    ended over p q some (inr w) = inr w
    ended over p q some (inl g) = inl (let a = f.replied p q in let n = none-gone p q some in omega (arith, a, n, g))
