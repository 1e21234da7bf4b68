-- What the lists answer of the threads of a core and of a process.
use Rattle.hybrid_model.specs.Globals.{Coherent}
use Rattle.hybrid_model.specs.Pairs.{Pair}
use Rattle.kernel_model.specs.Nodes.{Thread, no_thread}
use Rattle.mck_word.specs.Maps.{at, keys}
use Rattle.mck_word.specs.declared.Tid.{Tid}
use Rattle.number_groups.specs.Groups.{Grouped, IsNext, NoneFrom}
use Rattle.number_groups.specs.Laws.{finds-next}
use Rattle.offer_laws.proofs.Small.{numbers-fit}
use Rattle.offer_laws.specs.Small.{Small}
use Rattle.pair_node.specs.Listed.{IsListed}
use Rattle.pair_node.specs.declared.members.Members.{Members}
use Rattle.pair_offers.specs.Seeking.{is_on_core, is_thread_of, next_such, thread_number}
use Rattle.std.proofs.Common.{ap, arith, refl, sym, ◌∙◌}
use Rattle.std.specs.Prelude.{Bool, IfSome, MatchOption, None, Option, Some, false, is_some, option_map, true, unwrap_or, ℕ, ◌%◌, ◌&&◌, ◌-◌, ◌<◌, ◌==◌, ◌^◌, ◌≡◌}
use Rattle.thread_laws.specs.Members.{is_in as is_of, process_at, process_in}

-- the next one of a group, as a thread and as a number
abbrev pub IsNextThread : Grouped → ℕ → ℕ → Option Tid → Type 0
IsNextThread m group from o = MatchOption o (NoneFrom m group from) (λ (t : Tid). IsNext m group from t.0)

numbered : (m : Grouped) (group from : ℕ) (o : Option Tid) → IsNextThread m group from o → MatchOption (option_map thread_number o) (NoneFrom m group from) (λ n. IsNext m group from n)
numbered m group from None h = h
numbered m group from (Some t) h = h

there-is : (o : Option Thread) → is_some (process_in o) ≡ is_some o
there-is None = refl
there-is (Some x) = refl

of-process-is : (p : ℕ) (o : Option Thread) → is_of p (process_in o) ≡ (is_some o && (unwrap_or o no_thread).process == p)
of-process-is p None = refl
of-process-is p (Some x) = refl

module _ (pair : Pair) (m : Members) (l : IsListed (process_at pair.node) pair.cores m) where
  pub next-on-core : (core from : ℕ) (o : Option Tid) → IsNextThread m.by_core.map core from o → option_map thread_number o ≡ next_such (is_on_core pair core) from (keys pair.node.threads)
  next-on-core core from o h = sym (
      finds-next m.by_core.map core from pair.node.threads (is_on_core pair core)
      (λ n. l.by_core core n ∙ ap (λ b. b && n % pair.cores == core) (there-is (at pair.node.threads n)))
      (option_map thread_number o) (numbered m.by_core.map core from o h))

  pub next-of-process : (p from : ℕ) (o : Option Tid) → IsNextThread m.by_process.map p from o → option_map thread_number o ≡ next_such (is_thread_of pair p) from (keys pair.node.threads)
  next-of-process p from o h = sym (
      finds-next m.by_process.map p from pair.node.threads (is_thread_of pair p)
      (λ n. l.by_process p n ∙ of-process-is p (at pair.node.threads n))
      (option_map thread_number o) (numbered m.by_process.map p from o h))

  module _ (c : Coherent pair) (s : Small pair) where
    small : (n : ℕ) (o : Option ℕ) → process_at pair.node n ≡ o → is_some o ≡ true → n < 2 ^ 32 - 1
    small n o e there = go (at pair.node.threads n) refl (sym (there-is (at pair.node.threads n)) ∙ ap is_some e ∙ there)
      where
        go : (y : Option Thread) → at pair.node.threads n ≡ y → is_some y ≡ true → n < 2 ^ 32 - 1
        go None f h = absurd (grind (arith, h))
        go (Some x) f h = let below = c.known.threads_below n x f in let fits = (numbers-fit pair c s).next in omega (arith, below, fits)

    -- one that is listed under a core lives
    left-true : (a b : Bool) → (a && b) ≡ true → a ≡ true
    left-true true b e = refl
    left-true false b e = e

    some-of : (p : ℕ) (o : Option ℕ) → is_of p o ≡ true → is_some o ≡ true
    some-of p None e = e
    some-of p (Some q) e = refl

    pub small-on-core : (core from : ℕ) (o : Option Tid) → IsNextThread m.by_core.map core from o → IfSome o (λ t. t.0 < 2 ^ 32 - 1)
    small-on-core core from None h = tt
    small-on-core core from (Some t) h =
        small t.0 (process_at pair.node t.0) refl (left-true (is_some (process_at pair.node t.0)) (t.0 % pair.cores == core) (sym (l.by_core core t.0) ∙ h.stands))

    pub small-of-process : (p from : ℕ) (o : Option Tid) → IsNextThread m.by_process.map p from o → IfSome o (λ t. t.0 < 2 ^ 32 - 1)
    small-of-process p from None h = tt
    small-of-process p from (Some t) h = small t.0 (process_at pair.node t.0) refl (some-of p (process_at pair.node t.0) (sym (l.by_process p t.0) ∙ h.stands))
