-- The lists of threads once one is put in or taken out.
use Rattle.mck_word.specs.Maps.{no_rows}
use Rattle.number_groups.specs.Groups.{is_in}
use Rattle.number_groups.specs.Laws.{in-none}
use Rattle.pair_node.specs.Listed.{IsListed, Owners, nobody, with_owner}
use Rattle.pair_node.specs.declared.members.Members.{Members}
use Rattle.std.proofs.Common.{ap, arith, refl, subst, sym, ◌∙◌}
use Rattle.std.proofs.lemmas.Bool.Decides.{nat_tests}
use Rattle.std.specs.Prelude.{Bool, None, Some, cond, false, is_some, not, true, ℕ, ◌%◌, ◌&&◌, ◌==◌, ◌||◌, ◌≡◌}
use Rattle.thread_laws.specs.Members.{is_in as is_of}

turned : (a b : ℕ) → (a == b) ≡ (b == a)
turned a b = go (a == b) refl (b == a) refl
  where
    go : (x : Bool) → (a == b) ≡ x → (y : Bool) → (b == a) ≡ y → x ≡ y
    go true e true f = refl
    go true e false f = absurd (grind (arith, nat_tests, e, f))
    go false e true f = absurd (grind (arith, nat_tests, e, f))
    go false e false f = refl

pub listed-same : (f g : Owners) (cores : ℕ) (m : Members) → ((u : ℕ) → g u ≡ f u) → IsListed f cores m → IsListed g cores m
listed-same f g cores m e l = subst (λ (h : Owners). IsListed h cores m) (λ i u. sym (e u) i) l

pub listed-kept : (f : Owners) (cores : ℕ) (m n : Members) → n.by_core.map ≡ m.by_core.map → n.by_process.map ≡ m.by_process.map → IsListed f cores m → IsListed f cores n
listed-kept f cores m n e d l = record {
  by_core = λ core t. ap (λ x. is_in x core t) e ∙ l.by_core core t;
  by_process = λ p t. ap (λ x. is_in x p t) d ∙ l.by_process p t;
}

pub listed-none : (cores : ℕ) (m : Members) → m.by_core.map ≡ no_rows → m.by_process.map ≡ no_rows → IsListed nobody cores m
listed-none cores m e d = record {
  by_core = λ core t. ap (λ x. is_in x core t) e ∙ in-none core t;
  by_process = λ p t. ap (λ x. is_in x p t) d ∙ in-none p t;
}

-- a test of the thread and one of the others
right-false : (b : Bool) → (b && false) ≡ false
right-false true = refl
right-false false = refl

right-true : (b : Bool) → (b && true) ≡ b
right-true true = refl
right-true false = refl

or-false : (b : Bool) → (b || false) ≡ b
or-false true = refl
or-false false = refl

never-both : (b : Bool) → (not b && b) ≡ false
never-both true = refl
never-both false = refl

module _ (f : Owners) (cores p t : ℕ) (m n : Members) (l : IsListed f cores m) where
  pub listed-with : f t ≡ None → ((core u : ℕ) → is_in n.by_core.map core u ≡ (core == t % cores && u == t || is_in m.by_core.map core u))
      → ((q u : ℕ) → is_in n.by_process.map q u ≡ (q == p && u == t || is_in m.by_process.map q u)) → IsListed (with_owner t (Some p) f) cores n
  listed-with absent e d = record {
    by_core = λ core u. e core u ∙ ap (λ b. core == t % cores && u == t || b) (l.by_core core u) ∙ core-is core u (u == t) refl;
    by_process = λ q u. d q u ∙ ap (λ b. q == p && u == t || b) (l.by_process q u) ∙ process-is q u (u == t) refl;
  }
    where
      core-is : (core u : ℕ) (b : Bool) → (u == t) ≡ b → (core == t % cores && b || is_some (f u) && u % cores == core) ≡ (is_some (cond b (Some p) (f u)) && u % cores == core)
      core-is core u true g =
          let same : u ≡ t = grind (arith, nat_tests, g) in
          ap (λ o. core == t % cores && true || is_some o && u % cores == core) (ap f same ∙ absent)
          ∙ or-false (core == t % cores && true) ∙ right-true (core == t % cores) ∙ turned core (t % cores) ∙ ap (λ j. j % cores == core) (sym same)
      core-is core u false g = ap (λ b. b || is_some (f u) && u % cores == core) (right-false (core == t % cores))

      process-is : (q u : ℕ) (b : Bool) → (u == t) ≡ b → (q == p && b || is_of q (f u)) ≡ is_of q (cond b (Some p) (f u))
      process-is q u true g =
          let same : u ≡ t = grind (arith, nat_tests, g) in
          ap (λ o. q == p && true || is_of q o) (ap f same ∙ absent) ∙ or-false (q == p && true) ∙ right-true (q == p) ∙ turned q p
      process-is q u false g = ap (λ b. b || is_of q (f u)) (right-false (q == p))

  pub listed-without : f t ≡ Some p → ((core u : ℕ) → is_in n.by_core.map core u ≡ (not (core == t % cores && u == t) && is_in m.by_core.map core u))
      → ((q u : ℕ) → is_in n.by_process.map q u ≡ (not (q == p && u == t) && is_in m.by_process.map q u)) → IsListed (with_owner t None f) cores n
  listed-without there e d = record {
    by_core = λ core u. e core u ∙ ap (λ b. not (core == t % cores && u == t) && b) (l.by_core core u) ∙ core-is core u (u == t) refl;
    by_process = λ q u. d q u ∙ ap (λ b. not (q == p && u == t) && b) (l.by_process q u) ∙ process-is q u (u == t) refl;
  }
    where
      core-is : (core u : ℕ) (b : Bool) → (u == t) ≡ b → (not (core == t % cores && b) && (is_some (f u) && u % cores == core)) ≡ (is_some (cond b None (f u)) && u % cores == core)
      core-is core u true g =
          let same : u ≡ t = grind (arith, nat_tests, g) in
          (λ i. not (right-true (core == t % cores) i) && (is_some ((ap f same ∙ there) i) && same i % cores == core))
          ∙ ap (λ b. not b && (t % cores == core)) (turned core (t % cores)) ∙ never-both (t % cores == core)
      core-is core u false g = ap (λ b. not b && (is_some (f u) && u % cores == core)) (right-false (core == t % cores))

      process-is : (q u : ℕ) (b : Bool) → (u == t) ≡ b → (not (q == p && b) && is_of q (f u)) ≡ is_of q (cond b None (f u))
      process-is q u true g =
          let same : u ≡ t = grind (arith, nat_tests, g) in
          (λ i. not (right-true (q == p) i) && is_of q ((ap f same ∙ there) i)) ∙ ap (λ b. not b && (p == q)) (turned q p) ∙ never-both (p == q)
      process-is q u false g = ap (λ b. not b && is_of q (f u)) (right-false (q == p))
