-- A row that is changed twice.
use Rattle.kernel_model.specs.Nodes.{Node, Process, Thread, change_process, change_thread, no_thread, thread_of}
use Rattle.mck_word.specs.MapLaws.{at-put, same_rows}
use Rattle.mck_word.specs.Maps.{Map, at, change, change_row, put}
use Rattle.std.proofs.Common.{ap, arith, refl, sym, ◌∙◌}
use Rattle.std.proofs.lemmas.Bool.Decides.{nat_tests}
use Rattle.std.specs.Prelude.{Bool, None, Option, Some, cond, false, true, unwrap_or, ℕ, ◌==◌, ◌≡◌}

module _ {V : Type 0} where
  put_twice : (m : Map V) (k : ℕ) (v w : V) → put (put m k v) k w ≡ put m k w
  put_twice m k v w = same_rows _ _ (λ q. at-put (put m k v) k w q ∙ ap (cond (q == k) (Some w)) (at-put m k v q) ∙ over (q == k) q ∙ sym (at-put m k w q))
    where
      over : (b : Bool) (q : ℕ) → cond b (Some w) (cond b (Some v) (at m q)) ≡ cond b (Some w) (at m q)
      over true q = refl
      over false q = refl

  at_put : (m : Map V) (k : ℕ) (v : V) → at (put m k v) k ≡ Some v
  at_put m k v = at-put m k v k ∙ (let e : (k == k) ≡ true = grind (arith, nat_tests) in ap (λ b. cond b (Some v) (at m k)) e)

  pub change_put : (m : Map V) (k : ℕ) (x : V) (f : V → V) → change (put m k x) k f ≡ put m k (f x)
  change_put m k x f = ap (change_row (put m k x) k f) (at_put m k x) ∙ put_twice m k x (f x)

  pub change_twice : (m : Map V) (k : ℕ) (f g : V → V) → change (change m k f) k g ≡ change m k (λ x. g (f x))
  change_twice m k f g = go (at m k) refl
    where
      go : (o : Option V) → at m k ≡ o → change (change_row m k f o) k g ≡ change_row m k (λ x. g (f x)) o
      go None e = ap (change_row m k g) e
      go (Some x) e = ap (change_row (put m k (f x)) k g) (at_put m k (f x)) ∙ put_twice m k (f x) (g (f x))

pub thread_twice : (node : Node) (t : ℕ) (f g : Thread → Thread) → change_thread t g (change_thread t f node) ≡ change_thread t (λ x. g (f x)) node
thread_twice node t f g = ap (λ (m : Map Thread). record node { threads = m }) (change_twice node.threads t f g)

pub process_twice : (node : Node) (p : ℕ) (f g : Process → Process) → change_process p g (change_process p f node) ≡ change_process p (λ x. g (f x)) node
process_twice node p f g = ap (λ (m : Map Process). record node { processes = m }) (change_twice node.processes p f g)

-- a thread that is changed by what the node shows of it
pub thread_known : (node : Node) (t : ℕ) (f : Thread → Thread → Thread) → change_thread t (f (thread_of node t)) node ≡ change_thread t (λ x. f x x) node
thread_known node t f = ap (λ (m : Map Thread). record node { threads = m }) (go (at node.threads t))
  where
    go : (o : Option Thread) → change_row node.threads t (f (unwrap_or o no_thread)) o ≡ change_row node.threads t (λ x. f x x) o
    go None = refl
    go (Some x) = refl
