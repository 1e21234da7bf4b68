-- What is written twice is what was written last.
use Rattle.hybrid_model.specs.Sides.{Row}
use Rattle.hybrid_model.specs.Spaces.{bytes_in, written_back, written_rows}
use Rattle.isa_model.specs.Memory.{Memory}
use Rattle.mck_word.specs.MapLaws.{at-put, same_rows}
use Rattle.mck_word.specs.Maps.{Map, at, entries, put}
use Rattle.std.proofs.Common.{ap, arith, refl, sym, ◌∙◌}
use Rattle.std.specs.Prelude.{Bool, List, Option, Some, [], cond, false, true, ℕ, ◌==◌, ◌||◌, ◌∷◌, ◌≡◌}

module _ {V : Type 0} where
  pub put-twice : (m : Map V) (k : ℕ) (v w : V) → put (put m k v) k w ≡ put m k w
  put-twice m k v w = same_rows (put (put m k v) k w) (put m k w)
      (λ q. at-put (put m k v) k w q ∙ ap (cond (q == k) (Some w)) (at-put m k v q) ∙ twice (q == k) (at m q) ∙ sym (at-put m k w q))
    where
      twice : (b : Bool) (o : Option V) → cond b (Some w) (cond b (Some v) o) ≡ cond b (Some w) o
      twice true o = refl
      twice false o = refl

-- whether a row has the frame
abbrev is_of : ℕ → List (ℕ × Row) → Bool
is_of f [] = false
is_of f (e ∷ es) = f == e.1.0.0 || is_of f es

-- frames that agree but for those of the rows
abbrev AgreeBeside : List (ℕ × Row) → Map (List ℕ) → Map (List ℕ) → Type 0
AgreeBeside es a b = (f : ℕ) → is_of f es ≡ false → at a f ≡ at b f

put-beside : (e : ℕ × Row) (es : List (ℕ × Row)) (x : List ℕ) (a b : Map (List ℕ)) → AgreeBeside (e ∷ es) a b → AgreeBeside es (put a e.1.0.0 x) (put b e.1.0.0 x)
put-beside e es x a b h f n = at-put a e.1.0.0 x f ∙ go (f == e.1.0.0) refl ∙ sym (at-put b e.1.0.0 x f)
  where
    go : (c : Bool) → (f == e.1.0.0) ≡ c → cond c (Some x) (at a f) ≡ cond c (Some x) (at b f)
    go true k = refl
    go false k = h f (rw k n)

written-alike : (es : List (ℕ × Row)) (m : Memory) (a b : Map (List ℕ)) → AgreeBeside es a b → (f : ℕ) → at (written_rows es m a) f ≡ at (written_rows es m b) f
written-alike [] m a b h f = h f refl
written-alike (e ∷ es) m a b h f =
    let x = bytes_in (at m e.0) in
    written-alike es m (put a e.1.0.0 x) (put b e.1.0.0 x) (put-beside e es x a b h) f

written-beside : (es : List (ℕ × Row)) (m : Memory) (a : Map (List ℕ)) → AgreeBeside es (written_rows es m a) a
written-beside [] m a f n = refl
written-beside (e ∷ es) m a f n =
    let x = bytes_in (at m e.0) in
    go (f == e.1.0.0) refl n (written-beside es m (put a e.1.0.0 x) f) (at-put a e.1.0.0 x f)
  where
    go : (c : Bool) → (f == e.1.0.0) ≡ c → (c || is_of f es) ≡ false
        → (is_of f es ≡ false → at (written_rows es m (put a e.1.0.0 (bytes_in (at m e.0)))) f ≡ at (put a e.1.0.0 (bytes_in (at m e.0))) f)
        → at (put a e.1.0.0 (bytes_in (at m e.0))) f ≡ cond c (Some (bytes_in (at m e.0))) (at a f) → at (written_rows es m (put a e.1.0.0 (bytes_in (at m e.0)))) f ≡ at a f
    go true k n i p = absurd (grind (arith, n))
    go false k n i p = i n ∙ p

pub written-twice : (table : Map Row) (first last : Memory) (frames : Map (List ℕ)) → written_back table last (written_back table first frames) ≡ written_back table last frames
unfolding written_back
written-twice table first last frames =
    let es = entries table in
    same_rows (written_rows es last (written_rows es first frames)) (written_rows es last frames)
    (written-alike es last (written_rows es first frames) frames (written-beside es first frames))
