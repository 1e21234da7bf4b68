-- Steps of the chain.
use Rattle.mcexec_run.specs.Chain.{◌>>=◌, Fails, Gives, RoseAmong, fetched}
use Rattle.mck_report.specs.declared.status.Status.TheVariants.{HostFault, NoMemory}
use Rattle.mck_report.specs.declared.status.Status.{Status}
use Rattle.outside.specs.Outside.{Appends, Held, HostGoesOn, Rose}
use Rattle.std.proofs.Common.{◌≡◌, ℕ, List, [], ◌++◌, ◌∷◌, ◌+◌, ◌≤◌, Contains, Option, Some, None, Result, Ok, Err, arith, refl, sym, ◌∙◌, ap, add-one, length, length-append, get_or, map, zero, suc, ◌<◌}
use Rattle.std.proofs.Math.ListN.{get_or-append}
use Rattle.std.specs.List.{slice_get}

pub in_tail : {X : Type 0} (xs : List X) (y x : X) → Contains xs x → Contains (y ∷ xs) x
in_tail xs y x h = (h.0 + 1, omega arith, rw add-one h.2)

pub in_head : {X : Type 0} (xs : List X) (x : X) → Contains (x ∷ xs) x
in_head xs x = (0, omega arith, refl)

pub in_front : {X : Type 0} (xs ys : List X) (x : X) → Contains xs x → Contains (xs ++ ys) x
in_front xs ys x h = (h.0, omega (arith, length-append xs ys), get_or-append xs ys x h.0 h.1 ∙ h.2)

pub in_back : {X : Type 0} (xs ys : List X) (x : X) → Contains ys x → Contains (xs ++ ys) x
in_back [] ys x h = h
in_back (y ∷ xs) ys x h = in_tail (xs ++ ys) y x (in_back xs ys x h)

pub then_goes_on : {H : Type 0} (holds : H → Option Held) (faults : H → List ℕ → ℕ) (a b c : H) → HostGoesOn holds faults a b → HostGoesOn holds faults b c → HostGoesOn holds faults a c
then_goes_on holds faults a b c f s = record { told = s.told ∙ f.told; rises = λ name. omega (arith, f.rises name, s.rises name) }

-- a count that rose in the last part of the call rose in the call
pub rose_last : {H : Type 0} (faults : H → List ℕ → ℕ) (a b c : H) (names : List (List ℕ)) (name : List ℕ) → faults a name ≤ faults b name → Contains names name → Rose (faults b name) (faults c name) → RoseAmong faults a c names
rose_last faults a b c names name before among rose = (name, among, λ h. rose (omega arith))

-- what a fetch into nothing appends
pub appended : (found : Option (List ℕ)) (old new : List ℕ) → old ≡ [] → Appends found old new → fetched found ≡ Ok new
appended None old new e h = absurd h
appended (Some bytes) old new e h = ap (λ xs. Ok xs) (sym (h ∙ ap (λ xs. xs ++ bytes) e))

err_on : {A B : Type 0} (s : Status) (r : Result A Status) (f : A → Result B Status) → r ≡ Err s → (r >>= f) ≡ Err s
err_on s r f h = rw h refl

-- a step that fails fails the chain
pub fails_on : {A B : Type 0} (s : Status) (r : Result A Status) (f : A → Result B Status) → Fails s r → Fails s (r >>= f)
fails_on NoMemory r f h = tt
fails_on HostFault r f h = tt
fails_on s r f h = err_on _ r f h

pub fails_gives : {X A : Type 0} (view : X → A) (r : Result X Status) (found : Result A Status) (s : Status) → r ≡ Err s → Fails s found → Gives view r found
fails_gives view r found s e h = rw e h

-- what an index gives
pub got : {X : Type 0} (xs : List X) (i : ℕ) (x : X) → i < length xs → x ≡ get_or xs i x → slice_get xs i ≡ Some x
got [] i x h e = absurd (omega arith)
got (y ∷ xs) zero x h e = ap (λ z. Some z) (sym e)
got (y ∷ xs) (suc i) x h e = got xs i x (omega arith) e

pub contains_map : {X : Type 0} (f : X → List ℕ) (xs : List X) (i : ℕ) (x : X) → i < length xs → x ≡ get_or xs i x → Contains (map f xs) (f x)
contains_map f [] i x h e = absurd (omega arith)
contains_map f (y ∷ xs) zero x h e = (0, omega arith, ap f (sym e))
contains_map f (y ∷ xs) (suc i) x h e = in_tail (map f xs) (f y) (f x) (contains_map f xs i x (omega arith) e)
