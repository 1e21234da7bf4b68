-- One name of a walk.
use Rattle.file_calls.specs.Walks.{steps, walked}
use Rattle.file_model.specs.Errno.{ENAMETOOLONG, ENOENT, ENOTDIR}
use Rattle.file_model.specs.Files.{Files, Name, node_of}
use Rattle.file_model.specs.Paths.{Absent, NoPlace, Place, Present, child, dot, dot_dot, names_of, walk_names, without_dots}
use Rattle.std.proofs.Common.{◌≡◌, ◌<◌, ◌≤◌, ℕ, Bool, true, false, cond, not, List, [], ◌∷◌, length, ap, ◌∙◌}
use Rattle.std.proofs.lemmas.Bool.{lt-ltb, le-ltb}
use Rattle.std.specs.Prelude.{Some, None, bytes_eq, nat_lt, ◌==◌}

pub steps-none : (t : List ℕ) → names_of t ≡ [] → steps t ≡ []
unfolding steps
steps-none t e = ap without_dots e

pub steps-dot : (t n m : List ℕ) → names_of t ≡ n ∷ names_of m → bytes_eq n dot ≡ true → steps t ≡ steps m
unfolding steps
steps-dot t n m e d = ap without_dots e ∙ ap (λ v. cond (not v) (n ∷ without_dots (names_of m)) (without_dots (names_of m))) d

pub steps-name : (t n m : List ℕ) → names_of t ≡ n ∷ names_of m → bytes_eq n dot ≡ false → steps t ≡ n ∷ steps m
unfolding steps
steps-name t n m e d = ap without_dots e ∙ ap (λ v. cond (not v) (n ∷ without_dots (names_of m)) (without_dots (names_of m))) d

-- what the name n does at a node, where `over` says that it is the last, and `next` goes on
abbrev pub taken : Files → ℕ → Name → Bool → (ℕ → Place) → Place
taken files here n over next =
    cond (nat_lt 255 (length n)) (NoPlace ENAMETOOLONG)
    (cond (not (node_of files here).directory) (NoPlace ENOTDIR)
    (cond (bytes_eq n dot_dot) (next (node_of files here).parent)
    (elim (child files here n) [
      | None ↦ cond over (Absent here n) (NoPlace ENOENT)
      | Some k ↦ next k
    ])))

pub walked-none : (files : Files) (here : ℕ) (t : List ℕ) → steps t ≡ [] → walked files here t ≡ Present here
unfolding walked
walked-none files here t e = ap (walk_names files here) e

pub walked-step : (files : Files) (here : ℕ) (t n m : List ℕ) → steps t ≡ n ∷ steps m
    → walked files here t ≡ taken files here n (length (steps m) == 0) (λ k. walked files k m)
unfolding walked
walked-step files here t n m e = ap (walk_names files here) e

module _ (files : Files) (here : ℕ) (t n m : List ℕ) (s : steps t ≡ n ∷ steps m) where
  pub at-long : 255 < length n → walked files here t ≡ NoPlace ENAMETOOLONG
  at-long l = walked-step files here t n m s ∙ rw (lt-ltb 255 (length n) l)

  module _ (short : length n ≤ 255) where
    pub at-file : (node_of files here).directory ≡ false → walked files here t ≡ NoPlace ENOTDIR
    at-file d = walked-step files here t n m s ∙ rw (le-ltb 255 (length n) short, d)

    module _ (d : (node_of files here).directory ≡ true) where
      pub at-up : bytes_eq n dot_dot ≡ true → walked files here t ≡ walked files (node_of files here).parent m
      at-up u = walked-step files here t n m s ∙ rw (le-ltb 255 (length n) short, d, u)

      module _ (u : bytes_eq n dot_dot ≡ false) where
        pub at-child : (k : ℕ) → child files here n ≡ Some k → walked files here t ≡ walked files k m
        at-child k e = walked-step files here t n m s ∙ rw (le-ltb 255 (length n) short, d, u, e)

        pub at-missing : child files here n ≡ None → walked files here t ≡ cond (length (steps m) == 0) (Absent here n) (NoPlace ENOENT)
        at-missing e = walked-step files here t n m s ∙ rw (le-ltb 255 (length n) short, d, u, e)
