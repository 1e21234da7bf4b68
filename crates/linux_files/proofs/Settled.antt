-- Steps that take something unused out leave what settles; where all is used, nothing goes.
use Rattle.file_model.specs.Files.{Files, Inode, is_named, is_open, is_same_target, root, settled, used_description, used_node, used_pipe, without_unused_descriptions, without_unused_targets}
use Rattle.file_model.specs.declared.descriptions.Description.{Description}
use Rattle.file_model.specs.declared.descriptions.Target.TheVariants.{OfNode, ReadEnd, WriteEnd}
use Rattle.file_model.specs.declared.descriptions.Target.{Target}
use Rattle.key_rows.specs.Keeping.{kept}
use Rattle.linux_files.proofs.SomeRow.{collect-cut, collect-twice, collect-whole, collected-there, fewer-pass}
use Rattle.mck_word.specs.Maps.{Map, at, collect, cut}
use Rattle.std.proofs.Common.{ap, refl, ◌∙◌}
use Rattle.std.proofs.lemmas.Bool.{true≢false}
use Rattle.std.specs.Prelude.{Bool, List, Some, false, is_some, nat_lt, true, ℕ, ◌==◌, ◌||◌, ◌≡◌}

abbrev pub description_test : Files → ℕ → Description → Bool
description_test files d x = nat_lt 0 x.calls || is_named files d

abbrev pub node_test : Files → ℕ → Inode → Bool
node_test files n x = n == root || is_some x.name || is_open files (OfNode n)

abbrev pub pipe_test : Files → ℕ → List ℕ → Bool
pipe_test files p bytes = is_open files (ReadEnd p) || is_open files (WriteEnd p)

neither : (a b : Bool) → (a || b) ≡ false → (a ≡ false) × (b ≡ false)
neither true b h = absurd (true≢false h)
neither false b h = (refl, h)

no-or : (a b : Bool) → a ≡ false → b ≡ false → (a || b) ≡ false
no-or a b h g = ap (λ a. a || b) h ∙ g

-- what no description is open on, none is among those that stay
still-closed : (files : Files) (target : Target) → is_open files target ≡ false → is_open (without_unused_descriptions files) target ≡ false
still-closed files target h =
    fewer-pass (λ d (x : Description). is_same_target x.target target) files.descriptions (collect (used_description files) files.descriptions) (collected-there (description_test files) files.descriptions) h

-- a description that nothing uses
pub without-description : (files : Files) (d : ℕ) (x : Description) → at files.descriptions d ≡ Some x → description_test files d x ≡ false → settled (record files { descriptions = cut files.descriptions d }) ≡ settled files
unfolding settled
without-description files d x there unused =
    ap (λ (m : Map Description). without_unused_targets (record files { descriptions = m })) (collect-cut (description_test files) files.descriptions d x there unused)

-- a node that doesn't live
pub without-node : (files : Files) (n : ℕ) (x : Inode) → at files.nodes n ≡ Some x → node_test files n x ≡ false → settled (record files { nodes = cut files.nodes n }) ≡ settled files
unfolding settled
without-node files n x there unused =
    let left = without_unused_descriptions files in
    let a = neither (n == root || is_some x.name) (is_open files (OfNode n)) unused in
    let gone = no-or (n == root || is_some x.name) (is_open left (OfNode n)) a.0 (still-closed files (OfNode n) a.1) in
    ap (λ (m : Map Inode). record left { nodes = m; pipes = collect (used_pipe left) files.pipes }) (collect-cut (node_test left) files.nodes n x there gone)

-- a pipe of which no end is open
pub without-pipe : (files : Files) (p : ℕ) (bytes : List ℕ) → at files.pipes p ≡ Some bytes → pipe_test files p bytes ≡ false → settled (record files { pipes = cut files.pipes p }) ≡ settled files
unfolding settled
without-pipe files p bytes there unused =
    let left = without_unused_descriptions files in
    let a = neither (is_open files (ReadEnd p)) (is_open files (WriteEnd p)) unused in
    let gone = no-or (is_open left (ReadEnd p)) (is_open left (WriteEnd p)) (still-closed files (ReadEnd p) a.0) (still-closed files (WriteEnd p) a.1) in
    ap (λ (m : Map (List ℕ)). record left { nodes = collect (used_node left) files.nodes; pipes = m }) (collect-cut (pipe_test left) files.pipes p bytes there gone)

-- all pipes of which no end is open
pub pipes-settle : (files : Files) (test : ℕ → Bool) → ((p : ℕ) → (is_open files (ReadEnd p) || is_open files (WriteEnd p)) ≡ test p) → settled (record files { pipes = kept (λ p bytes. test p) files.pipes }) ≡ settled files
unfolding settled
pipes-settle files test is =
    let left = without_unused_descriptions files in
    ap (λ (m : Map (List ℕ)). record left { nodes = collect (used_node left) files.nodes; pipes = m }) (collect-twice (λ p bytes. test p) (pipe_test left) files.pipes (λ p bytes e. (
    let a = neither (is_open files (ReadEnd p)) (is_open files (WriteEnd p)) (is p ∙ e) in
    no-or (is_open left (ReadEnd p)) (is_open left (WriteEnd p)) (still-closed files (ReadEnd p) a.0) (still-closed files (WriteEnd p) a.1))))

-- where all is used
pub all-used : (files : Files) → ((d : ℕ) (x : Description) → at files.descriptions d ≡ Some x → description_test files d x ≡ true) → ((n : ℕ) (x : Inode) → at files.nodes n ≡ Some x → node_test files n x ≡ true)
    → ((p : ℕ) (bytes : List ℕ) → at files.pipes p ≡ Some bytes → pipe_test files p bytes ≡ true) → settled files ≡ files
unfolding settled
all-used files descriptions nodes pipes =
    ap (λ (m : Map Description). without_unused_targets (record files { descriptions = m })) (collect-whole (description_test files) files.descriptions descriptions)
    ∙ (λ i. record files { nodes = collect-whole (node_test files) files.nodes nodes i; pipes = collect-whole (pipe_test files) files.pipes pipes i })
