-- What calls leave of other instances, and that owners stay instances that are there.
use Rattle.hybrid_model.specs.Boot.{Shortage, shortage}
use Rattle.job_model.specs.declared.image.Image.{Image}
use Rattle.job_model.specs.declared.job.Job.{Job}
use Rattle.mck_word.specs.MapLaws.{at-collect, at-cut, at-put}
use Rattle.mck_word.specs.Maps.{Map, and_then, at, cut, put}
use Rattle.node_parts.proofs.Owning.{back-keeps, back-owner, given-keeps, given-owner, lowest-keeps, lowest-owner}
use Rattle.node_parts.proofs.Owning.{nobody}
use Rattle.node_parts.specs.Instances.{just_booted}
use Rattle.node_parts.specs.Keeping.{IsOwned, KeepsInstance, if_held, is_there}
use Rattle.node_parts.specs.Partitions.{Answer, Booted, Partitions, before_boot, boot, cpu, create, create_where, free}
use Rattle.node_parts.specs.Partitions.{give_core, gone_on, held, lowest_given, mem, nothing_parted}
use Rattle.node_parts.specs.Partitions.{owner_of, released, start_where, turned, turned_where, with_instance}
use Rattle.node_parts.specs.declared.refusal.PartRefusal.TheVariants.{Short}
use Rattle.node_parts.specs.declared.refusal.PartRefusal.{PartRefusal}
use Rattle.std.proofs.Common.{Bool, Err, List, None, Ok, Option, Some, ap, arith, cond, false, inl, inr, is_some, refl}
use Rattle.std.proofs.Common.{subst, sym, true, ℕ, ◌==◌, ◌∙◌, ◌≡◌, ◌≢◌, ◌⊎◌}
use Rattle.std.proofs.lemmas.Bool.Decides.{nat_tests}
use Rattle.std.specs.Option.{option_map}
use Rattle.std.specs.Prelude.{nat_lt, slice_set}

-- ---- what an answer says

created : (o : Option (Option Booted)) (i : ℕ) (s t : Partitions) → create_where o i s ≡ Ok t
    → t ≡ with_instance i None s
created None i s t is = cc
created (Some booted) i s t is = cc

-- what an instance got before it was booted
pub record IsIdle (o : Option (Option Booted)) (answer : Answer) (t : Partitions) : Type 0 where
  pub there : o ≡ Some None
  pub gave : answer ≡ Ok t

idle : (o : Option (Option Booted)) (answer : Answer) (t : Partitions) → before_boot o answer ≡ Ok t → IsIdle o answer t
idle None answer t is = cc
idle (Some None) answer t is = record { there = refl; gave = is }
idle (Some (Some booted)) answer t is = cc

pub record IsGiven (owner : Option ℕ) (i core : ℕ) (s t : Partitions) : Type 0 where
  pub free : owner ≡ None
  pub is : t ≡ record s { core_owners = slice_set s.core_owners core (Some i) }

given : (owner : Option ℕ) (i core : ℕ) (s t : Partitions) → give_core owner i core s ≡ Ok t → IsGiven owner i core s t
given None i core s t is = record { free = refl; is = cc }
given (Some k) i core s t is = cc

got : (t : Bool) (why : PartRefusal) (s u : Partitions) → cond t (Err why) (Ok s) ≡ Ok u → u ≡ s
got true why s u is = cc
got false why s u is = cc

passed : (t : Bool) (why : PartRefusal) (answer : Answer) (u : Partitions) → cond t (Err why) answer ≡ Ok u
    → answer ≡ Ok u
passed true why answer u is = cc
passed false why answer u is = is

started : (lack : Option Shortage) (i : ℕ) (b : Booted) (s t : Partitions) → start_where lack i b s ≡ Ok t
    → t ≡ with_instance i (Some b) s
started None i b s t is = cc
started (Some lack) i b s t is = cc

-- the frames go to the instance where so many are free
mem_where : ℕ → ℕ → Partitions → Answer
mem_where i n s =
    cond (nat_lt (free s.frame_owners) n) (Err (Short n (free s.frame_owners)))
    (Ok (record s { frame_owners = lowest_given i n s.frame_owners }))

pub record IsLent (i n : ℕ) (s t : Partitions) : Type 0 where
  pub there : at s.instances i ≡ Some None
  pub is : t ≡ record s { frame_owners = lowest_given i n s.frame_owners }

lent : (i n : ℕ) (s t : Partitions) → mem i n s ≡ Ok t → IsLent i n s t
unfolding mem_where
lent i n s t is =
    let h = idle (at s.instances i) (mem_where i n s) t is in
    record {
      there =
          h.there;
      is = got (nat_lt (free s.frame_owners) n) (Short n (free s.frame_owners))
          (record s { frame_owners = lowest_given i n s.frame_owners }) t h.gave;
    }

-- ---- rows

another : (i j : ℕ) → j ≢ i → (j == i) ≡ false
another i j differ = grind (arith, nat_tests)

put-other : (m : Map (Option Booted)) (i j : ℕ) (b : Option Booted) → j ≢ i → at (put m i b) j ≡ at m j
put-other m i j b differ = at-put m i b j ∙ ap (λ t. cond t (Some b) (at m j)) (another i j differ)

cut-other : (m : Map (Option Booted)) (i j : ℕ) → j ≢ i → at (cut m i) j ≡ at m j
cut-other m i j differ = at-cut m i j ∙ ap (λ t. cond t None (at m j)) (another i j differ)

either-there : (t : Bool) (b : Option Booted) (o : Option (Option Booted)) → is_some o ≡ true
    → is_some (cond t (Some b) o) ≡ true
either-there true b o there = refl
either-there false b o there = there

put-there : (m : Map (Option Booted)) (i k : ℕ) (b : Option Booted) → is_some (at m k) ≡ true
    → is_some (at (put m i b) k) ≡ true
put-there m i k b there = ap is_some (at-put m i b k) ∙ either-there (k == i) b (at m k) there

-- ---- other instances

pub keeps-with : (i j : ℕ) (b : Option Booted) (s : Partitions) → j ≢ i → KeepsInstance j s (with_instance i b s)
keeps-with i j b s differ =
    record { instance = put-other s.instances i j b differ; cores = λ _. refl; frames = λ _. refl }

pub create-keeps : (i j : ℕ) (s t : Partitions) → j ≢ i → create i s ≡ Ok t → KeepsInstance j s t
create-keeps i j s t differ is =
    subst (KeepsInstance j s) (sym (created (at s.instances i) i s t is)) (keeps-with i j None s differ)

pub cpu-keeps : (i j core : ℕ) (s t : Partitions) → j ≢ i → cpu i core s ≡ Ok t → KeepsInstance j s t
cpu-keeps i j core s t differ is =
    let h = idle (at s.instances i) (give_core (owner_of core s.core_owners) i core s) t is in
    let g = given (owner_of core s.core_owners) i core s t h.gave in
    subst (KeepsInstance j s) (sym g.is)
    (record {
      instance = refl;
      cores = λ place. given-keeps i j s.core_owners core place differ g.free;
      frames = λ _. refl;
    })

pub mem-keeps : (i j n : ℕ) (s t : Partitions) → j ≢ i → mem i n s ≡ Ok t → KeepsInstance j s t
mem-keeps i j n s t differ is =
    let g = lent i n s t is in
    subst (KeepsInstance j s) (sym g.is)
    (record { instance = refl; cores = λ _. refl; frames = λ place. lowest-keeps i j n s.frame_owners place differ })

booted-is : (i order : ℕ) (job : Job) (images : List Image) (s t : Partitions) → boot i job images order s ≡ Ok t
    → t ≡ with_instance i (Some (just_booted job images order)) s
booted-is i order job images s t is =
    let start = start_where (shortage job images) i (just_booted job images order) s in
    let h = idle (at s.instances i) (if_held i job s start) t is in
    let c = passed (nat_lt (held i s.core_owners) job.cores) _ _ t h.gave in
    let f = passed (nat_lt (held i s.frame_owners) job.frames) _ start t c in
    started (shortage job images) i (just_booted job images order) s t f

pub boot-keeps : (i j order : ℕ) (job : Job) (images : List Image) (s t : Partitions) → j ≢ i
    → boot i job images order s ≡ Ok t → KeepsInstance j s t
boot-keeps i j order job images s t differ is =
    subst (KeepsInstance j s) (sym (booted-is i order job images s t is))
    (keeps-with i j (Some (just_booted job images order)) s differ)

pub released-keeps : (i j : ℕ) (s : Partitions) → j ≢ i → KeepsInstance j s (released i s)
released-keeps i j s differ = record {
  instance = cut-other s.instances i j differ;
  cores = λ place. back-keeps i j s.core_owners place differ;
  frames = λ place. back-keeps i j s.frame_owners place differ;
}

turned-row : (o : Option (Option Booted))
    → and_then o (λ booted. Some (option_map gone_on booted)) ≡ option_map (option_map gone_on) o
turned-row None = refl
turned-row (Some booted) = refl

pub turned-at : (j : ℕ) (s : Partitions)
    → at (turned s).instances j ≡ option_map (option_map gone_on) (at s.instances j)
turned-at j s =
    at-collect (λ i booted. Some (cond true (option_map gone_on booted) booted)) s.instances j ∙ turned-row
    (at s.instances j)

-- ---- owners

pub begins-owned : (cores frames : ℕ) → IsOwned (nothing_parted cores frames)
begins-owned cores frames = record {
  cores = λ place i is. (let no : None ≡ Some i = sym (nobody cores place) ∙ is in cc);
  frames = λ place i is. (let no : None ≡ Some i = sym (nobody frames place) ∙ is in cc);
}

pub with-owned : (i : ℕ) (b : Option Booted) (s : Partitions) → IsOwned s → IsOwned (with_instance i b s)
with-owned i b s owned = record {
  cores = λ place k is. put-there s.instances i k b (owned.cores place k is);
  frames = λ place k is. put-there s.instances i k b (owned.frames place k is);
}

pub create-owned : (i : ℕ) (s t : Partitions) → IsOwned s → create i s ≡ Ok t → IsOwned t
create-owned i s t owned is = subst IsOwned (sym (created (at s.instances i) i s t is)) (with-owned i None s owned)

-- i is there, and so is each owner
pub now-there : (i k : ℕ) (s : Partitions) (o : Option ℕ) → at s.instances i ≡ Some None
    → (o ≡ Some k → is_there k s ≡ true) → (k ≡ i) ⊎ (o ≡ Some k) → is_there k s ≡ true
now-there i k s o idle owned (inl same) = ap (λ j. is_there j s) same ∙ ap is_some idle
now-there i k s o idle owned (inr is) = owned is

pub cpu-owned : (i core : ℕ) (s t : Partitions) → IsOwned s → cpu i core s ≡ Ok t → IsOwned t
cpu-owned i core s t owned is =
    let h = idle (at s.instances i) (give_core (owner_of core s.core_owners) i core s) t is in
    let g = given (owner_of core s.core_owners) i core s t h.gave in
    subst IsOwned (sym g.is) (record {
      cores =
          λ place k own. now-there i k s (owner_of place s.core_owners) h.there (owned.cores place k)
          (given-owner i k s.core_owners core place own);
      frames = owned.frames;
    })

pub mem-owned : (i n : ℕ) (s t : Partitions) → IsOwned s → mem i n s ≡ Ok t → IsOwned t
mem-owned i n s t owned is =
    let g = lent i n s t is in
    subst IsOwned (sym g.is) (record {
      cores = owned.cores;
      frames =
          λ place k own. now-there i k s (owner_of place s.frame_owners) g.there (owned.frames place k)
          (lowest-owner i k n s.frame_owners place own);
    })

pub boot-owned : (i order : ℕ) (job : Job) (images : List Image) (s t : Partitions) → IsOwned s
    → boot i job images order s ≡ Ok t → IsOwned t
boot-owned i order job images s t owned is =
    subst IsOwned (sym (booted-is i order job images s t is))
    (with-owned i (Some (just_booted job images order)) s owned)

turned-there : (t : Bool) (o : Option (Option Booted)) → is_some o ≡ true
    → is_some (and_then o (λ booted. Some (cond t (option_map gone_on booted) booted))) ≡ true
turned-there t None there = there
turned-there t (Some booted) there = refl

still-there : (passes : ℕ → Bool) (k : ℕ) (s : Partitions) → is_there k s ≡ true
    → is_there k (turned_where passes s) ≡ true
still-there passes k s there =
    ap is_some (at-collect (λ i booted. Some (cond (passes i) (option_map gone_on booted) booted)) s.instances k)
    ∙ turned-there (passes k) (at s.instances k) there

pub turned-owned : (passes : ℕ → Bool) (s : Partitions) → IsOwned s → IsOwned (turned_where passes s)
turned-owned passes s owned = record {
  cores = λ place k is. still-there passes k s (owned.cores place k is);
  frames = λ place k is. still-there passes k s (owned.frames place k is);
}

cut-there : (m : Map (Option Booted)) (i k : ℕ) → (k == i) ≡ false → is_some (at m k) ≡ true
    → is_some (at (cut m i) k) ≡ true
cut-there m i k differ there = ap is_some (at-cut m i k ∙ ap (λ t. cond t None (at m k)) differ) ∙ there

pub released-owned : (i : ℕ) (s : Partitions) → IsOwned s → IsOwned (released i s)
released-owned i s owned = record {
  cores =
      λ place k is. (let old = back-owner i k s.core_owners place is in cut-there s.instances i k old.1
      (owned.cores place k old.0));
  frames =
      λ place k is. (let old = back-owner i k s.frame_owners place is in cut-there s.instances i k old.1
      (owned.frames place k old.0));
}
