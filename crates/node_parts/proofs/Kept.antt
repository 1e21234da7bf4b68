-- What partitions keep by each call, over what is kept of them, and why a boot is refused.
use Rattle.hybrid_model.specs.Boot.{shortage}
use Rattle.job_model.specs.declared.image.Image.{Image}
use Rattle.job_model.specs.declared.job.Job.{Job}
use Rattle.mck_word.specs.Maps.{Map, at, cut, put}
use Rattle.node_parts.proofs.Mixing.{now-there, released-owned, turned-owned, with-owned}
use Rattle.node_parts.proofs.Owning.{lowest-owner}
use Rattle.node_parts.specs.Instances.{just_booted}
use Rattle.node_parts.specs.Keeping.{IsOwned, Refuses, if_held}
use Rattle.node_parts.specs.Partitions.{Answer, Booted, Partitions, before_boot, boot, free}
use Rattle.node_parts.specs.Partitions.{given_back, held, lowest_given}
use Rattle.node_parts.specs.Partitions.{owner_of, released, start_where, with_instance}
use Rattle.node_parts.specs.Slotted.{rows_turned}
use Rattle.node_parts.specs.declared.refusal.PartRefusal.TheVariants.{Booted as AlreadyBooted, Cores, Frames, Known}
use Rattle.node_parts.specs.declared.refusal.PartRefusal.TheVariants.{NoFrames, NoMemory, Short, Taken, Unknown}
use Rattle.node_parts.specs.declared.refusal.PartRefusal.{PartRefusal}
use Rattle.std.proofs.Common.{Bool, Err, List, None, Ok, Option, Some, ap, refl}
use Rattle.std.proofs.Common.{subst, sym, ℕ, ◌∙◌, ◌≡◌}
use Rattle.std.specs.Prelude.{Result}

-- ---- what is kept of partitions

abbrev pub parted : List (Option ℕ) → List (Option ℕ) → Map (Option Booted) → Partitions
parted cores frames rows = record { core_owners = cores; frame_owners = frames; instances = rows }

pub put-kept : (cores frames : List (Option ℕ)) (rows new : Map (Option Booted)) (i : ℕ) (b : Option Booted)
    → IsOwned (parted cores frames rows) → new ≡ put rows i b → IsOwned (parted cores frames new)
put-kept cores frames rows new i b owned is =
    subst (λ m. IsOwned (parted cores frames m)) (sym is) (with-owned i b (parted cores frames rows) owned)

pub lent-kept : (cores frames given : List (Option ℕ)) (rows : Map (Option Booted)) (i n : ℕ)
    → IsOwned (parted cores frames rows) → at rows i ≡ Some None → given ≡ lowest_given i n frames
    → IsOwned (parted cores given rows)
lent-kept cores frames given rows i n owned there is = subst (λ os. IsOwned (parted cores os rows)) (sym is) (record {
  cores = owned.cores;
  frames =
      λ place k own. now-there i k (parted cores frames rows) (owner_of place frames) there (owned.frames place k)
      (lowest-owner i k n frames place own);
})

pub turned-kept : (cores frames : List (Option ℕ)) (rows new : Map (Option Booted)) (passes : ℕ → Bool)
    → IsOwned (parted cores frames rows) → new ≡ rows_turned passes rows → IsOwned (parted cores frames new)
turned-kept cores frames rows new passes owned is =
    subst (λ m. IsOwned (parted cores frames m)) (sym is) (turned-owned passes (parted cores frames rows) owned)

pub released-kept : (cores frames back gone : List (Option ℕ)) (rows new : Map (Option Booted)) (i : ℕ)
    → IsOwned (parted cores frames rows) → back ≡ given_back i cores → gone ≡ given_back i frames → new ≡ cut rows i
    → IsOwned (parted back gone new)
released-kept cores frames back gone rows new i owned b f is =
    subst (λ os. IsOwned (parted os gone new)) (sym b)
    (subst (λ os. IsOwned (parted (given_back i cores) os new)) (sym f)
    (subst (λ m. IsOwned (parted (given_back i cores) (given_back i frames) m)) (sym is)
    (released-owned i (parted cores frames rows) owned)))

pub released-is : (cores frames back gone : List (Option ℕ)) (rows new : Map (Option Booted)) (i : ℕ)
    → back ≡ given_back i cores → gone ≡ given_back i frames → new ≡ cut rows i
    → parted back gone new ≡ released i (parted cores frames rows)
released-is cores frames back gone rows new i b f is =
    ap (λ os. parted os gone new) b
    ∙ (ap (λ os. parted (given_back i cores) os new) f ∙ ap (λ m. parted (given_back i cores) (given_back i frames) m)
    is)

-- ---- what a release comes to, by what the instance was

pub row-by : (P : Type 0) (row : Option (Option Booted)) → (row ≡ None → P) → (row ≡ Some None → P)
    → ((b : Booted) → row ≡ Some (Some b) → P) → P
row-by P None none idle booted = none refl
row-by P (Some None) none idle booted = idle refl
row-by P (Some (Some b)) none idle booted = booted b refl

pub refused-kept : {A : Type 0} (cores frames : List (Option ℕ)) (rows new : Map (Option Booted)) (i : ℕ)
    (why : PartRefusal) → IsOwned (parted cores frames rows)
    → (at rows i ≡ None → (◌≡◌ {A = Result A PartRefusal} (Err why) (Err Unknown)) × (new ≡ rows))
    → (at rows i ≡ Some None → (r : A) × ◌≡◌ {A = Result A PartRefusal} (Err why) (Ok r))
    → ((b : Booted) → at rows i ≡ Some (Some b) → (c : Booted) × (new ≡ put rows i (Some c)))
    → IsOwned (parted cores frames new)
refused-kept cores frames rows new i why owned none idle booted =
    row-by (IsOwned (parted cores frames new)) (at rows i)
    (λ e. subst (λ m. IsOwned (parted cores frames m)) (sym (none e).1) owned)
    (λ e. let no = (idle e).1 in cc)
    (λ b e. let h = booted b e in put-kept cores frames rows new i (Some h.0) owned h.1)

-- ---- why a boot is refused

pub refuses : (why : PartRefusal) (answer : Answer) → answer ≡ Err why → Refuses why answer
refuses NoMemory answer is = tt
refuses Known answer is = is
refuses Unknown answer is = is
refuses AlreadyBooted answer is = is
refuses (Taken by) answer is = is
refuses (Short asked free) answer is = is
refuses (Cores asked held) answer is = is
refuses (Frames asked held) answer is = is
refuses (NoFrames guest needed free) answer is = is

abbrev gives : Partitions → Answer
gives s = Ok s

starting : ℕ → Job → List Image → ℕ → Partitions → Answer
starting i job images order s = start_where (shortage job images) i (just_booted job images order) s

-- of an instance that isn't booted, what it has is asked, and then the frames
boot-is : (i order : ℕ) (job : Job) (images : List Image) (s : Partitions) → at s.instances i ≡ Some None
    → boot i job images order s ≡ if_held i job s (starting i job images order s)
unfolding starting
boot-is i order job images s idle =
    ap (λ row. before_boot row (if_held i job s (start_where (shortage job images) i (just_booted job images order) s)))
    idle

pub boot-lacks : (i order : ℕ) (job : Job) (images : List Image) (s : Partitions) (why : PartRefusal)
    → at s.instances i ≡ Some None → ((answer : Answer) → if_held i job s answer ≡ Err why)
    → Refuses why (boot i job images order s)
boot-lacks i order job images s why idle lacks =
    refuses why (boot i job images order s) (boot-is i order job images s idle ∙ lacks (starting i job images order s))

pub boot-short : (i order : ℕ) (job : Job) (images : List Image) (s : Partitions) (why : PartRefusal)
    → at s.instances i ≡ Some None → ((answer : Answer) → if_held i job s answer ≡ answer)
    → Refuses why (start_where (shortage job images) i (just_booted job images order) s)
    → Refuses why (boot i job images order s)
unfolding starting
boot-short i order job images s why idle holds short =
    subst (Refuses why) (sym (boot-is i order job images s idle ∙ holds (starting i job images order s))) short

pub boot-gives : (i order : ℕ) (job : Job) (images : List Image) (s : Partitions) (b : Booted)
    → at s.instances i ≡ Some None → ((answer : Answer) → if_held i job s answer ≡ answer)
    → b ≡ just_booted job images order → shortage job images ≡ None
    → boot i job images order s ≡ Ok (with_instance i (Some b) s)
unfolding starting
boot-gives i order job images s b idle holds is none =
    boot-is i order job images s idle
    ∙ (holds (starting i job images order s)
    ∙ (ap (λ lack. start_where lack i (just_booted job images order) s) none ∙ ap
    (λ x. gives (with_instance i (Some x) s)) (sym is)))

pub put-is : (cores frames : List (Option ℕ)) (rows new : Map (Option Booted)) (i : ℕ) (b : Option Booted)
    (s : Partitions) → parted cores frames rows ≡ s → new ≡ put rows i b
    → with_instance i b s ≡ parted cores frames new
put-is cores frames rows new i b s is given =
    ap (with_instance i b) (sym is) ∙ ap (λ m. parted cores frames m) (sym given)
