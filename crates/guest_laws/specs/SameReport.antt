-- Reports that are the same line for line, but for the counts of requests, faults and rounds.
use Rattle.hybrid_model.specs.Boot.{boot}
use Rattle.hybrid_model.specs.Journals.{ending, state}
use Rattle.hybrid_model.specs.declared.events.Event.{Event}
use Rattle.job_model.specs.declared.image.Image.{Image}
use Rattle.job_model.specs.declared.job.Job.{Job}
use Rattle.run_model.specs.Reports.{count_line}
use Rattle.run_model.specs.Texts.{Part}
use Rattle.std.specs.Prelude.{List, [], codes, ℕ, ◌∷◌, ◌≡◌, ◌⊎◌}

-- both lines are the count of this name
pub record BothCount (name : List ℕ) (a b : Part) : Type 0 where
  pub here : ℕ
  pub there : ℕ
  pub first : a ≡ count_line name here
  pub second : b ≡ count_line name there

-- the lines are equal, or both count requests, both faults or both rounds
abbrev pub Alike : Part → Part → Type 0
Alike a b = (a ≡ b) ⊎ (BothCount (codes "requests") a b ⊎ (BothCount (codes "faults") a b ⊎ BothCount (codes "rounds") a b))

-- line for line
abbrev pub SameButCounts : List Part → List Part → Type 0
SameButCounts [] [] = Unit {0}
SameButCounts [] (b ∷ bs) = ⊥
SameButCounts (a ∷ xs) [] = ⊥
SameButCounts (a ∷ xs) (b ∷ bs) = Alike a b × SameButCounts xs bs

-- what two journals of one job say, where their images are the same and their runs end alike
abbrev pub EndAlike : Job → List Image → List Event → List Event → Type 0
EndAlike job imgs j k = ending (state (boot job imgs) j) ≡ ending (state (boot job imgs) k)
