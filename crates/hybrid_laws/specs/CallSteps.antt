-- What a step of a delegated call does to the description that the call holds: it goes on to hold it, takes it, or gives it back.
use Rattle.file_model.specs.Files.{no_description, Files}
use Rattle.file_model.specs.declared.descriptions.Description.{Description}
use Rattle.file_model.specs.declared.descriptions.Target.{Target}
use Rattle.hybrid_model.specs.Globals.{is_number, StatusHolds, description_held}
use Rattle.kernel_model.specs.Progress.{After, Progress}
use Rattle.kernel_model.specs.Steps.{status_after}
use Rattle.mck_word.specs.Maps.{Map, at}
use Rattle.std.specs.Prelude.{Option, Some, cond, unwrap_or, ℕ, ◌+◌, ◌<◌, ◌≡◌, ◌≤◌}

abbrev pub calls_at : Map Description → ℕ → ℕ
calls_at m d = (unwrap_or (at m d) no_description).calls

abbrev pub target_at : Map Description → ℕ → Target
target_at m d = (unwrap_or (at m d) no_description).target

abbrev pub holds_it : ℕ → Option ℕ → ℕ
holds_it d o = cond (is_number d o) 1 0

-- a step carries a call from the description that it held to the one that it holds
pub record Carries (before after : Option ℕ) (ds es : Map Description) : Type 0 where
  pub calls : (d : ℕ) → calls_at es d + holds_it d before ≡ calls_at ds d + holds_it d after
  pub targets : (d : ℕ) → holds_it d before < calls_at ds d → target_at es d ≡ target_at ds d

pub record StepCarries (p : Progress) (files : Files) (a : After) : Type 0 where
  pub kept : Carries p.found (description_held (status_after a)) files.descriptions a.files.descriptions
  pub goes : StatusHolds (status_after a)

-- a description that the call holds is held
abbrev pub FoundHeld : Files → Option ℕ → Type 0
FoundHeld files o = (d : ℕ) → o ≡ Some d → 1 ≤ calls_at files.descriptions d
