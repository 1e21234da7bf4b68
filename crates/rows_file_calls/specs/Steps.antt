-- One step of two stores.
use Rattle.file_calls.specs.FileSteps.{IsStep, given_len}
use Rattle.file_model.specs.FileSteps.{file_step, ready}
use Rattle.file_model.specs.Files.{Files}
use Rattle.file_model.specs.declared.operations.FileOp.{FileOp}
use Rattle.rows_file_calls.specs.declared.both.Answers.{Answers}
use Rattle.std.specs.Prelude.{◌≡◌, ℕ, List}

-- the first store's answer, bytes and files are those of the definition's step, and the second one's answer and bytes are the first one's
pub record IsStepOfBoth (files : Files) (process : ℕ) (op : FileOp) (given : List ℕ) (answers : Answers) (bytes others : List ℕ) (left : Files) : Type 0 where
  pub step : IsStep (file_step files process op given) (ready files op) answers.first (given_len op answers.first) given bytes left
  pub answer : answers.second ≡ answers.first
  pub gives : others ≡ bytes
