-- The operations on files, and what one gives.
-- Source: this project's own.
use Rattle.std.specs.Prelude.{ℕ, List, [], ℤ}
use Rattle.mck_word.specs.Words.{refused}
use Rattle.file_model.specs.Files.{Files}

-- the answer, the bytes that the operation gives out, and the files after it
pub record FileResult : Type 0 where
  pub answer : ℤ
  pub out : List ℕ
  pub files : Files

abbrev pub done : ℤ → Files → FileResult
done answer files = record { answer = answer; out = []; files = files }

abbrev pub fails : ℕ → Files → FileResult
fails errno files = done (refused errno) files
