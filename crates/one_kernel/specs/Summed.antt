-- What is summed up of the tables' rows.
use Rattle.kernel_tables.specs.declared.process_rows.Process.{Process}
use Rattle.mck_word.specs.Identifiers.{pid}
use Rattle.run_summary.specs.Summaries.{end_of}
use Rattle.run_summary.specs.declared.ProcessEnd.{ProcessEnd}
use Rattle.std.specs.Prelude.{ℕ}

-- a process with its end
abbrev pub end_at : ℕ × Process → ProcessEnd
end_at e = record { pid = pid e.0; end = end_of e.1.life }
