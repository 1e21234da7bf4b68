-- The number and the line of a status, and the status of an ending.
use Rattle.elf_load.specs.declared.fault.ElfFault.{ElfFault}
use Rattle.elf_load.specs.declared.fault.ElfFault.TheVariants as elf
use Rattle.hybrid_model.specs.declared.events.Ending.{Ending}
use Rattle.hybrid_model.specs.declared.events.Ending.TheVariants as endings
use Rattle.job_text.specs.declared.fault.JobFault.{JobFault}
use Rattle.job_text.specs.declared.fault.JobFault.TheVariants as faults
use Rattle.job_text.specs.declared.fault.Key.{Key}
use Rattle.job_text.specs.declared.fault.Key.TheVariants as keys
use Rattle.job_text.specs.declared.fault.Why.{Why}
use Rattle.job_text.specs.declared.fault.Why.TheVariants as whys
use Rattle.mck_report.specs.declared.status.Status.{Status}
use Rattle.mck_report.specs.declared.status.Status.TheVariants.{Done, Stalled, BadWords, BadJob, BadElf, NoFrames, Limit, HostFault, SinkFault, NoMemory, BadTrace, Unfinished, LongFile}
use Rattle.run_model.specs.Texts.{Word, Text, Number, Line, part_bytes}
use Rattle.std.specs.Prelude.{ℕ, List, [], ◌∷◌, codes, Option, Some, None}

abbrev pub number_of : Status → ℕ
number_of Done = 0
number_of Stalled = 1
number_of BadWords = 2
number_of (BadJob fault) = 3
number_of (BadElf guest why) = 4
number_of (NoFrames guest needed free) = 5
number_of Limit = 6
number_of HostFault = 7
number_of SinkFault = 8
number_of NoMemory = 9
number_of (BadTrace line) = 10
number_of Unfinished = 11
number_of (LongFile line) = 12

-- the status of a run that ended so, with all of its text written
abbrev pub status_of : Ending → Status
status_of endings.Done = Done
status_of endings.Limit = Limit
status_of endings.Stalled = Stalled
status_of endings.Unfinished = Unfinished

-- ---- the line of a status

abbrev pub why_word : Why → List ℕ
why_word whys.Length = codes "length"
why_word whys.Byte = codes "byte"
why_word whys.Keyword = codes "keyword"
why_word whys.Count = codes "count"
why_word whys.Repeat = codes "repeat"
why_word whys.TooMany = codes "toomany"
why_word whys.Number = codes "number"
why_word whys.Guest = codes "guest"
why_word whys.Path = codes "path"

abbrev pub key_word : Key → List ℕ
key_word keys.Frames = codes "frames"
key_word keys.Guest = codes "guest"

abbrev pub job_words : JobFault → List Word
job_words (faults.Line line why) = Text (codes "job") ∷ Text (codes "line") ∷ Number line ∷ Text (why_word why) ∷ []
job_words (faults.Missing key) = Text (codes "job") ∷ Text (codes "lacks") ∷ Text (key_word key) ∷ []

abbrev pub elf_words : ElfFault → List Word
elf_words (elf.Short length) = Text (codes "short") ∷ Number length ∷ []
elf_words elf.Magic = Text (codes "magic") ∷ []
elf_words elf.Class = Text (codes "class") ∷ []
elf_words elf.Kind = Text (codes "kind") ∷ []
elf_words elf.Machine = Text (codes "machine") ∷ []
elf_words elf.Flags = Text (codes "flags") ∷ []
elf_words elf.PhSize = Text (codes "phsize") ∷ []
elf_words elf.Linked = Text (codes "linked") ∷ []
elf_words (elf.Size k) = Text (codes "size") ∷ Number k ∷ []
elf_words (elf.Bounds k) = Text (codes "bounds") ∷ Number k ∷ []
elf_words (elf.Overlap j k) = Text (codes "overlap") ∷ Number j ∷ Number k ∷ []
elf_words elf.Entry = Text (codes "entry") ∷ []

-- the words behind `mcexec:`, where the status has a line
abbrev pub status_words : Status → Option (List Word)
status_words Done = None
status_words Stalled = None
status_words BadWords = Some (Text (codes "words") ∷ [])
status_words (BadJob fault) = Some (job_words fault)
status_words (BadElf guest why) = Some (Text (codes "guest") ∷ Number guest ∷ Text (codes "elf") ∷ elf_words why)
status_words (NoFrames guest needed free) =
    Some (Text (codes "guest") ∷ Number guest ∷ Text (codes "needs") ∷ Number needed ∷ Text (codes "frames,") ∷ Number free ∷ Text (codes "free") ∷ [])
status_words Limit = None
status_words HostFault = Some (Text (codes "host") ∷ Text (codes "fault") ∷ [])
status_words SinkFault = Some (Text (codes "sink") ∷ Text (codes "fault") ∷ [])
status_words NoMemory = Some (Text (codes "no") ∷ Text (codes "memory") ∷ [])
status_words (BadTrace line) = Some (Text (codes "trace") ∷ Text (codes "line") ∷ Number line ∷ [])
status_words Unfinished = None
status_words (LongFile line) = Some (Text (codes "file") ∷ Text (codes "line") ∷ Number line ∷ Text (codes "too") ∷ Text (codes "long") ∷ [])

abbrev pub line_or_nothing : Option (List Word) → List ℕ
line_or_nothing None = []
line_or_nothing (Some words) = part_bytes (Line (Text (codes "mcexec:") ∷ words))

abbrev pub status_text : Status → List ℕ
status_text status = line_or_nothing (status_words status)
