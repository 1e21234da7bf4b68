-- A description that is put in, and descriptors that are taken away.
use Rattle.file_model.specs.Files.{Files, descriptors_of, lowest_free, opened}
use Rattle.file_model.specs.declared.descriptions.Description.{Description}
use Rattle.file_model.specs.declared.descriptions.Target.TheVariants.{OfConsole}
use Rattle.mck_word.specs.Maps.{cut, put}
use Rattle.std.specs.Prelude.{false, true, ℕ}

-- under its lowest free number, and under the lowest free descriptor of the process
abbrev pub with_file_opened : ℕ → Description → Files → Files
with_file_opened process x files =
    let d = lowest_free files.descriptions in
    let fds = descriptors_of files process in
    record files {
      descriptions = put files.descriptions d x;
      descriptors = put files.descriptors process (put fds (lowest_free fds) d);
    }

-- the descriptors 0, 1 and 2 of a process on its console
abbrev pub with_console_opened : ℕ → Files → Files
with_console_opened guest files = opened guest (OfConsole guest) false true false (opened guest (OfConsole guest) false true false (opened guest (OfConsole guest) true false false files))

-- without a descriptor of a process, and without all of them
abbrev pub without_descriptor : ℕ → ℕ → Files → Files
without_descriptor process fd files = record files { descriptors = put files.descriptors process (cut (descriptors_of files process) fd) }

abbrev pub without_descriptors : ℕ → Files → Files
without_descriptors process files = record files { descriptors = cut files.descriptors process }
