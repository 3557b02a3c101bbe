-- What is seen of files in memory.
use Rattle.std.specs.Prelude.{◌≡◌, [], ℕ, Bool, List, option_map, option_and_then}
use Rattle.std.specs.List.{slice_get}
use Rattle.std.specs.declared.option.Option.{Option}
use Rattle.sip_ports.specs.Calls.{failed_of, next_fails}
use Rattle.sip_sketch.specs.declared.memory_files.MemoryFiles.{MemoryFiles}

-- what the file of this number has; one that is not in the list is missing
abbrev pub file_of : MemoryFiles → ℕ → Option (List ℕ)
file_of files number = option_and_then (λ file. option_map (λ bytes. bytes.items) file)
    (slice_get files.files.items number)

-- the numbers of the loads that fail
abbrev pub files_fails : MemoryFiles → List ℕ
files_fails files = files.fails.items

-- how many loads were made
abbrev pub files_calls : MemoryFiles → ℕ
files_calls files = files.made

-- the next load is to fail
abbrev pub files_next_fails : MemoryFiles → Bool
files_next_fails files = next_fails (files_fails files) (files_calls files)

-- how many of the loads failed
abbrev pub files_faults : MemoryFiles → ℕ
files_faults files = failed_of (files_fails files) (files_calls files)

-- how often memory was refused to a load
abbrev pub files_wants : MemoryFiles → ℕ
files_wants files = files.wants

-- no load is to fail
abbrev pub files_is_sure : MemoryFiles → Type 0
files_is_sure files = files_fails files ≡ []
