-- What is loaded as a sketch.
use Rattle.std.specs.Prelude.{◌≡◌, ℕ, List, None, Some, Err}
use Rattle.std.specs.declared.option.Option.{Option}
use Rattle.sip_sketch.specs.Fields.{read}
use Rattle.sip_sketch.specs.Sketches.{sketch_file}

-- a file is no sketch from this byte on; one that is missing, from the first
abbrev pub IsBadFile : Option (List ℕ) → ℕ → Type 0
IsBadFile None offset = offset ≡ 0
IsBadFile (Some bytes) offset = read sketch_file bytes ≡ Err offset
