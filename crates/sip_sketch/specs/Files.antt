-- What is loaded of files that are read whole.
use Rattle.std.specs.Prelude.{◌≡◌, ℕ, List, ⊤, None, Some}
use Rattle.std.specs.declared.option.Option.{Option}
use Rattle.sip_ports.specs.Desk.{loaded}

-- Where files are told, each by its number, this was loaded of the one of this number. `None` is a
-- file that is missing.
abbrev pub Finds : Option (ℕ → Option (List ℕ)) → ℕ → Option (List ℕ) → Type 0
Finds None part file = ⊤
Finds (Some files) part file = file ≡ loaded (files part)
