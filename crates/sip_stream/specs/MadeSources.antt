-- What is seen of the source of a made stream.
use Rattle.std.specs.Prelude.{ℕ, List, ◌++◌, drop, take}
use Rattle.sip_stream.specs.Made.{made_bytes}
use Rattle.sip_stream.specs.declared.made.MadeSource.{MadeSource}

-- the bytes to come: the rest of the records that were made, and those after them
abbrev pub made_left : MadeSource → List ℕ
made_left source =
    drop source.at (take source.end source.block)
    ++ made_bytes source.state source.more source.depth

-- the bytes to come that are held: the rest of the records that were made
abbrev pub made_ahead : MadeSource → List ℕ
made_ahead source = drop source.at (take source.end source.block)
