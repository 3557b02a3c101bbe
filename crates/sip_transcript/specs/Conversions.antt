-- A transcript in version 2.
use Rattle.std.specs.Prelude.{ℕ, List}
use Rattle.std.specs.List.{flat_map}
use Rattle.sip_wire.specs.declared.version.Version.TheVariants.{Two}
use Rattle.sip_wire.specs.Spelling.{spelling}
use Rattle.sip_wire.specs.Transcript.{transcript}
use Rattle.sip_transcript.specs.Tales.{IsOfRun, Tale}

-- the same depth, queries, challenges and messages, spelled in version 2
abbrev pub in_version_2 : Tale → List ℕ
in_version_2 tale = transcript Two tale.depth tale.asks (flat_map (spelling Two) tale.replies)

-- the same of a run whose transcript is at hand
abbrev pub run_in_version_2 : {bytes : List ℕ} → IsOfRun bytes → List ℕ
run_in_version_2 run = transcript Two run.depth run.asks (flat_map (spelling Two) run.replies)
