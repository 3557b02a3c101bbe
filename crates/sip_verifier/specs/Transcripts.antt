-- The transcript of a run: its head, with each query and its block of challenges, and then the
-- bytes that were received.
use Rattle.std.specs.Prelude.{ℕ, List, ◌++◌, length}
use Rattle.std.specs.List.{flat_map, zip}
use Rattle.sip_vector.specs.declared.query.Query.{Query}
use Rattle.sip_wire.specs.declared.version.Version.{Version}
use Rattle.sip_wire.specs.Transcript.{head_bytes, ask_bytes, transcript}
use Rattle.sip_verifier.specs.declared.task.Task.{Task}
use Rattle.sip_verifier.specs.Draws.{blocks}
use Rattle.sip_verifier.specs.Tasks.{version_of}

-- what a transcript begins with, and each query with its challenges
abbrev pub head_of : Version → ℕ → List (Query × List ℕ) → List ℕ
head_of version depth asks = head_bytes version depth (length asks)
    ++ flat_map (λ ask. ask_bytes version ask.0 ask.1) asks

-- a task's queries, each with its block of these challenges
abbrev pub asks_of : Task → List ℕ → List (Query × List ℕ)
asks_of task challenges = zip task.queries.items (blocks task challenges)

-- the transcript of a task with these challenges, where these bytes were received
abbrev pub transcript_of : Task → List ℕ → List ℕ → List ℕ
transcript_of task challenges received =
    transcript (version_of task) task.depth (asks_of task challenges) received
