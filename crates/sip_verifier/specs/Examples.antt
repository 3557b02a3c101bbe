-- The talk of `sub:1:2` over (3, 0, 5, 1) at the challenges (2, 10), and its transcript, byte by
-- byte.
use Rattle.std.specs.Prelude.{ℕ, List, [], ◌∷◌, ◌++◌}
use Rattle.sip_ports.specs.declared.port.TalkEvent.{TalkEvent}
use Rattle.sip_ports.specs.Ports.{outs, ins}
use Rattle.sip_subvec.specs.Examples.{reply_0, reply_1}
use Rattle.sip_wire.specs.declared.version.Version.TheVariants.{One}
use Rattle.sip_stream.specs.declared.form.Form.TheVariants.{Binary}
use Rattle.sip_verifier.specs.declared.task.Task.{Task}
use Rattle.sip_vector.specs.declared.query.Query.TheVariants.{Sub, Inner, Share}
use Rattle.sip_vector.specs.declared.update.Side.TheVariants.{First}

-- the opening, three updates, the end of the stream, the query
abbrev pub opening_bytes : List ℕ
opening_bytes =
    0x01 ∷ 0 ∷ 2 ∷ 1 ∷ 2 ∷
    0x02 ∷ 0 ∷ 0x29 ∷ 0 ∷ 3 ∷
    0 ∷ 0 ∷ 0 ∷ 0 ∷ 0 ∷ 0 ∷ 0 ∷ 0 ∷ 0 ∷ 0 ∷ 0 ∷ 0 ∷ 3 ∷
    0 ∷ 0 ∷ 0 ∷ 0 ∷ 2 ∷ 0 ∷ 0 ∷ 0 ∷ 0 ∷ 0 ∷ 0 ∷ 0 ∷ 5 ∷
    0 ∷ 0 ∷ 0 ∷ 0 ∷ 3 ∷ 0 ∷ 0 ∷ 0 ∷ 0 ∷ 0 ∷ 0 ∷ 0 ∷ 1 ∷
    0x03 ∷ 0 ∷ 0 ∷
    0x04 ∷ 0 ∷ 9 ∷ 1 ∷ 0 ∷ 0 ∷ 0 ∷ 1 ∷ 0 ∷ 0 ∷ 0 ∷ 2 ∷ []

-- the challenge 2, which leaves after reply 0
abbrev pub reveal_bytes : List ℕ
reveal_bytes = 0x05 ∷ 0 ∷ 8 ∷ 0 ∷ 0 ∷ 0 ∷ 0 ∷ 0 ∷ 0 ∷ 0 ∷ 2 ∷ []

abbrev pub whole_talk : List TalkEvent
whole_talk =
    outs opening_bytes ++ ins (reply_0 One) ++ outs reveal_bytes ++ ins reply_1
    ++ outs (0x06 ∷ 0 ∷ 0 ∷ [])

-- the head of its transcript: SIPT, version 1, depth 2, one query, its frame, and both challenges
abbrev pub transcript_head : List ℕ
transcript_head =
    0x53 ∷ 0x49 ∷ 0x50 ∷ 0x54 ∷ 1 ∷ 2 ∷ 1 ∷
    0x04 ∷ 0 ∷ 9 ∷ 1 ∷ 0 ∷ 0 ∷ 0 ∷ 1 ∷ 0 ∷ 0 ∷ 0 ∷ 2 ∷
    0 ∷ 0 ∷ 0 ∷ 0 ∷ 0 ∷ 0 ∷ 0 ∷ 2 ∷ 0 ∷ 0 ∷ 0 ∷ 0 ∷ 0 ∷ 0 ∷ 0 ∷ 10 ∷ []

-- the head of a transcript of version 2, of the query `share:0:1:2`
abbrev pub share_head : List ℕ
share_head =
    0x53 ∷ 0x49 ∷ 0x50 ∷ 0x54 ∷ 2 ∷ 2 ∷ 1 ∷
    0x04 ∷ 0 ∷ 10 ∷ 6 ∷ 0 ∷ 0 ∷ 0 ∷ 0 ∷ 1 ∷ 0 ∷ 0 ∷ 0 ∷ 2 ∷
    0 ∷ 0 ∷ 0 ∷ 0 ∷ 0 ∷ 0 ∷ 0 ∷ 2 ∷ 0 ∷ 0 ∷ 0 ∷ 0 ∷ 0 ∷ 0 ∷ 0 ∷ 10 ∷ []

-- tasks of one query at depth 2
abbrev pub one_query : Task
one_query = record { depth = 2; form = Binary; queries = record { items = Sub 1 2 ∷ [] } }

abbrev pub one_share : Task
one_share = record { depth = 2; form = Binary; queries = record { items = Share First 1 2 ∷ [] } }

-- a task of two queries at depth 2
abbrev pub two_queries : Task
two_queries = record { depth = 2; form = Binary; queries = record { items = Sub 1 2 ∷ Inner ∷ [] } }
