-- A whole talk by hand: the vector (3, 0, 5, 1) of depth 2, the query for items 1 to 2, the
-- challenges 2 and 10; then the replies to the queries for the second moment and for the items of
-- count 4 at least, over the same vector; and the frames of the lookup of the nearest entry at item
-- 1 or above it, and of the third moment.
use Rattle.std.specs.Prelude.{◌≡◌, ℕ, pos, negsuc, IsTrue, List, [], ◌∷◌, ◌++◌, Some, None, Ok, Err}
use Rattle.sip_vector.specs.declared.update.Side.TheVariants.{First}
use Rattle.sip_vector.specs.declared.query.Query.TheVariants as queries
use Rattle.sip_wire.specs.declared.message.Message.{Message}
use Rattle.sip_wire.specs.declared.message.Message.TheVariants as messages
use Rattle.sip_wire.specs.declared.message.WireFault.{WireFault}
use Rattle.sip_wire.specs.declared.message.WireFault.TheVariants as faults
use Rattle.sip_wire.specs.declared.kind.Place.{Place}
use Rattle.sip_wire.specs.declared.kind.Place.TheVariants as places
use Rattle.sip_wire.specs.declared.version.Version.{Version}
use Rattle.sip_wire.specs.Spelling.{fits, spelling}
use Rattle.sip_wire.specs.Reading.{read_frame}

-- a message, where it is awaited, and its frame
pub record Example : Type 0 where
  pub place : Place
  pub message : Message
  pub frame : List ℕ

-- an example by its parts
abbrev pub example : Place → Message → List ℕ → Example
example place message frame = record { place = place; message = message; frame = frame }

-- each message fits, is spelled by its frame, and read back off it, whatever follows
abbrev pub AreSpelled : Version → List Example → List ℕ → Type 0
AreSpelled version [] rest = Unit {0}
AreSpelled version (r ∷ rows) rest =
    IsTrue (fits version r.message) × (spelling version r.message ≡ r.frame)
    × (read_frame version r.place (r.frame ++ rest) ≡ Ok (r.message, rest))
    × AreSpelled version rows rest

-- what the verifier sends
abbrev pub sent : List Example
sent = example places.ToHelper (messages.Open 1 2) (0x01 ∷ 0 ∷ 2 ∷ 1 ∷ 2 ∷ [])
    ∷ example places.ToHelper
    (messages.Updates
    (record {
      items = record { side = First; item = 0; delta = pos 3 }
          ∷ record { side = First; item = 2; delta = pos 5 }
          ∷ record { side = First; item = 3; delta = pos 1 } ∷ [];
    }))
    (0x02 ∷ 0 ∷ 0x29 ∷ 0 ∷ 3 ∷ 0 ∷ 0 ∷ 0 ∷ 0 ∷ 0 ∷ 0 ∷ 0 ∷ 0 ∷ 0 ∷ 0 ∷ 0 ∷ 0 ∷ 3 ∷ 0 ∷ 0 ∷ 0 ∷ 0 ∷ 2
    ∷ 0 ∷ 0 ∷ 0 ∷ 0 ∷ 0 ∷ 0 ∷ 0 ∷ 5 ∷ 0 ∷ 0 ∷ 0 ∷ 0 ∷ 3 ∷ 0 ∷ 0 ∷ 0 ∷ 0 ∷ 0 ∷ 0 ∷ 0 ∷ 1 ∷ [])
    ∷ example places.ToHelper messages.EndStream (0x03 ∷ 0 ∷ 0 ∷ [])
    ∷ example places.ToHelper (messages.Query (queries.Sub 1 2))
    (0x04 ∷ 0 ∷ 9 ∷ 1 ∷ 0 ∷ 0 ∷ 0 ∷ 1 ∷ 0 ∷ 0 ∷ 0 ∷ 2 ∷ [])
    ∷ example places.ToHelper (messages.Reveal 2)
    (0x05 ∷ 0 ∷ 8 ∷ 0 ∷ 0 ∷ 0 ∷ 0 ∷ 0 ∷ 0 ∷ 0 ∷ 2 ∷ [])
    ∷ example places.ToHelper messages.Bye (0x06 ∷ 0 ∷ 0 ∷ [])
    ∷ []

-- what the helper answers to the query for items 1 to 2
abbrev pub items_replies : List Example
items_replies =
    example places.Entries
    (messages.Entries (record { items = record { index = 2; value = pos 5 } ∷ [] }))
    (0x13 ∷ 0 ∷ 0x0e ∷ 0 ∷ 1 ∷ 0 ∷ 0 ∷ 0 ∷ 2 ∷ 0 ∷ 0 ∷ 0 ∷ 0 ∷ 0 ∷ 0 ∷ 0 ∷ 5 ∷ [])
    ∷ example places.Entries (messages.Siblings (Some 3) (Some 1))
    (0x14 ∷ 0 ∷ 0x11 ∷ 3 ∷ 0 ∷ 0 ∷ 0 ∷ 0 ∷ 0 ∷ 0 ∷ 0 ∷ 3 ∷ 0 ∷ 0 ∷ 0 ∷ 0 ∷ 0 ∷ 0 ∷ 0 ∷ 1 ∷ [])
    ∷ example places.Siblings (messages.Siblings None None) (0x14 ∷ 0 ∷ 1 ∷ 0 ∷ [])
    ∷ []

-- to the query for the second moment
abbrev pub moment_replies : List Example
moment_replies =
    example places.Claim (messages.Claim (pos 35))
    (0x11 ∷ 0 ∷ 8 ∷ 0 ∷ 0 ∷ 0 ∷ 0 ∷ 0 ∷ 0 ∷ 0 ∷ 0x23 ∷ [])
    ∷ example places.Poly (messages.Poly 34 2305843009213693893 25)
    (0x12 ∷ 0 ∷ 0x18 ∷ 0 ∷ 0 ∷ 0 ∷ 0 ∷ 0 ∷ 0 ∷ 0 ∷ 0x22 ∷ 0x1f ∷ 0xff ∷ 0xff ∷ 0xff ∷ 0xff
    ∷ 0xff ∷ 0xff ∷ 0xc5 ∷ 0 ∷ 0 ∷ 0 ∷ 0 ∷ 0 ∷ 0 ∷ 0 ∷ 0x19 ∷ [])
    ∷ example places.Poly (messages.Poly 9 0 0)
    (0x12 ∷ 0 ∷ 0x18 ∷ 0 ∷ 0 ∷ 0 ∷ 0 ∷ 0 ∷ 0 ∷ 0 ∷ 9 ∷ 0 ∷ 0 ∷ 0 ∷ 0 ∷ 0 ∷ 0 ∷ 0 ∷ 0 ∷ 0 ∷ 0 ∷ 0
    ∷ 0 ∷ 0 ∷ 0 ∷ 0 ∷ 0 ∷ [])
    ∷ []

-- to the query for the items of count 4 at least
abbrev pub heavy_replies : List Example
heavy_replies =
    example places.Leaves
    (messages.Leaves
    (record { items = record { item = 2; count = 5 } ∷ record { item = 3; count = 1 } ∷ [] }))
    (0x15 ∷ 0 ∷ 0x1a ∷ 0 ∷ 2 ∷ 0 ∷ 0 ∷ 0 ∷ 2 ∷ 0 ∷ 0 ∷ 0 ∷ 0 ∷ 0 ∷ 0 ∷ 0 ∷ 5 ∷ 0 ∷ 0 ∷ 0 ∷ 3 ∷ 0 ∷ 0
    ∷ 0 ∷ 0 ∷ 0 ∷ 0 ∷ 0 ∷ 1 ∷ [])
    ∷ example places.Leaves messages.LevelEnd (0x17 ∷ 0 ∷ 0 ∷ [])
    ∷ example places.Nodes
    (messages.Nodes (record { items = record { index = 0; hash = 9; count = 3 } ∷ [] }))
    (0x16 ∷ 0 ∷ 0x16 ∷ 0 ∷ 1 ∷ 0 ∷ 0 ∷ 0 ∷ 0 ∷ 0 ∷ 0 ∷ 0 ∷ 0 ∷ 0 ∷ 0 ∷ 0 ∷ 9 ∷ 0 ∷ 0 ∷ 0 ∷ 0 ∷ 0
    ∷ 0 ∷ 0 ∷ 3 ∷ [])
    ∷ example places.Nodes messages.LevelEnd (0x17 ∷ 0 ∷ 0 ∷ [])
    ∷ []

-- a lookup: what is asked, what is found, and the end
abbrev pub look_frames : List Example
look_frames =
    example places.AskedLook (messages.AskLook 3 1)
    (0x21 ∷ 0 ∷ 9 ∷ 3 ∷ 0 ∷ 0 ∷ 0 ∷ 0 ∷ 0 ∷ 0 ∷ 0 ∷ 1 ∷ [])
    ∷ example places.Found (messages.Found 1 2)
    (0x22 ∷ 0 ∷ 9 ∷ 1 ∷ 0 ∷ 0 ∷ 0 ∷ 0 ∷ 0 ∷ 0 ∷ 0 ∷ 2 ∷ [])
    ∷ example places.Found (messages.Found 0 0)
    (0x22 ∷ 0 ∷ 9 ∷ 0 ∷ 0 ∷ 0 ∷ 0 ∷ 0 ∷ 0 ∷ 0 ∷ 0 ∷ 0 ∷ [])
    ∷ example places.Found (messages.Refuse 1) (0x18 ∷ 0 ∷ 1 ∷ 1 ∷ [])
    ∷ example places.AskedLook messages.End (0x23 ∷ 0 ∷ 0 ∷ [])
    ∷ []

-- a third moment: what is asked, the claim and both polynomials, and the end
abbrev pub power_frames : List Example
power_frames =
    example places.AskedMoment (messages.AskMoment 0 3) (0x24 ∷ 0 ∷ 2 ∷ 0 ∷ 3 ∷ [])
    ∷ example places.Claim (messages.Claim (pos 153))
    (0x11 ∷ 0 ∷ 8 ∷ 0 ∷ 0 ∷ 0 ∷ 0 ∷ 0 ∷ 0 ∷ 0 ∷ 0x99 ∷ [])
    ∷ example (places.Power 3)
    (messages.Power (record {
      items =
          152 ∷ 2305843009213693570 ∷ 321 ∷ 2305843009213693860 ∷ [];
    }))
    (0x25 ∷ 0 ∷ 0x20 ∷ 0 ∷ 0 ∷ 0 ∷ 0 ∷ 0 ∷ 0 ∷ 0 ∷ 0x98 ∷ 0x1f ∷ 0xff ∷ 0xff ∷ 0xff ∷ 0xff ∷ 0xff
    ∷ 0xfe ∷ 0x82 ∷ 0 ∷ 0 ∷ 0 ∷ 0 ∷ 0 ∷ 0 ∷ 1 ∷ 0x41 ∷ 0x1f ∷ 0xff ∷ 0xff ∷ 0xff ∷ 0xff ∷ 0xff
    ∷ 0xff ∷ 0xa4 ∷ [])
    ∷ example (places.Power 3)
    (messages.Power (record { items = 2305843009213693924 ∷ 0 ∷ 0 ∷ 0 ∷ [] }))
    (0x25 ∷ 0 ∷ 0x20 ∷ 0x1f ∷ 0xff ∷ 0xff ∷ 0xff ∷ 0xff ∷ 0xff ∷ 0xff ∷ 0xe4 ∷ 0 ∷ 0 ∷ 0 ∷ 0 ∷ 0 ∷ 0
    ∷ 0 ∷ 0 ∷ 0 ∷ 0 ∷ 0 ∷ 0 ∷ 0 ∷ 0 ∷ 0 ∷ 0 ∷ 0 ∷ 0 ∷ 0 ∷ 0 ∷ 0 ∷ 0 ∷ 0 ∷ 0 ∷ [])
    ∷ example (places.Power 3) (messages.Refuse 1) (0x18 ∷ 0 ∷ 1 ∷ 1 ∷ [])
    ∷ example places.AskedMoment messages.End (0x23 ∷ 0 ∷ 0 ∷ [])
    ∷ []

-- a helper that has records of its own: how many it is to hear, and what it then holds; and what
-- else may be asked there
abbrev pub recall_frames : List Example
recall_frames =
    example places.AskedQuestion (messages.Recall 3)
    (0x27 ∷ 0 ∷ 8 ∷ 0 ∷ 0 ∷ 0 ∷ 0 ∷ 0 ∷ 0 ∷ 0 ∷ 3 ∷ [])
    ∷ example places.Held
    (messages.Held (record {
      records = 3;
      first = 9;
      second = 0;
      fingerprint = 0xb8261ae7db4fab00;
    }))
    (0x26 ∷ 0 ∷ 0x20 ∷ 0 ∷ 0 ∷ 0 ∷ 0 ∷ 0 ∷ 0 ∷ 0 ∷ 3 ∷ 0 ∷ 0 ∷ 0 ∷ 0 ∷ 0 ∷ 0 ∷ 0 ∷ 9 ∷ 0 ∷ 0 ∷ 0 ∷ 0
    ∷ 0 ∷ 0 ∷ 0 ∷ 0 ∷ 0xb8 ∷ 0x26 ∷ 0x1a ∷ 0xe7 ∷ 0xdb ∷ 0x4f ∷ 0xab ∷ 0 ∷ [])
    ∷ example places.AskedQuestion (messages.AskLook 3 1)
    (0x21 ∷ 0 ∷ 9 ∷ 3 ∷ 0 ∷ 0 ∷ 0 ∷ 0 ∷ 0 ∷ 0 ∷ 0 ∷ 1 ∷ [])
    ∷ example places.AskedQuestion (messages.AskMoment 0 3) (0x24 ∷ 0 ∷ 2 ∷ 0 ∷ 3 ∷ [])
    ∷ example places.AskedQuestion (messages.Reveal 2)
    (0x05 ∷ 0 ∷ 8 ∷ 0 ∷ 0 ∷ 0 ∷ 0 ∷ 0 ∷ 0 ∷ 0 ∷ 2 ∷ [])
    ∷ example places.AskedQuestion messages.Bye (0x06 ∷ 0 ∷ 0 ∷ [])
    ∷ []

-- the query for entries of 3 at least, and a mark of -9; these stand in version 2
abbrev pub above_frames : List Example
above_frames =
    example places.AskedQuestion (messages.Query (queries.Above First 3))
    (0x04 ∷ 0 ∷ 0x0a ∷ 7 ∷ 0 ∷ 0 ∷ 0 ∷ 0 ∷ 0 ∷ 0 ∷ 0 ∷ 0 ∷ 3 ∷ [])
    ∷ example places.ToHelper (messages.Query (queries.Above First 3))
    (0x04 ∷ 0 ∷ 0x0a ∷ 7 ∷ 0 ∷ 0 ∷ 0 ∷ 0 ∷ 0 ∷ 0 ∷ 0 ∷ 0 ∷ 3 ∷ [])
    ∷ example places.Marks
    (messages.Marks
    (record { items = record { item = 2; value = negsuc 8; weight = 9 } ∷ [] }))
    (0x28 ∷ 0 ∷ 0x1a ∷ 0 ∷ 1 ∷ 0 ∷ 0 ∷ 0 ∷ 0 ∷ 0 ∷ 0 ∷ 0 ∷ 2 ∷ 0xff ∷ 0xff ∷ 0xff ∷ 0xff ∷ 0xff
    ∷ 0xff ∷ 0xff ∷ 0xf7 ∷ 0 ∷ 0 ∷ 0 ∷ 0 ∷ 0 ∷ 0 ∷ 0 ∷ 9 ∷ [])
    ∷ example places.Marks messages.LevelEnd (0x17 ∷ 0 ∷ 0 ∷ [])
    ∷ example places.Marks (messages.Refuse 2) (0x18 ∷ 0 ∷ 1 ∷ 2 ∷ [])
    ∷ []

-- what is asked may be any number: whether it may be asked is no matter of spelling
abbrev pub any_asks : List Example
any_asks =
    example places.AskedLook (messages.AskLook 0 18446744073709551615)
    (0x21 ∷ 0 ∷ 9 ∷ 0 ∷ 0xff ∷ 0xff ∷ 0xff ∷ 0xff ∷ 0xff ∷ 0xff ∷ 0xff ∷ 0xff ∷ [])
    ∷ example places.AskedMoment (messages.AskMoment 255 9) (0x24 ∷ 0 ∷ 2 ∷ 0xff ∷ 9 ∷ [])
    ∷ []

-- a place, bytes there that are no frame, and their fault
pub record Faulty : Type 0 where
  pub place : Place
  pub frame : List ℕ
  pub fault : WireFault

-- a fault by its parts
abbrev pub faulty : Place → List ℕ → WireFault → Faulty
faulty place frame fault = record { place = place; frame = frame; fault = fault }

-- all have their faults
abbrev pub HaveFaults : Version → List Faulty → Type 0
HaveFaults version [] = Unit {0}
HaveFaults version (r ∷ rows) =
    (read_frame version r.place r.frame ≡ Err r.fault) × HaveFaults version rows

-- each fault where a Found is awaited
abbrev pub found_faults : List Faulty
found_faults = faulty places.Found (0x22 ∷ 0 ∷ []) faults.Closed
    ∷ faulty places.Found (0x22 ∷ 0 ∷ 9 ∷ 1 ∷ 0 ∷ 0 ∷ 0 ∷ 0 ∷ 0 ∷ 0 ∷ 0 ∷ []) faults.Closed
    ∷ faulty places.Found (0x21 ∷ 0 ∷ 9 ∷ []) faults.BadKind
    ∷ faulty places.Found (0x14 ∷ 0 ∷ 1 ∷ []) faults.BadKind
    ∷ faulty places.Found (0x22 ∷ 0 ∷ 8 ∷ []) faults.BadLength
    ∷ faulty places.Found (0x22 ∷ 0 ∷ 9 ∷ 2 ∷ 0 ∷ 0 ∷ 0 ∷ 0 ∷ 0 ∷ 0 ∷ 0 ∷ 0 ∷ []) faults.BadNumber
    ∷ faulty places.Found (0x22 ∷ 0 ∷ 9 ∷ 0 ∷ 0 ∷ 0 ∷ 0 ∷ 0 ∷ 0 ∷ 0 ∷ 0 ∷ 1 ∷ []) faults.BadNumber
    ∷ faulty places.Found (0x18 ∷ 0 ∷ 9 ∷ []) faults.BadLength
    ∷ faulty places.Found (0x18 ∷ 0 ∷ 1 ∷ 5 ∷ []) faults.BadNumber
    ∷ []

-- each fault where a power is awaited; one of another degree has another length
abbrev pub power_faults : List Faulty
power_faults = faulty (places.Power 3) (0x25 ∷ 0 ∷ []) faults.Closed
    ∷ faulty (places.Power 3) (0x25 ∷ 0 ∷ 0x20 ∷ 0 ∷ []) faults.Closed
    ∷ faulty (places.Power 3) (0x12 ∷ 0 ∷ 0x18 ∷ []) faults.BadKind
    ∷ faulty (places.Power 3) (0x25 ∷ 0 ∷ 0x18 ∷ []) faults.BadLength
    ∷ faulty (places.Power 3) (0x25 ∷ 0 ∷ 0x28 ∷ []) faults.BadLength
    ∷ faulty (places.Power 9) (0x25 ∷ 0 ∷ 0x50 ∷ []) faults.BadLength
    ∷ faulty (places.Power 3)
    (0x25 ∷ 0 ∷ 0x20 ∷ 0 ∷ 0 ∷ 0 ∷ 0 ∷ 0 ∷ 0 ∷ 0 ∷ 0x98 ∷ 0x1f ∷ 0xff ∷ 0xff ∷ 0xff ∷ 0xff ∷ 0xff
    ∷ 0xfe ∷ 0x82 ∷ 0 ∷ 0 ∷ 0 ∷ 0 ∷ 0 ∷ 0 ∷ 1 ∷ 0x41 ∷ 0x1f ∷ 0xff ∷ 0xff ∷ 0xff ∷ 0xff ∷ 0xff
    ∷ 0xff ∷ 0xff ∷ []) faults.BadNumber
    ∷ faulty (places.Power 3) (0x18 ∷ 0 ∷ 1 ∷ 5 ∷ []) faults.BadNumber
    ∷ []

-- where lookups or moments are asked no other frame may stand, nor may these stand elsewhere
abbrev pub stray_frames : List Faulty
stray_frames = faulty places.AskedLook (0x24 ∷ 0 ∷ 2 ∷ []) faults.BadKind
    ∷ faulty places.AskedLook (0x06 ∷ 0 ∷ 0 ∷ []) faults.BadKind
    ∷ faulty places.AskedLook (0x18 ∷ 0 ∷ 1 ∷ []) faults.BadKind
    ∷ faulty places.AskedLook (0x21 ∷ 0 ∷ 8 ∷ []) faults.BadLength
    ∷ faulty places.AskedLook (0x23 ∷ 0 ∷ 1 ∷ []) faults.BadLength
    ∷ faulty places.AskedMoment (0x21 ∷ 0 ∷ 9 ∷ []) faults.BadKind
    ∷ faulty places.AskedMoment (0x24 ∷ 0 ∷ 1 ∷ []) faults.BadLength
    ∷ faulty places.ToHelper (0x21 ∷ 0 ∷ 9 ∷ []) faults.BadKind
    ∷ faulty places.ToHelper (0x23 ∷ 0 ∷ 0 ∷ []) faults.BadKind
    ∷ faulty places.ToHelper (0x24 ∷ 0 ∷ 2 ∷ []) faults.BadKind
    ∷ faulty places.ToVerifier (0x22 ∷ 0 ∷ 9 ∷ []) faults.BadKind
    ∷ faulty places.ToVerifier (0x25 ∷ 0 ∷ 0x20 ∷ []) faults.BadKind
    ∷ faulty places.Poly (0x25 ∷ 0 ∷ 8 ∷ []) faults.BadKind
    ∷ []

-- each fault where what a helper holds is awaited, and where it is asked
abbrev pub held_faults : List Faulty
held_faults = faulty places.Held (0x26 ∷ 0 ∷ 0x20 ∷ []) faults.Closed
    ∷ faulty places.Held (0x26 ∷ 0 ∷ 0x20 ∷ 0 ∷ 0 ∷ 0 ∷ 0 ∷ 0 ∷ 0 ∷ 0 ∷ 3 ∷ 0 ∷ 0 ∷ 0 ∷ 0 ∷ 0 ∷ 0
    ∷ 0 ∷ 9 ∷ 0 ∷ 0 ∷ 0 ∷ 0 ∷ 0 ∷ 0 ∷ 0 ∷ 0 ∷ 0xb8 ∷ 0x26 ∷ 0x1a ∷ 0xe7 ∷ 0xdb ∷ 0x4f ∷ 0xab ∷ [])
    faults.Closed
    ∷ faulty places.Held (0x18 ∷ 0 ∷ 1 ∷ 1 ∷ []) faults.BadKind
    ∷ faulty places.Held (0x27 ∷ 0 ∷ 8 ∷ 0 ∷ 0 ∷ 0 ∷ 0 ∷ 0 ∷ 0 ∷ 0 ∷ 3 ∷ []) faults.BadKind
    ∷ faulty places.Held (0x26 ∷ 0 ∷ 0x1f ∷ []) faults.BadLength
    ∷ faulty places.Held (0x26 ∷ 0 ∷ 0x21 ∷ []) faults.BadLength
    ∷ faulty places.AskedQuestion (0x27 ∷ 0 ∷ 8 ∷ 0 ∷ 0 ∷ 0 ∷ 0 ∷ 0 ∷ 0 ∷ 0 ∷ []) faults.Closed
    ∷ faulty places.AskedQuestion (0x27 ∷ 0 ∷ 7 ∷ []) faults.BadLength
    ∷ faulty places.AskedQuestion (0x27 ∷ 0 ∷ 9 ∷ []) faults.BadLength
    ∷ faulty places.AskedQuestion (0x23 ∷ 0 ∷ 0 ∷ []) faults.BadKind
    ∷ faulty places.AskedQuestion (0x26 ∷ 0 ∷ 0x20 ∷ []) faults.BadKind
    ∷ faulty places.AskedQuestion (0x28 ∷ 0 ∷ 0x1a ∷ []) faults.BadKind
    ∷ faulty places.ToHelper (0x27 ∷ 0 ∷ 8 ∷ []) faults.BadKind
    ∷ faulty places.ToVerifier (0x26 ∷ 0 ∷ 0x20 ∷ []) faults.BadKind
    ∷ faulty places.AskedLook (0x27 ∷ 0 ∷ 8 ∷ []) faults.BadKind
    ∷ faulty places.AskedMoment (0x27 ∷ 0 ∷ 8 ∷ []) faults.BadKind
    ∷ []

-- each fault where marks are awaited: of none, of 257, of another count, above the bound of a
-- value, above their weight, or of a weight that is no element
abbrev pub mark_faults : List Faulty
mark_faults = faulty places.Marks (0x28 ∷ 0 ∷ 0x1a ∷ []) faults.Closed
    ∷ faulty places.Marks (0x16 ∷ 0 ∷ 0x1a ∷ []) faults.BadKind
    ∷ faulty places.Marks (0x28 ∷ 0 ∷ 2 ∷ []) faults.BadLength
    ∷ faulty places.Marks (0x28 ∷ 0 ∷ 0x19 ∷ []) faults.BadLength
    ∷ faulty places.Marks (0x28 ∷ 0x18 ∷ 0x1a ∷ []) faults.BadLength
    ∷ faulty places.Marks (0x28 ∷ 0 ∷ 0x1a ∷ 0 ∷ 0 ∷ 0 ∷ 0 ∷ 0 ∷ 0 ∷ 0 ∷ 0 ∷ 0 ∷ 2 ∷ 0xff ∷ 0xff
    ∷ 0xff ∷ 0xff ∷ 0xff ∷ 0xff ∷ 0xff ∷ 0xf7 ∷ 0 ∷ 0 ∷ 0 ∷ 0 ∷ 0 ∷ 0 ∷ 0 ∷ 9 ∷ [])
    faults.BadCount
    ∷ faulty places.Marks (0x28 ∷ 0 ∷ 0x1a ∷ 0 ∷ 2 ∷ 0 ∷ 0 ∷ 0 ∷ 0 ∷ 0 ∷ 0 ∷ 0 ∷ 2 ∷ 0xff ∷ 0xff
    ∷ 0xff ∷ 0xff ∷ 0xff ∷ 0xff ∷ 0xff ∷ 0xf7 ∷ 0 ∷ 0 ∷ 0 ∷ 0 ∷ 0 ∷ 0 ∷ 0 ∷ 9 ∷ [])
    faults.BadCount
    ∷ faulty places.Marks (0x28 ∷ 0 ∷ 0x1a ∷ 0 ∷ 1 ∷ 0 ∷ 0 ∷ 0 ∷ 0 ∷ 0 ∷ 0 ∷ 0 ∷ 2 ∷ 0x10 ∷ 0 ∷ 0
    ∷ 0 ∷ 0 ∷ 0 ∷ 0 ∷ 0 ∷ 0x10 ∷ 0 ∷ 0 ∷ 0 ∷ 0 ∷ 0 ∷ 0 ∷ 0 ∷ []) faults.BadNumber
    ∷ faulty places.Marks (0x28 ∷ 0 ∷ 0x1a ∷ 0 ∷ 1 ∷ 0 ∷ 0 ∷ 0 ∷ 0 ∷ 0 ∷ 0 ∷ 0 ∷ 2 ∷ 0xff ∷ 0xff
    ∷ 0xff ∷ 0xff ∷ 0xff ∷ 0xff ∷ 0xff ∷ 0xf7 ∷ 0 ∷ 0 ∷ 0 ∷ 0 ∷ 0 ∷ 0 ∷ 0 ∷ 8 ∷ [])
    faults.BadNumber
    ∷ faulty places.Marks (0x28 ∷ 0 ∷ 0x32 ∷ 0 ∷ 2 ∷ 0 ∷ 0 ∷ 0 ∷ 0 ∷ 0 ∷ 0 ∷ 0 ∷ 2 ∷ 0 ∷ 0 ∷ 0 ∷ 0
    ∷ 0 ∷ 0 ∷ 0 ∷ 9 ∷ 0 ∷ 0 ∷ 0 ∷ 0 ∷ 0 ∷ 0 ∷ 0 ∷ 9 ∷ 0 ∷ 0 ∷ 0 ∷ 0 ∷ 0 ∷ 0 ∷ 0 ∷ 3 ∷ 0 ∷ 0 ∷ 0
    ∷ 0 ∷ 0 ∷ 0 ∷ 0 ∷ 9 ∷ 0 ∷ 0 ∷ 0 ∷ 0 ∷ 0 ∷ 0 ∷ 0 ∷ 8 ∷ []) faults.BadNumber
    ∷ faulty places.Marks (0x28 ∷ 0 ∷ 0x1a ∷ 0 ∷ 1 ∷ 0 ∷ 0 ∷ 0 ∷ 0 ∷ 0 ∷ 0 ∷ 0 ∷ 2 ∷ 0xff ∷ 0xff
    ∷ 0xff ∷ 0xff ∷ 0xff ∷ 0xff ∷ 0xff ∷ 0xf7 ∷ 0x1f ∷ 0xff ∷ 0xff ∷ 0xff ∷ 0xff ∷ 0xff ∷ 0xff
    ∷ 0xff ∷ []) faults.BadNumber
    ∷ faulty places.ToVerifier (0x28 ∷ 0 ∷ 0x1a ∷ []) faults.BadKind
    ∷ faulty places.Leaves (0x28 ∷ 0 ∷ 0x1a ∷ []) faults.BadKind
    ∷ []

-- in version 1 there are no marks, and no query for large entries of any stream
abbrev pub no_above : List Faulty
no_above =
    faulty places.Marks (0x28 ∷ 0 ∷ 0x1a ∷ 0 ∷ 1 ∷ 0 ∷ 0 ∷ 0 ∷ 0 ∷ 0 ∷ 0 ∷ 0 ∷ 2 ∷ 0xff ∷ 0xff
    ∷ 0xff ∷ 0xff ∷ 0xff ∷ 0xff ∷ 0xff ∷ 0xf7 ∷ 0 ∷ 0 ∷ 0 ∷ 0 ∷ 0 ∷ 0 ∷ 0 ∷ 9 ∷ []) faults.BadKind
    ∷ faulty places.Marks (0x28 ∷ 0 ∷ 2 ∷ []) faults.BadKind
    ∷ faulty places.ToHelper (0x04 ∷ 0 ∷ 0x0a ∷ 7 ∷ 0 ∷ 0 ∷ 0 ∷ 0 ∷ 0 ∷ 0 ∷ 0 ∷ 0 ∷ 3 ∷ [])
    faults.BadCount
    ∷ faulty places.AskedQuestion
    (0x04 ∷ 0 ∷ 0x0a ∷ 7 ∷ 0 ∷ 0 ∷ 0 ∷ 0 ∷ 0 ∷ 0 ∷ 0 ∷ 0 ∷ 3 ∷ []) faults.BadCount
    ∷ []
