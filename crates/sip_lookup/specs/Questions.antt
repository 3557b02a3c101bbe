-- How lookups are asked in a run, and how the replies are judged.
--
-- Reply 0 of a lookup is a Found and behind it the sub-vector's reply 0, which is asked for only
-- once the Found was taken whole and names a place that may be found.
use Rattle.std.specs.Prelude.{◌≡◌, ◌≢◌, ◌⊎◌, ℕ, false, IsTrue, ⊤, List, [], ◌∷◌, ◌++◌, Option}
use Rattle.std.specs.Prelude.{Result, Ok, Err, if◌then◌else◌}
use Rattle.sip_field.specs.Moduli.{m61_modulus}
use Rattle.sip_ports.specs.declared.port.TalkEvent.{TalkEvent}
use Rattle.sip_ports.specs.Ports.{ins}
use Rattle.sip_vector.specs.declared.query.Query.TheVariants.{Sub}
use Rattle.sip_vector.specs.declared.update.Entry.{Entry}
use Rattle.sip_vector.specs.declared.update.Side.TheVariants.{First}
use Rattle.sip_vector.specs.declared.update.Update.{Update}
use Rattle.sip_vector.specs.Answers.{pairs}
use Rattle.sip_vector.specs.Streams.{vector}
use Rattle.sip_vector.specs.Trees.{root}
use Rattle.sip_wire.specs.declared.message.Message.TheVariants as messages
use Rattle.sip_wire.specs.declared.message.Reason.{Reason}
use Rattle.sip_wire.specs.declared.message.Reason.TheVariants as reasons
use Rattle.sip_wire.specs.declared.version.Version.{Version}
use Rattle.sip_wire.specs.Spelling.{spelling}
use Rattle.sip_replies.specs.Protocols.{Protocol}
use Rattle.sip_replies.specs.Replies as general
use Rattle.sip_replies.specs.Replies.{Fault, MayEnd}
use Rattle.sip_replies.specs.Talks.{asked, sent}
use Rattle.sip_subvec.specs.AcceptsSub.{Stated}
use Rattle.sip_subvec.specs.Protocol.{sub_asked, sub_protocol}
use Rattle.sip_verifier.specs.runs.Manners as manners
use Rattle.sip_verifier.specs.runs.Manners.{Asking}
use Rattle.sip_lookup.specs.AcceptsLook.{parts}
use Rattle.sip_lookup.specs.Frames.{ask_message, found_message, read_found}
use Rattle.sip_lookup.specs.Lookups.{Looked, are_alone, is_possible, range_of, stated_answer}
use Rattle.sip_lookup.specs.Reports.{look_line}
use Rattle.sip_lookup.specs.declared.lookup.Lookup.{Lookup}

-- a lookup with its block of challenges and the reply bytes that were taken
abbrev pub Question : Type 0
Question = manners.Question Lookup

-- ---- what is said

-- The query for the interval of the place that was found, and the replies to it, the first of which
-- stands behind the Found; a Found with a fault, or with a bad place, is all that is said.
abbrev pub said_behind : Version → ℕ → Question → List ℕ → List (List ℕ)
    → Result (Option ℕ × List ℕ) Reason → List TalkEvent
said_behind version depth q first more (Err reason) = ins first
said_behind version depth q first more (Ok x) =
    if is_possible depth q.query x.0
    then ins (spelling version (found_message x.0))
    ++ asked version
    (messages.Query (Sub (range_of depth q.query x.0).0 (range_of depth q.query x.0).1)) q.block
    (x.1 ∷ more)
    else ins first

abbrev pub said_back : Version → ℕ → Question → List (List ℕ) → List TalkEvent
said_back version depth q [] = []
said_back version depth q (first ∷ more) =
    said_behind version depth q first more (read_found version first)

-- the Ask, and what is said behind it
abbrev pub said_for : Version → ℕ → Question → List TalkEvent
said_for version depth q =
    sent version (ask_message q.query ∷ []) ++ said_back version depth q q.replies

-- ---- the states of a question

module _ (version : Version) (depth : ℕ) (stream : List Update) where
  -- how the replies are read that follow a Found, and what they come to: by the root of side 0
  abbrev pub protocol_at : Question → Option ℕ → Protocol Stated
  protocol_at q found = sub_protocol (sub_asked version m61_modulus
      (root m61_modulus (vector depth stream First) q.block)
      (range_of depth q.query found).0 (range_of depth q.query found).1 q.block)

  -- A Found came whole, its place may be found, and this holds of the place and of the
  -- sub-vector's replies.
  pub record IsBehindFound (Holds : Option ℕ → List (List ℕ) → Type 0) (q : Question)
      : Type 0 where
    pub found : Option ℕ
    pub inner : List (List ℕ)
    pub split : parts version q.replies ≡ Ok (found, inner)
    pub possible : IsTrue (is_possible depth q.query found)
    pub holds : Holds found inner

  -- the replies about the interval are accepted and state these entries
  abbrev pub States : Question → Option ℕ → List (List ℕ) → List Entry → Type 0
  States q found inner entries =
      general.IsAccepted (protocol_at q found) q.block inner (pairs entries)

  -- They are accepted, their entries stand alone, and this is the answer that these state.
  abbrev pub Accepts : Question → Looked → Type 0
  Accepts q answer = IsBehindFound (λ found inner. (entries : List Entry)
      × States q found inner entries × IsTrue (are_alone q.query found entries)
      × (answer ≡ stated_answer q.query entries)) q

  -- ---- no fault so far

  -- no Found came, or not the whole of it
  abbrev pub IsFoundDue : Question → Type 0
  IsFoundDue q = (q.replies ≡ []) ⊎ ((first : List ℕ) × (q.replies ≡ first ∷ [])
      × (read_found version first ≡ Err reasons.Closed))

  abbrev pub IsUnfinished : Question → Type 0
  IsUnfinished q = IsFoundDue q ⊎ IsBehindFound
      (λ found inner. general.IsUnfinished (protocol_at q found).rules q.block inner) q

  -- and a reply is missing or not whole
  abbrev pub IsWaiting : Question → Type 0
  IsWaiting q = IsFoundDue q ⊎ IsBehindFound
      (λ found inner. general.IsUnfinished (protocol_at q found).rules q.block inner
      × general.IsMissing (protocol_at q found).rules q.block inner) q

  -- ---- a fault

  -- no byte less shows what these bytes show: they would not be a whole Found
  abbrev pub IsShortest : List ℕ → Type 0
  IsShortest first = (front : List ℕ) (byte : ℕ) → first ≡ front ++ byte ∷ []
      → read_found version front ≡ Err reasons.Closed

  -- the Found has this fault
  pub record IsFoundFaulty (q : Question) (fault : Fault) : Type 0 where
    pub first : List ℕ
    pub came : q.replies ≡ first ∷ []
    pub round : fault.round ≡ 0
    pub says : read_found version first ≡ Err fault.reason
    pub shortest : fault.reason ≢ reasons.Closed → IsShortest first

  -- the Found names a place that may not be found, and nothing came behind it
  pub record IsFoundBad (q : Question) (fault : Fault) : Type 0 where
    pub first : List ℕ
    pub came : q.replies ≡ first ∷ []
    pub found : Option ℕ
    pub says : read_found version first ≡ Ok (found, [])
    pub bad : is_possible depth q.query found ≡ false
    pub is : fault ≡ record { round = 0; reason = reasons.BadFound }

  -- the sub-vector was accepted, and its entries are not the one at the place alone
  abbrev pub IsNotAlone : Question → Fault → Type 0
  IsNotAlone q fault = IsBehindFound (λ found inner. (entries : List Entry)
      × States q found inner entries × (are_alone q.query found entries ≡ false)
      × (fault ≡ record { round = depth; reason = reasons.NotAlone })) q

  abbrev pub IsFaulty : Question → Fault → Type 0
  IsFaulty q fault =
      IsFoundFaulty q fault ⊎ IsFoundBad q fault
      ⊎ IsBehindFound (λ found inner.
      general.IsFaulty (protocol_at q found) q.block inner fault) q
      ⊎ IsNotAlone q fault

  -- ---- a keeper that failed

  -- A Found came, or a part of it, and could not be kept. So it was not judged, and is no reply
  -- that was taken; nothing was said behind it.
  pub record IsFoundUnjudged (q : Question) (ended : List TalkEvent) : Type 0 where
    pub none : q.replies ≡ []
    pub first : List ℕ
    pub end : List TalkEvent
    pub came : ended ≡ ins first ++ end
    pub shortest : IsShortest first
    pub may_end : MayEnd (read_found version first ≡ Err reasons.Closed) end

  abbrev pub IsUnjudged : Question → List TalkEvent → Type 0
  IsUnjudged q ended = IsFoundUnjudged q ended ⊎ IsBehindFound
      (λ found inner. general.IsUnjudged (protocol_at q found) q.block inner ended) q

-- ---- the questions of a run

-- How lookups are asked and judged. Any lookups may be asked: nothing is refused before the first.
abbrev pub looking : Asking Lookup Looked
looking version depth stream = record {
  said_for = said_for version depth;
  Accepts = Accepts version depth stream;
  IsFaulty = IsFaulty version depth stream;
  IsUnfinished = IsUnfinished version depth stream;
  IsWaiting = IsWaiting version depth stream;
  IsUnjudged = IsUnjudged version depth stream;
  line = look_line;
  farewell = spelling version messages.End;
  MayAsk = λ lookups. ⊤;
  Refuses = λ lookups status. ⊥;
}
