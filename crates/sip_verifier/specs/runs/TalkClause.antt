-- The talk.
--
-- Where every query was accepted, the talk is the whole one, in its order. Where a query's replies
-- have a fault, it is the talk up to the last byte that the fault needed, followed by the end of
-- the link exactly where that is the fault. With an illegal stream it ends before the end of the
-- stream is sent: the opening, and a frame for each 512 legal records. Where reading the stream
-- failed, it ends before that too. Where the queries are refused, it ends with the end of the
-- stream. With bad words or a bad seed, or where reading the seed failed, nothing is said. With any
-- other answer it is a front of that same talk: so each reply was taken and passed its tests before
-- the next challenge leaves, and the last challenge never leaves; and the line of an accepted query
-- was written before anything is said after its last reply. Where the line of a rejection could not
-- be written whole, the talk is that of the rejection. Where keeping the talk failed, nothing is
-- said yet, or the talk ends with what came of a reply that was not judged.
use Rattle.std.specs.Prelude.{◌≡◌, ◌≢◌, ◌⊎◌, List, [], ◌∷◌, ◌++◌, length, flat_map, option_to_list}
use Rattle.std.specs.Prelude.{Option, IfSome}
use Rattle.sip_ports.specs.declared.port.TalkEvent.{TalkEvent}
use Rattle.sip_ports.specs.Ports.{outs}
use Rattle.sip_replies.specs.Replies.{Fault}
use Rattle.sip_replies.specs.Talks.{IsPrefix, ending}
use Rattle.sip_verifier.specs.declared.status.Port.TheVariants as ports
use Rattle.sip_verifier.specs.declared.status.Status.{Status}
use Rattle.sip_verifier.specs.declared.status.Status.TheVariants as statuses
use Rattle.sip_verifier.specs.Exchanges.{Exchange}
use Rattle.sip_verifier.specs.runs.Manners.{Asking, Question}
use Rattle.sip_verifier.specs.runs.Runs.{Run, manner, updates, IsLegalToEnd, Done, questions_of}
use Rattle.sip_verifier.specs.runs.Runs.{lines, farewell, AreQuestions, Reached}
use Rattle.sip_verifier.specs.runs.VerdictClause.{WereReached, EndsUnjudged}
use Rattle.sip_verifier.specs.Talks.{whole_frames, opening_sent, stream_sent}

module _ {Q : Type 0} (r : Run Q) (x : Exchange) where
  -- what was said while the stream was read
  abbrev pub before_end : List TalkEvent
  before_end = opening_sent r.version r.depth (whole_frames (updates r x))

module _ {Q A : Type 0} (asking : Asking Q A) (r : Run Q) (x : Exchange) where
  -- the whole talk
  pub record IsWholeTalk : Type 0 where
    pub done : Done asking r x
    pub all : length done ≡ length r.queries
    pub reached : Reached asking r x (questions_of asking r x done)
        (outs (manner asking r x).farewell)

  -- the talk up to a fault of the replies to a query, after those to the queries before were
  -- accepted
  pub record EndsAtFault (fault : Fault) : Type 0 where
    pub done : Done asking r x
    pub last : Question Q
    pub faulty : (manner asking r x).IsFaulty last fault
    pub reached : Reached asking r x (questions_of asking r x done ++ last ∷ [])
        (ending fault.reason)

  -- The talk stopped somewhere: it has some accepted questions, each of them whole, and then a
  -- front of one that is under way or of the farewell.
  pub record IsUnderWay : Type 0 where
    pub done : Done asking r x
    pub reached : WereReached asking r x done
    pub current : Option (Question Q)
    pub unfinished : IfSome current (manner asking r x).IsUnfinished
    pub questions : x.talk ≢ []
        → AreQuestions r x (questions_of asking r x done ++ option_to_list current)
    pub order : IsPrefix x.talk
        (stream_sent r.version r.depth (updates r x) ++ flat_map (manner asking r x).said_for
        (questions_of asking r x done ++ option_to_list current) ++ farewell asking r x done)
    pub legal : ¬ IsLegalToEnd r x → IsPrefix x.talk (before_end r x)
    -- what is said after the accepted questions is said only once all their lines were written
    pub written : ¬ IsPrefix x.talk
        (stream_sent r.version r.depth (updates r x) ++ flat_map
        (manner asking r x).said_for (questions_of asking r x done))
        → x.report ≡ lines asking r x done

  -- the talk stopped somewhere, or at a fault that was judged
  abbrev pub Stopped : Type 0
  Stopped = IsUnderWay ⊎ ((fault : Fault) × EndsAtFault fault)

  abbrev pub TalkClause : Status → Type 0
  TalkClause statuses.Accepted = IsWholeTalk
  TalkClause (statuses.Rejected query round reason) =
      EndsAtFault (record { round = round; reason = reason })
  TalkClause (statuses.Usage word) = x.talk ≡ []
  TalkClause (statuses.BadStream at why) = x.talk ≡ before_end r x
  TalkClause statuses.BadSeed = x.talk ≡ []
  TalkClause statuses.SeedSpent = x.talk ≡ []
  TalkClause (statuses.TooWide query) =
      x.talk ≡ stream_sent r.version r.depth (updates r x)
  TalkClause (statuses.TooHigh query) =
      x.talk ≡ stream_sent r.version r.depth (updates r x)
  TalkClause (statuses.ReadFault ports.First) = IsUnderWay × IsPrefix x.talk (before_end r x)
  TalkClause (statuses.ReadFault ports.Second) = x.talk ≡ []
  TalkClause (statuses.WriteFault ports.Report) = Stopped
  TalkClause (statuses.WriteFault ports.Keep) = (x.talk ≡ []) ⊎ EndsUnjudged asking r x
  TalkClause statuses.PeerFault = IsUnderWay
  TalkClause statuses.OutOfMemory = Stopped ⊎ EndsUnjudged asking r x
  TalkClause _ = ⊥
