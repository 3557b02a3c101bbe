-- Verdicts.
--
-- The line of a query has the answer that its replies state. It is written only where they are
-- accepted and the lines of all queries before were written; and then it is written, unless writing
-- the report failed or memory ran out. A run is rejected as query k exactly where the replies to k
-- - 1 queries were accepted and those to query k have that first fault; the line of the rejection
--   is then the last one. Where every query was accepted, the report is all their lines, and the
--   stream was read to its end. Where the link failed, the report is the lines of all queries that
--   were accepted. Where writing the report failed, it is the lines of the queries before the last
--   verdict and a front of the line of that verdict, and nothing was said after it. Where keeping
--   the talk failed, the report is the lines of the queries before the one that was asked last,
--   whose last reply was not judged; or nothing was said yet. Where memory ran out, it is one of
--   the three. Which queries were accepted is read off the talk, so none can be left out.
use Rattle.std.specs.Prelude.{◌≡◌, ◌⊎◌, ℕ, suc, List, [], ◌∷◌, ◌++◌, length, flat_map}
use Rattle.std.specs.Prelude.{option_to_list, Option, IfSome}
use Rattle.sip_ports.specs.declared.port.TalkEvent.{TalkEvent}
use Rattle.sip_ports.specs.Ports.{outs}
use Rattle.sip_replies.specs.Replies.{Fault}
use Rattle.sip_replies.specs.Talks.{IsPrefix, ending}
use Rattle.sip_wire.specs.declared.message.Reason.{Reason}
use Rattle.sip_verifier.specs.declared.status.Port.TheVariants as ports
use Rattle.sip_verifier.specs.declared.status.Status.{Status}
use Rattle.sip_verifier.specs.declared.status.Status.TheVariants as statuses
use Rattle.sip_verifier.specs.Exchanges.{Exchange}
use Rattle.sip_verifier.specs.Reports.{rejection}
use Rattle.sip_verifier.specs.runs.Manners.{Accepted, Asking, Question}
use Rattle.sip_verifier.specs.runs.Runs.{Run, manner, updates, Done, questions_of, lines, farewell}
use Rattle.sip_verifier.specs.runs.Runs.{Reached}
use Rattle.sip_verifier.specs.Talks.{stream_sent}

module _ {Q A : Type 0} (asking : Asking Q A) (r : Run Q) (x : Exchange) where
  -- every query was accepted, and every line was written
  pub record AllWritten : Type 0 where
    pub done : Done asking r x
    pub all : length done ≡ length r.queries
    pub reached : Reached asking r x (questions_of asking r x done)
        (outs (manner asking r x).farewell)
    pub report : x.report ≡ lines asking r x done
    pub read : x.unread ≡ []

  -- The replies to the queries before this one were accepted, and its own have this first fault.
  -- The report is the lines of those before and the line of the rejection.
  pub record OneFaulty (query round : ℕ) (reason : Reason) : Type 0 where
    pub done : Done asking r x
    pub number : query ≡ suc (length done)
    pub last : Question Q
    pub faulty : (manner asking r x).IsFaulty last (record { round = round; reason = reason })
    pub reached : Reached asking r x (questions_of asking r x done ++ last ∷ []) (ending reason)
    pub report : x.report ≡ lines asking r x done ++ rejection query round reason

  -- these queries were accepted, as the talk shows
  abbrev pub WereReached : Done asking r x → Type 0
  WereReached done =
      (done ≡ [])
      ⊎ ((rest : List TalkEvent) × Reached asking r x (questions_of asking r x done) rest)

  -- a part of the line of the next query, whose replies were accepted, and after which nothing was
  -- said
  pub record PartWritten (done : Done asking r x) (part : List ℕ) : Type 0 where
    pub next : Accepted (manner asking r x)
    pub reached : Reached asking r x (questions_of asking r x done ++ next.question ∷ []) []
    pub front : IsPrefix part ((manner asking r x).line next.question.query next.answer)

  -- a part of the line of the rejection of the next query, whose replies have this first fault
  pub record PartRejected (done : Done asking r x) (part : List ℕ) : Type 0 where
    pub last : Question Q
    pub fault : Fault
    pub faulty : (manner asking r x).IsFaulty last fault
    pub reached : Reached asking r x (questions_of asking r x done ++ last ∷ [])
        (ending fault.reason)
    pub front : IsPrefix part (rejection (suc (length done)) fault.round fault.reason)

  -- The lines of the queries before a verdict that was reached, and a front of the line of that
  -- verdict: none of it, a part, or all. Nothing was said after that verdict.
  pub record CutInLine : Type 0 where
    pub done : Done asking r x
    pub part : List ℕ
    pub reached : WereReached done
    pub verdict : PartWritten done part ⊎ PartRejected done part
    pub report : x.report ≡ lines asking r x done ++ part

  -- The lines of all queries that were accepted. What was said after them is a front of the
  -- farewell, or of a query that waits for replies: so no other verdict was reached, and no front
  -- of the talk can hide an accepted query.
  pub record NoneLeft : Type 0 where
    pub done : Done asking r x
    pub current : Option (Question Q)
    pub waits : IfSome current (manner asking r x).IsWaiting
    pub reached : WereReached done
    pub order : IsPrefix x.talk
        (stream_sent r.version r.depth (updates r x) ++ flat_map (manner asking r x).said_for
        (questions_of asking r x done ++ option_to_list current) ++ farewell asking r x done)
    pub report : x.report ≡ lines asking r x done

  -- What came of the last reply was not judged, after the replies to the queries before were
  -- accepted. Nothing was said after it.
  pub record EndsUnjudged : Type 0 where
    pub done : Done asking r x
    pub last : Question Q
    pub ended : List TalkEvent
    pub unjudged : (manner asking r x).IsUnjudged last ended
    pub reached : Reached asking r x (questions_of asking r x done ++ last ∷ []) ended

  -- the same, and the report is the lines of the queries before
  abbrev pub UnjudgedWritten : Type 0
  UnjudgedWritten = (end : EndsUnjudged) × (x.report ≡ lines asking r x end.done)

  abbrev pub VerdictClause : Status → Type 0
  VerdictClause statuses.Accepted = AllWritten
  VerdictClause (statuses.Rejected query round reason) = OneFaulty query round reason
  VerdictClause (statuses.Usage word) = x.report ≡ []
  VerdictClause (statuses.BadStream at why) = x.report ≡ []
  VerdictClause statuses.BadSeed = x.report ≡ []
  VerdictClause statuses.SeedSpent = x.report ≡ []
  VerdictClause (statuses.TooWide query) = x.report ≡ []
  VerdictClause (statuses.TooHigh query) = x.report ≡ []
  VerdictClause (statuses.ReadFault port) = x.report ≡ []
  VerdictClause (statuses.WriteFault ports.Report) = CutInLine
  VerdictClause (statuses.WriteFault ports.Keep) =
      ((x.talk ≡ []) × (x.report ≡ [])) ⊎ UnjudgedWritten
  VerdictClause statuses.PeerFault = NoneLeft
  VerdictClause statuses.OutOfMemory = NoneLeft ⊎ CutInLine ⊎ UnjudgedWritten
  VerdictClause _ = ⊥
