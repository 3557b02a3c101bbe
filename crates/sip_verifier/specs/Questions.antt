-- The queries of a run, each with its block of challenges and the reply bytes that were taken.
use Rattle.std.specs.Prelude.{◌≡◌, ℕ, List, [], ◌∷◌, flat_map, Some, None}
use Rattle.sip_ports.specs.declared.port.TalkEvent.{TalkEvent}
use Rattle.sip_vector.specs.declared.query.Query.{Query}
use Rattle.sip_vector.specs.declared.update.Update.{Update}
use Rattle.sip_vector.specs.Answers.{Answer}
use Rattle.sip_wire.specs.declared.message.Message.TheVariants as messages
use Rattle.sip_wire.specs.declared.version.Version.{Version}
use Rattle.sip_wire.specs.Spelling.{spelling}
use Rattle.sip_replies.specs.Protocols.{Protocol}
use Rattle.sip_replies.specs.Replies as general
use Rattle.sip_replies.specs.Replies.{Fault}
use Rattle.sip_replies.specs.Talks.{asked_unless}
use Rattle.sip_verifier.specs.declared.status.Status.{Status}
use Rattle.sip_verifier.specs.declared.status.Status.TheVariants as statuses
use Rattle.sip_verifier.specs.Exchanges.{Exchange}
use Rattle.sip_verifier.specs.Inquiries.{Inquiry}
use Rattle.sip_verifier.specs.Kinds.{KindRow, built, missing, kind_row, OfKind}
use Rattle.sip_verifier.specs.Reports.{line}
use Rattle.sip_verifier.specs.runs.Manners as manners
use Rattle.sip_verifier.specs.runs.Manners.{Asking}
use Rattle.sip_verifier.specs.runs.Runs as runs
pub use Rattle.sip_verifier.specs.runs.Runs.{updates, IsLegalToEnd, AreQuestions}
use Rattle.sip_verifier.specs.Widths.{first_wide}

-- a question of a run of `verify`
abbrev pub Question : Type 0
Question = manners.Question Query

-- a reply is due, and none of those that came has a fault so far
abbrev pub IsDue : {S : Type 0} → Protocol S → List ℕ → List (List ℕ) → Type 0
IsDue P block replies = (P.unasked ≡ None) × general.IsUnfinished P.rules block replies
    × general.IsMissing P.rules block replies

-- ---- the states of a question; a query whose check does not stand here is never asked

-- the replies are accepted, and this is the answer that they state
abbrev pub Accepts : Version → ℕ → List Update → Question → Answer → Type 0
Accepts version depth stream q answer = OfKind version depth stream q.query
    (λ kind. general.IsAccepted (kind.protocol q.block) q.block q.replies answer)

-- the replies have this fault, and no byte too many was taken
abbrev pub IsFaulty : Version → ℕ → List Update → Question → Fault → Type 0
IsFaulty version depth stream q fault = OfKind version depth stream q.query
    (λ kind. general.IsFaulty (kind.protocol q.block) q.block q.replies fault)

-- no fault so far
abbrev pub IsUnfinished : Version → ℕ → List Update → Question → Type 0
IsUnfinished version depth stream q = OfKind version depth stream q.query
    (λ kind. general.IsUnfinished (kind.protocol q.block).rules q.block q.replies)

-- the query has to be asked, there is no fault so far, and a reply is missing or not whole yet
abbrev pub IsWaiting : Version → ℕ → List Update → Question → Type 0
IsWaiting version depth stream q = OfKind version depth stream q.query
    (λ kind. IsDue (kind.protocol q.block) q.block q.replies)

-- what came of the last reply was not judged, and this followed it
abbrev pub IsUnjudged : Version → ℕ → List Update → Question → List TalkEvent → Type 0
IsUnjudged version depth stream q ended = OfKind version depth stream q.query
    (λ kind. general.IsUnjudged (kind.protocol q.block) q.block q.replies ended)

-- ---- the questions of a run

-- what was said for a query by its row: nothing, where its answer is known without a reply
abbrev pub said_by_kind : KindRow → Question → List TalkEvent
said_by_kind (built kind) q = asked_unless (kind.protocol q.block).unasked
    (kind.protocol q.block).rules.version (messages.Query q.query) q.block q.replies
said_by_kind missing q = []

-- what was said for a question
abbrev pub said_for : Version → ℕ → List Update → Question → List TalkEvent
said_for version depth stream q = said_by_kind (kind_row version depth stream q.query) q

-- where a query's answer may be too wide, the run ends with the first such query
abbrev pub is_refused : List Update → List Query → Status → Type 0
is_refused stream queries (statuses.TooWide query) = first_wide stream queries ≡ Some query
is_refused stream queries _ = ⊥

-- how queries are asked and judged
abbrev pub asking : Asking Query Answer
asking version depth stream = record {
  said_for = said_for version depth stream;
  Accepts = Accepts version depth stream;
  IsFaulty = IsFaulty version depth stream;
  IsUnfinished = IsUnfinished version depth stream;
  IsWaiting = IsWaiting version depth stream;
  IsUnjudged = IsUnjudged version depth stream;
  line = line;
  farewell = flat_map (spelling version) (messages.Bye ∷ []);
  MayAsk = λ queries. first_wide stream queries ≡ None;
  Refuses = is_refused stream;
}

-- a question whose replies are accepted
abbrev pub Accepted : Version → ℕ → List Update → Type 0
Accepted version depth stream = manners.Accepted (asking version depth stream)

-- ---- a run by these

abbrev pub Done : Inquiry → Exchange → Type 0
Done i x = runs.Done asking i x

abbrev pub questions_of : (i : Inquiry) (x : Exchange) → Done i x → List Question
questions_of i x done = runs.questions_of asking i x done

abbrev pub lines : (i : Inquiry) (x : Exchange) → Done i x → List ℕ
lines i x done = runs.lines asking i x done

abbrev pub farewell : (i : Inquiry) (x : Exchange) → Done i x → List TalkEvent
farewell i x done = runs.farewell asking i x done

abbrev pub Reached : Inquiry → Exchange → List Question → List TalkEvent → Type 0
Reached i x questions rest = runs.Reached asking i x questions rest
