-- The lines of a report.
use Rattle.std.specs.Prelude.{ℕ, List, [], ◌∷◌, ◌++◌, codes, decimal, flat_map}
use Rattle.std.specs.Fmt.{signed_decimal}
use Rattle.std.specs.List.{join_by}
use Rattle.sip_vector.specs.declared.update.Entry.{Entry}
use Rattle.sip_vector.specs.declared.update.Side.{Side}
use Rattle.sip_vector.specs.declared.update.Side.TheVariants.{First, Second}
use Rattle.sip_vector.specs.declared.query.Query.{Query}
use Rattle.sip_vector.specs.declared.query.Query.TheVariants.{Sub, Range, F2, Inner, Heavy, Share}
use Rattle.sip_vector.specs.declared.query.Query.TheVariants.{Above}
use Rattle.sip_vector.specs.declared.update.Update.{Update}
use Rattle.sip_vector.specs.Answers.{Answer, answer, pairs, number}
use Rattle.sip_wire.specs.declared.message.Reason.{Reason}
use Rattle.sip_wire.specs.declared.message.Reason.TheVariants as reasons

-- a number behind a colon
abbrev pub parameter : ℕ → List ℕ
parameter n = codes ":" ++ decimal n

abbrev pub side_parameter : Side → List ℕ
side_parameter First = codes ":0"
side_parameter Second = codes ":1"

-- the word that asks a query
abbrev pub query_word : Query → List ℕ
query_word (Sub lo hi) = codes "sub" ++ parameter lo ++ parameter hi
query_word (Range side lo hi) = codes "range" ++ side_parameter side ++ parameter lo ++ parameter hi
query_word (F2 side) = codes "f2" ++ side_parameter side
query_word Inner = codes "inner"
query_word (Heavy side at_least) = codes "heavy" ++ side_parameter side ++ parameter at_least
query_word (Share side num den) =
    codes "share" ++ side_parameter side ++ parameter num ++ parameter den
query_word (Above side at_least) = codes "above" ++ side_parameter side ++ parameter at_least

abbrev pub pair_text : Entry → List ℕ
pair_text e = decimal e.index ++ codes ":" ++ signed_decimal e.value

abbrev pub answer_text : Answer → List ℕ
answer_text (number z) = signed_decimal z
answer_text (pairs []) = codes "none"
answer_text (pairs (e ∷ es)) = join_by pair_text (codes " ") (e ∷ es)

-- the line of an accepted query: its word, a space, its answer, a line feed
abbrev pub line : Query → Answer → List ℕ
line query answer = query_word query ++ codes " " ++ answer_text answer ++ 10 ∷ []

-- the name of a reason, which a refusal has with its code
abbrev pub reason_name : Reason → List ℕ
reason_name reasons.Closed = codes "Closed"
reason_name reasons.BadKind = codes "BadKind"
reason_name reasons.BadLength = codes "BadLength"
reason_name reasons.BadCount = codes "BadCount"
reason_name reasons.BadNumber = codes "BadNumber"
reason_name (reasons.Refused code) = codes "Refused(" ++ decimal code ++ codes ")"
reason_name reasons.BadOrder = codes "BadOrder"
reason_name reasons.TooMany = codes "TooMany"
reason_name reasons.BadFlags = codes "BadFlags"
reason_name reasons.HeavySibling = codes "HeavySibling"
reason_name reasons.Pairs = codes "Pairs"
reason_name reasons.LightParent = codes "LightParent"
reason_name reasons.Sum = codes "Sum"
reason_name reasons.Total = codes "Total"
reason_name reasons.Root = codes "Root"
reason_name reasons.BadFound = codes "BadFound"
reason_name reasons.NotAlone = codes "NotAlone"

-- the line of a rejection: the query's number, the round and the reason of the fault, a line feed
abbrev pub rejection : ℕ → ℕ → Reason → List ℕ
rejection query round reason =
    codes "rejected query " ++ decimal query ++ codes " round " ++ decimal round ++ codes " "
    ++ reason_name reason ++ 10 ∷ []

-- the line of a helper that is dropped: its number, and the query's, the round and the reason of
-- the fault; a line feed
abbrev pub dropped : ℕ → ℕ → ℕ → Reason → List ℕ
dropped helper query round reason =
    codes "dropped helper " ++ decimal helper ++ codes " query " ++ decimal query
    ++ codes " round " ++ decimal round ++ codes " " ++ reason_name reason ++ 10 ∷ []

-- the report of a run whose queries were all accepted, with the answers that the stream's own
-- vectors give
abbrev pub report_of : ℕ → List Update → List Query → List ℕ
report_of depth stream queries = flat_map (λ q. line q (answer depth stream q)) queries
