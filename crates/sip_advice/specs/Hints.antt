-- The line of advice behind the line of a status.
use Rattle.std.specs.Prelude.{◌≡◌, ◌≢◌, ◌==◌, ℕ, ◌+◌, ◌<◌, ◌⊎◌, List, [], ◌∷◌, ◌++◌, length, codes}
use Rattle.std.specs.Prelude.{Bool, true, ◌&&◌, Option, Some, None, nat_eq, nat_lt, Result}
use Rattle.std.specs.Prelude.{if◌then◌else◌}
use Rattle.std.specs.Prelude.{slice_index_or}
use Rattle.std.specs.List.{slice_get, starts_with}
use Rattle.std.specs.Option.{unwrap_or}
use Rattle.sip_ports.specs.declared.port.TalkEvent.{TalkEvent}
use Rattle.sip_ports.specs.Ports.{SendsWhole}
use Rattle.sip_advice.specs.declared.hint_text.TheConstants as hints
use Rattle.sip_advice.specs.declared.noted.Noted.{Noted}
use Rattle.sip_advice.specs.declared.noted.SeedLook.{SeedLook}
use Rattle.sip_advice.specs.declared.noted.Trouble.{Trouble}
use Rattle.sip_advice.specs.declared.noted.Trouble.TheVariants as trouble
use Rattle.sip_advice.specs.declared.noted.Unopened.{Unopened}
use Rattle.sip_advice.specs.declared.reason_text.TheConstants as reasons
use Rattle.sip_advice.specs.declared.place.Role.{Role}
use Rattle.sip_advice.specs.declared.place.Role.TheVariants as place
use Rattle.sip_words.specs.declared.stream.Stream.TheVariants.{File}
use Rattle.sip_words.specs.declared.verb.Verb.{Verb}
use Rattle.sip_words.specs.declared.verb.Verb.TheVariants.{Verify, Help, Audit, Show, Convert, Gen}
use Rattle.sip_words.specs.declared.verb.Verb.TheVariants.{Lines, Widen, Play, Lookup, HelpLook}
use Rattle.sip_words.specs.declared.verb.Verb.TheVariants.{Moments, HelpMoments, Panel, Serve}
use Rattle.sip_advice.specs.Noting.{cause_of}
use Rattle.sip_advice.specs.Quoting.{quoted}
use Rattle.sip_words.specs.Shapes.{IsStreamWord}
use Rattle.sip_words.specs.Verbs.{verb_word, most_asked}
use Rattle.sip_words.specs.Words.{word}
use Rattle.sip_stream.specs.declared.why.Why.{Why}
use Rattle.sip_stream.specs.declared.why.Why.TheVariants.{Truncated, BadLine, BadSide, BadItem}
use Rattle.sip_stream.specs.declared.why.Why.TheVariants.{ZeroDelta, TooHeavy}
use Rattle.sip_vector.specs.declared.tally.Negatives.{Negatives}
use Rattle.sip_verifier.specs.Negatives.{is_judged}
use Rattle.sip_verifier.specs.declared.status.Port.TheVariants as ports
use Rattle.sip_verifier.specs.declared.status.Status.{Status}
use Rattle.sip_verifier.specs.declared.status.Status.TheVariants as statuses
use Rattle.sip_wire.specs.declared.message.Reason.{Reason}
use Rattle.sip_wire.specs.declared.message.Reason.TheVariants as reason

-- what stands at the words of a verb, from the verb on and before what it asks
abbrev pub places : Verb → List Role
places Verify = place.Verb ∷ place.Stream ∷ place.Seed ∷ place.From ∷ place.To ∷ place.Record
    ∷ place.Depth ∷ []
places Help = place.Verb ∷ place.From ∷ place.To ∷ []
places Audit = place.Verb ∷ place.Stored ∷ place.Transcript ∷ []
places Show = place.Verb ∷ place.Transcript ∷ []
places Convert = place.Verb ∷ place.Transcript ∷ []
places Gen = place.Verb ∷ place.Number ∷ place.Count ∷ place.Depth ∷ []
places Lines = place.Verb ∷ place.Stream ∷ place.Depth ∷ []
places Widen = place.Verb ∷ place.Stream ∷ place.Depth ∷ []
places Play = place.Verb ∷ place.Stream ∷ place.Seed ∷ place.Helper ∷ place.Record ∷ place.Depth
    ∷ []
places Lookup = place.Verb ∷ place.Stream ∷ place.Seed ∷ place.From ∷ place.To ∷ place.Depth ∷ []
places HelpLook = place.Verb ∷ place.From ∷ place.To ∷ []
places Moments = place.Verb ∷ place.Stream ∷ place.Seed ∷ place.From ∷ place.To ∷ place.Depth ∷ []
places HelpMoments = place.Verb ∷ place.From ∷ place.To ∷ []
places Panel = place.Verb ∷ place.Stream ∷ place.Seed ∷ place.Helpers ∷ place.Depth ∷ []
places Serve = place.Verb ∷ place.Stored ∷ place.Input ∷ place.Output ∷ []

-- what stands behind these words, where the verb asks something
abbrev pub asked_by : Verb → Role
asked_by Lookup = place.Lookup
asked_by Moments = place.Moment
asked_by Panel = place.Shared
asked_by _ = place.Query

-- the number of the word behind the last query that a verb may have, or lookup, or moment
abbrev pub behind_asked : Verb → ℕ
behind_asked verb = length (places verb) + most_asked verb

-- what stands at word n of a verb
abbrev pub place_at : Verb → ℕ → Role
place_at verb n =
    slice_index_or (places verb) n
    (if nat_lt n (behind_asked verb) then asked_by verb else place.End)

-- what stands at word n of words that begin like these: where they begin with no verb, a verb is
-- wanted
abbrev pub StandsAt : List (List ℕ) → ℕ → Role → Type 0
StandsAt words n is =
    ((verb : Verb) × (0 < length words) × (word words 0 ≡ verb_word verb)
    × (is ≡ place_at verb n))
    ⊎ (((verb : Verb) → 0 < length words → word words 0 ≢ verb_word verb) × (is ≡ place.Verb))

-- no sentence of a line is longer
abbrev pub most_said : ℕ
most_said = 300

-- the word begins as one that asks a lookup does
abbrev pub is_lookup : List ℕ → Bool
is_lookup word =
    if starts_with nat_eq word (codes "index:") then true
    else if starts_with nat_eq word (codes "pred:") then true
    else starts_with nat_eq word (codes "succ:")

-- which command asks such a word, where it begins as a lookup or a moment does
abbrev pub other_hint : Option (List ℕ) → Option (List ℕ)
other_hint None = None
other_hint (Some word) =
    if is_lookup word then Some hints.LOOKS.now
    else if starts_with nat_eq word (codes "moment:") then Some hints.POWERS.now
    else None

-- what is said where a query may stand: which command asks such a word, or else the usual
abbrev pub query_hint : Option (List ℕ) → List ℕ → List ℕ
query_hint word usual = unwrap_or (other_hint word) usual

-- what may stand at a place, where this word was refused there, or one is missing
abbrev pub place_hint : Role → Option (List ℕ) → List ℕ
place_hint place.Verb word = hints.VERB.now
place_hint place.Stream word = hints.STREAM.now
place_hint place.Stored word = hints.STORED.now
place_hint place.Seed word = hints.SEED.now
place_hint place.From word = hints.FROM.now
place_hint place.To word = hints.TO.now
place_hint place.Input word = hints.INPUT.now
place_hint place.Output word = hints.OUTPUT.now
place_hint place.Record word = hints.RECORD.now
place_hint place.Helper word = hints.HELPER.now
place_hint place.Transcript word = hints.TRANSCRIPT.now
place_hint place.Number word = hints.NUMBER.now
place_hint place.Count word = hints.COUNT.now
place_hint place.Depth word = hints.DEPTH.now
place_hint place.Query word = query_hint word hints.QUERY.now
place_hint place.Lookup word = hints.LOOKUP.now
place_hint place.Moment word = hints.MOMENT.now
place_hint place.Helpers word = hints.HELPERS.now
place_hint place.Shared word = query_hint word hints.SHARED.now
place_hint place.End word = hints.END.now

-- a line of advice that says this
abbrev pub hint_line : List ℕ → List ℕ
hint_line said = codes "sip: hint: " ++ said ++ 10 ∷ []

-- the line where a word is refused, which is quoted, or missing, and this is said of its place
abbrev pub refused_line : Option (List ℕ) → List ℕ → List ℕ
refused_line None said = codes "sip: hint: a word is missing: " ++ said ++ 10 ∷ []
refused_line (Some word) said =
    codes "sip: hint: " ++ quoted word ++ codes " cannot stand here: " ++ said ++ 10 ∷ []

-- word 1 names a file of records of 13 bytes
abbrev pub IsPlain : List (List ℕ) → Type 0
IsPlain words = (1 < length words) × IsStreamWord File (word words 1)

-- a line of text that is read as a record fails so
abbrev pub IsAsText : Why → Type 0
IsAsText Truncated = Unit {0}
IsAsText BadLine = ⊥
IsAsText BadSide = Unit {0}
IsAsText BadItem = ⊥
IsAsText ZeroDelta = ⊥
IsAsText (TooHeavy _) = ⊥

-- the first record of a stream that is named as one of records fails as a line of text does
abbrev pub LooksLikeText : List (List ℕ) → ℕ → Why → Type 0
LooksLikeText words at why = (at ≡ 0) × IsAsText why × IsPlain words

-- what a record should be that is not legal
abbrev pub why_hint : Why → List ℕ
why_hint Truncated = hints.TRUNCATED.now
why_hint BadLine = hints.LINE.now
why_hint BadSide = hints.SIDE.now
why_hint BadItem = hints.ITEM.now
why_hint ZeroDelta = hints.DELTA.now
why_hint (TooHeavy _) = hints.WEIGHT.now

-- the line where a record is not legal: one that is read as 13 bytes may be a wide one
abbrev pub IsRecordHint : List (List ℕ) → Why → List ℕ → Type 0
IsRecordHint words why text =
    (IsPlain words × (text ≡ codes "sip: hint: " ++ why_hint why ++ hints.NARROW.now ++ 10 ∷ []))
    ⊎ ((IsPlain words → ⊥) × (text ≡ hint_line (why_hint why)))

-- what a refusal with this code means
abbrev pub refusal_hint : ℕ → List ℕ
refusal_hint code =
    if code == 1 then reasons.NO_MEMORY.now
    else if code == 2 then reasons.TOO_LARGE.now
    else if code == 3 then reasons.NEGATIVE.now
    else reasons.OUT_OF_TURN.now

-- what a reason of a rejection means
abbrev pub reason_hint : Reason → List ℕ
reason_hint reason.Closed = reasons.CLOSED.now
reason_hint reason.BadKind = reasons.BAD_KIND.now
reason_hint reason.BadLength = reasons.BAD_LENGTH.now
reason_hint reason.BadCount = reasons.BAD_COUNT.now
reason_hint reason.BadNumber = reasons.BAD_NUMBER.now
reason_hint (reason.Refused code) = refusal_hint code
reason_hint reason.BadOrder = reasons.BAD_ORDER.now
reason_hint reason.TooMany = reasons.TOO_MANY.now
reason_hint reason.BadFlags = reasons.BAD_FLAGS.now
reason_hint reason.HeavySibling = reasons.HEAVY_SIBLING.now
reason_hint reason.Pairs = reasons.PAIRS.now
reason_hint reason.LightParent = reasons.LIGHT_PARENT.now
reason_hint reason.Sum = reasons.SUM.now
reason_hint reason.Total = reasons.TOTAL.now
reason_hint reason.Root = reasons.ROOT.now
reason_hint reason.BadFound = reasons.BAD_FOUND.now
reason_hint reason.NotAlone = reasons.NOT_ALONE.now

-- what is said of the statuses that need no look at the words
abbrev pub status_hint : Status → Option (List ℕ)
status_hint (statuses.Rejected query round reason) = Some (reason_hint reason)
status_hint statuses.BadSeed = Some hints.SHORT.now
status_hint statuses.SeedSpent = Some hints.SPENT.now
status_hint (statuses.TooWide _) = Some hints.WIDE.now
status_hint (statuses.TooHigh _) = Some hints.HIGH.now
status_hint (statuses.BadTranscript _) = Some hints.BROKEN.now
status_hint (statuses.BadFrame _) = Some hints.FRAME.now
status_hint (statuses.ReadFault ports.First) = Some hints.FIRST.now
status_hint (statuses.ReadFault ports.Second) = Some hints.SECOND.now
status_hint (statuses.WriteFault ports.Report) = Some hints.REPORT.now
status_hint (statuses.WriteFault ports.Keep) = Some hints.KEEP.now
status_hint statuses.PeerFault = Some hints.LINK.now
status_hint statuses.PeerClosed = Some hints.LEFT.now
status_hint _ = None

-- what a place is called among the words
abbrev pub role_name : Role → List ℕ
role_name place.Stream = codes "STREAM"
role_name place.Stored = codes "STORED"
role_name place.Seed = codes "SEED"
role_name place.From = codes "FROM"
role_name place.To = codes "TO"
role_name place.Input = codes "FROM"
role_name place.Output = codes "TO"
role_name place.Record = codes "RECORD"
role_name place.Transcript = codes "TRANSCRIPT"
role_name _ = codes "FILE"

-- why a file is not to be had
abbrev pub trouble_hint : Trouble → List ℕ
trouble_hint trouble.Missing = hints.MISSING.now
trouble_hint trouble.Directory = hints.DIRECTORY.now
trouble_hint trouble.Denied = hints.DENIED.now
trouble_hint trouble.Taken = hints.TAKEN.now
trouble_hint trouble.Other = hints.OTHER.now

-- the line of a file that is not to be had: what it is called, its name, and why
abbrev pub file_line : Role → Option (List ℕ) → Trouble → List ℕ
file_line is None why =
    codes "sip: hint: " ++ role_name is ++ codes " cannot be used: " ++ trouble_hint why ++ 10 ∷ []
file_line is (Some name) why =
    codes "sip: hint: " ++ role_name is ++ codes " " ++ quoted name ++ codes " cannot be used: "
    ++ trouble_hint why ++ 10 ∷ []

-- the line where such a file explains a status, and else what is said of the status
abbrev pub IsFileHint : List (List ℕ) → Option Unopened → Option (List ℕ) → List ℕ → Type 0
IsFileHint words (Some file) said text =
    (is : Role) × StandsAt words file.word is
    × (text ≡ file_line is (slice_get words file.word) file.why)
IsFileHint words None said text = (s : List ℕ) × (said ≡ Some s) × (text ≡ hint_line s)

-- the line of advice for a status that these words came to, with this noted of their files, is this
abbrev pub IsHint : List (List ℕ) → Noted → Status → List ℕ → Type 0
IsHint words noted (statuses.Usage n) text =
    (is : Role) × StandsAt words n is
    × (text ≡ refused_line (slice_get words n) (place_hint is (slice_get words n)))
IsHint words noted (statuses.BadStream at why) text =
    (LooksLikeText words at why × (text ≡ hint_line hints.NAMED.now))
    ⊎ ((LooksLikeText words at why → ⊥) × IsRecordHint words why text)
IsHint words noted status text =
    IsFileHint words (cause_of noted status) (status_hint status) text

-- what is said of a seed that is used, if it may be no secret
abbrev pub seed_hint : SeedLook → Option (List ℕ)
seed_hint look =
    if look.is_even then Some hints.EVEN.now
    else if look.is_shared then Some hints.SHARED_SEED.now
    else None

-- what is said of large entries whose side had a delta below 0
abbrev pub sides_hint : Negatives → Option (List ℕ)
sides_hint n =
    if n.first && n.second then Some hints.CREDITS_OF_BOTH.now
    else if n.first then Some hints.CREDITS_OF_0.now
    else if n.second then Some hints.CREDITS_OF_1.now
    else None

-- that is said of a run whose replies were judged
abbrev pub credits_hint : Negatives → Status → Option (List ℕ)
credits_hint n status = if is_judged status then sides_hint n else None

-- the line that says so was sent, if there is anything to say
abbrev pub IsWarned : {T E : Type 0} → Option (List ℕ) → Option (List TalkEvent)
    → Option (List TalkEvent) → Result T E → Type 0
IsWarned (Some said) old new sent = SendsWhole old new sent (hint_line said)
IsWarned None old new sent = new ≡ old

-- the line of advice was sent, if there is one: whole, or a shorter front of it where the sink
-- failed
abbrev pub IsAdvised : {T E : Type 0} → List (List ℕ) → Noted → Status
    → Option (List TalkEvent) → Option (List TalkEvent) → Result T E → Type 0
IsAdvised words noted status old new sent =
    ((text : List ℕ) × IsHint words noted status text × SendsWhole old new sent text)
    ⊎ ((text : List ℕ) → IsHint words noted status text → ⊥)

-- where there are no words, since one is not UTF-8, the line that says so was sent in this way
abbrev pub IsAdvisedUnread : {T E : Type 0} → Status → Option (List TalkEvent)
    → Option (List TalkEvent) → Result T E → Type 0
IsAdvisedUnread (statuses.Usage _) old new sent =
    SendsWhole old new sent (hint_line hints.NO_TEXT.now)
IsAdvisedUnread _ old new sent = new ≡ old
