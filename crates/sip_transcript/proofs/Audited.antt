-- What an audit comes to, by where it stopped.
use Rattle.std.proofs.Common.{◌≡◌, ◌<◌, ◌≤◌, ◌+◌, ◌-◌, ◌^◌, ℕ, List, [], ◌∷◌, ◌++◌, length, refl, sym, ap, subst, ◌∙◌, inl, inr, arith, append_assoc, append-nil, length-append, Option, Some, None, Result, Ok, Err}
use Rattle.std.specs.Prelude.{IsTrue, SomeIff, flat_map, min}
use Rattle.sip_ports.specs.declared.port.TalkEvent.{TalkEvent}
use Rattle.sip_ports.specs.Ports.{Rose, outs}
use Rattle.sip_ports.proofs.FaultLemmas.{Rose-since}
use Rattle.sip_stream.specs.declared.form.Form.{Form}
use Rattle.sip_stream.specs.Records.{records}
use Rattle.sip_vector.specs.Pieces.{cut}
use Rattle.sip_vector.specs.declared.query.Query.{Query}
use Rattle.sip_vector.specs.declared.update.Update.{Update}
use Rattle.sip_wire.specs.declared.message.Message.TheVariants as messages
use Rattle.sip_wire.specs.declared.version.Version.{Version}
use Rattle.sip_wire.specs.Spelling.{spelling}
use Rattle.sip_wire.specs.Transcript.{ask_bytes, head_bytes, transcript}
use Rattle.sip_wire.specs.Versions.{number_of}
use Rattle.sip_verifier.specs.declared.status.Port.TheVariants as ports
use Rattle.sip_verifier.specs.declared.status.Status.{Status}
use Rattle.sip_verifier.specs.declared.status.Status.TheVariants as statuses
use Rattle.sip_verifier.specs.declared.task.Task.{Task}
use Rattle.sip_verifier.specs.Concluding.{GoesBehind, status_of}
use Rattle.sip_verifier.specs.Exchanges.{Appends, Exchange}
use Rattle.sip_verifier.specs.Inquiries.{Inquiry}
use Rattle.sip_verifier.specs.Snapshots.{Counts, counts}
use Rattle.sip_verifier.specs.Seats.{AreSeats}
use Rattle.sip_verifier.specs.Sittings.{Sitting}
use Rattle.sip_verifier.specs.Statuses.{FaultClause, Stops, stops_asking}
use Rattle.sip_verifier.specs.Talks.{opening_sent, stream_sent, update_frames, whole_frames}
use Rattle.sip_verifier.specs.Widths.{first_wide}
use Rattle.sip_verifier.proofs.RunTalks.{written_is}
use Rattle.sip_verifier.proofs.SeatedBehind.{seated_behind}
use Rattle.sip_transcript.specs.Auditing.{StoredQuestions, Audit, Audits, Ends, EndsAudit, EndsSo, EndsWhole, Replay, exchange_of, inquiry_in, is_verdict, over_source, stops_auditing}
use Rattle.sip_transcript.specs.declared.fault.HeadFault.{HeadFault}
use Rattle.sip_transcript.specs.declared.fault.HeadFault.TheVariants as head_faults
use Rattle.sip_transcript.specs.Causes.{status_of_head}
use Rattle.sip_transcript.specs.Heads.{Ask, ReadsHead}
use Rattle.sip_transcript.specs.Replayed.{AreAsked, Begins, EndsBy, IsBegun, IsReplayed, judged}
use Rattle.sip_transcript.specs.Replaying.{Follows}
use Rattle.sip_transcript.proofs.Replaying.{follows_sent, replays_none}

some_none : {X : Type 0} (x : X) → Some x ≡ None → ⊥
some_none x e = absurd cc

some_same : {X : Type 0} (o : Option X) (x y : X) → o ≡ Some x → o ≡ Some y → x ≡ y
some_same o x y p q = cc

module _ (version : Version) (task : Task) (challenges : List ℕ) (asks : List Ask) (is : AreAsked version task challenges asks) (a : Audit) (behind : List ℕ) (stored : a.stored ≡ transcript version task.depth asks behind) where
  abbrev asked : StoredQuestions
  asked = record { version = version; depth = task.depth; asks = asks }

  abbrev inquiry : Inquiry
  inquiry = inquiry_in task.form asked

  abbrev stream : List Update
  stream = (records task.depth task.form a.stream).legal

  abbrev streamed : List TalkEvent
  streamed = stream_sent version task.depth stream

  abbrev opening : List TalkEvent
  opening = opening_sent version task.depth (whole_frames stream)

  -- ---- the run

  abbrev replay : (talk : List TalkEvent) (more : List ℕ) → Follows behind talk more → Replay task.form a
  replay talk more follows = record { asked = asked; is_run = is.is_run; behind = behind; stored = stored; talk = talk; more = more; follows = follows }

  nothing_heard : Follows behind [] behind
  nothing_heard = replays_none (Some behind) (Some behind) refl

  -- the stream is not heard
  pub follows_streamed : (talk : List TalkEvent) (more : List ℕ) → Follows behind talk more → Follows behind (streamed ++ talk) more
  follows_streamed talk more follows =
      let first = flat_map (spelling version) (messages.Open (number_of version) task.depth ∷ update_frames stream) in
      let end = flat_map (spelling version) (messages.EndStream ∷ []) in
      subst (λ (t : List TalkEvent). Follows behind t more) (sym (append_assoc (outs first) (outs end) talk)) (follows_sent behind more first (outs end ++ talk) (follows_sent behind more end talk follows))

  follows_stream : Follows behind streamed behind
  follows_stream = subst (λ (t : List TalkEvent). Follows behind t behind) (append-nil streamed) (follows_streamed [] behind nothing_heard)

  follows_opening : Follows behind opening behind
  follows_opening =
      let first = flat_map (spelling version) (messages.Open (number_of version) task.depth ∷ update_frames (whole_frames stream)) in
      subst (λ (t : List TalkEvent). Follows behind t behind) (append-nil opening) (follows_sent behind behind first [] nothing_heard)

  -- ---- before the queries

  module _ (before now : Counts) (left : Option (List ℕ)) (blank : a.report ≡ []) where
    too_wide : (query : ℕ) → Begins version task challenges a.stream left (Err (statuses.TooWide query)) → Ends task.form a before now (statuses.TooWide query)
    too_wide query begins = (
      replay streamed behind follows_stream,
      record {
        verdict = blank;
        talk = refl;
        cause = ((some_none _, begins.0), subst (λ (qs : List Query). first_wide stream qs ≡ Some query) is.queries begins.1);
      },
    )

    pub not_begun : (status : Status) → Begins version task challenges a.stream left (Err status) → Audits task.form a before now status
    not_begun (statuses.BadStream at why) begins = (
      replay opening behind follows_opening,
      record { verdict = blank; talk = refl; cause = (some_none _, begins.0, begins.1) },
    )
    not_begun (statuses.TooWide query) begins = too_wide query begins
    not_begun (statuses.ReadFault ports.First) begins = (replay [] behind nothing_heard, blank)
    not_begun (statuses.ReadFault ports.Second) begins = absurd begins
    not_begun (statuses.ReadFault ports.Report) begins = absurd begins
    not_begun (statuses.ReadFault ports.Keep) begins = absurd begins
    not_begun statuses.OutOfMemory begins = inl blank
    not_begun _ begins = absurd begins

  -- ---- behind the queries

  module _ (before now : Counts) (s : Sitting) (left since : Option (List ℕ)) (taken : ℕ) (blank full : Option (List TalkEvent)) (r : Result (Unit {0}) Status)
      (unread : left ≡ Some a.unread) (told : Appends blank full (Some a.report)) (begun : IsBegun version task challenges a.stream left s)
      (rp : IsReplayed s behind since taken blank full r) where
    pub all_read : a.unread ≡ []
    all_read = some_same left a.unread [] unread begun.read

    abbrev pub its_replay : Replay task.form a
    its_replay = replay (streamed ++ rp.talk) rp.more (follows_streamed rp.talk rp.more rp.follows)

    abbrev exchange : Exchange
    exchange = exchange_of task.form a its_replay

    seats_are : AreSeats task.depth inquiry.queries (cut task.depth (flat_map (λ (ask : Ask). ask.1) asks)) stream begun.seats
    seats_are =
        subst (λ (c : List ℕ). AreSeats task.depth inquiry.queries (cut task.depth c) stream begun.seats) is.challenges
        (subst (λ (qs : List Query). AreSeats task.depth qs (cut task.depth challenges) stream begun.seats) is.queries begun.stand)

    goes : GoesBehind inquiry exchange s (Some []) (Some rp.talk) blank full
    goes =
        seated_behind inquiry exchange (flat_map (λ (ask : Ask). ask.1) asks) begun.seats s (Some []) (Some rp.talk) blank full refl seats_are begun.starts refl begun.legal all_read
        (λ said went. ap (λ (l : List TalkEvent). streamed ++ l) went)
        (λ bytes went. written_is blank full bytes a.report went told)

    pub ends : FaultClause (over_source before) (over_source now) (status_of r) → EndsSo task.form a before now (status_of r) its_replay
    ends fault = rp.ends inquiry exchange (over_source before) (over_source now) goes fault

module _ (form : Form) (a : Audit) (before now : Counts) (p : Replay form a) where
  -- ---- with no verdict

  pub no_verdict : (first firsts second seconds peer peers report reports : ℕ) (r : Result (Unit {0}) Status) (status : Status) → judged r ≡ Err status
      → Stops stops_asking (counts first second peer report 0) (counts firsts seconds peers reports 0) r
      → (FaultClause (over_source before) (over_source now) (status_of r) → EndsSo form a before now (status_of r) p)
      → FaultClause before now status → Audits form a before now status
  no_verdict first firsts second seconds peer peers report reports (Ok u) status e stops ends fault = absurd cc
  no_verdict first firsts second seconds peer peers report reports (Err (statuses.Rejected query round reason)) status e stops ends fault = absurd cc
  no_verdict first firsts second seconds peer peers report reports (Err statuses.PeerFault) status e stops ends fault =
      let same : statuses.ReadFault ports.Second ≡ status = cc in
      subst (Audits form a before now) same (inr (statuses.PeerFault, inr refl, (p, ends (subst (FaultClause before now) (sym same) fault))))
  no_verdict first firsts second seconds peer peers report reports (Err statuses.OutOfMemory) status e stops ends fault =
      let same : statuses.OutOfMemory ≡ status = cc in
      subst (Audits form a before now) same (inr (statuses.OutOfMemory, inr refl, (p, ends tt)))
  no_verdict first firsts second seconds peer peers report reports (Err (statuses.WriteFault ports.Report)) status e stops ends fault =
      let same : statuses.WriteFault ports.Report ≡ status = cc in
      subst (Audits form a before now) same (p, ends (subst (FaultClause before now) (sym same) fault))
  no_verdict first firsts second seconds peer peers report reports (Err (statuses.WriteFault ports.Keep)) status e stops ends fault = absurd (omega (arith, stops.1))
  no_verdict first firsts second seconds peer peers report reports (Err (statuses.WriteFault ports.First)) status e stops ends fault = absurd (let no = stops.0 in cc)
  no_verdict first firsts second seconds peer peers report reports (Err (statuses.WriteFault ports.Second)) status e stops ends fault = absurd (let no = stops.0 in cc)
  no_verdict first firsts second seconds peer peers report reports (Err _) status e stops ends fault = absurd (let no = stops.0 in cc)

  -- ---- with a verdict

  whole : (verdict : Status) → IsTrue (is_verdict verdict) → EndsWhole form a before now verdict → Audits form a before now verdict
  whole statuses.Accepted is w = w
  whole (statuses.Rejected query round reason) is w = w
  whole _ is w = absurd (let no = is in cc)

  closes : (verdict status : Status) (place : Option ℕ) (since left : Option (List ℕ)) → IsTrue (is_verdict verdict) → EndsSo form a before now verdict p
      → since ≡ Some p.more → left ≡ Some a.left → a.unread ≡ [] → ((at : ℕ) → place ≡ Some at → at + length p.more ≡ length a.stored)
      → EndsBy verdict place since left status → Audits form a before now status
  closes verdict status place since left is e rest told read places (inl (same, none)) =
      let ended = none p.more rest in
      subst (Audits form a before now) (sym same) (whole verdict is (p, e, ended.0, some_same left a.left [] told ended.1, read))
  closes verdict status place since left is e rest told read places (inr (inl (at, at_is, same, some))) =
      subst (Audits form a before now) (sym same) (inr (record { verdict = verdict; reached = is; replay = p; ends = e; some = some p.more rest; place = places at at_is }))
  closes verdict status place since left is e rest told read places (inr (inr (inl same))) =
      subst (Audits form a before now) (sym same) (inr (verdict, inl is, (p, e)))
  closes verdict status place since left is e rest told read places (inr (inr (inr same))) =
      subst (Audits form a before now) (sym same) (inr (verdict, inl is, (p, e)))

  pub with_verdict : (r : Result (Unit {0}) Status) (verdict status : Status) (place : Option ℕ) (since left : Option (List ℕ)) → judged r ≡ Ok verdict
      → (FaultClause (over_source before) (over_source now) (status_of r) → EndsSo form a before now (status_of r) p)
      → since ≡ Some p.more → left ≡ Some a.left → a.unread ≡ [] → ((at : ℕ) → place ≡ Some at → at + length p.more ≡ length a.stored)
      → EndsBy verdict place since left status → Audits form a before now status
  with_verdict (Ok u) verdict status place since left e ends rest told read places by =
      let same : statuses.Accepted ≡ verdict = cc in
      closes statuses.Accepted status place since left refl (ends tt) rest told read places (subst (λ (v : Status). EndsBy v place since left status) (sym same) by)
  with_verdict (Err (statuses.Rejected query round reason)) verdict status place since left e ends rest told read places by =
      let same : statuses.Rejected query round reason ≡ verdict = cc in
      closes (statuses.Rejected query round reason) status place since left refl (ends tt) rest told read places (subst (λ (v : Status). EndsBy v place since left status) (sym same) by)
  with_verdict (Err statuses.PeerFault) verdict status place since left e ends rest told read places by = absurd cc
  with_verdict (Err _) verdict status place since left e ends rest told read places by = absurd cc

-- where what is left of a transcript begins
pub place_of : (version : Version) (depth : ℕ) (asks : List Ask) (behind stored talk_heard more : List ℕ) (size taken at : ℕ) → stored ≡ transcript version depth asks behind → behind ≡ talk_heard ++ more
    → size ≡ length (transcript version depth asks []) → taken ≡ min (length talk_heard) (2 ^ 64 - 1) → at ≡ size + taken → at < 2 ^ 64 → at + length more ≡ length stored
place_of version depth asks behind stored talk_heard more size taken at all came is counted sum fits =
    let first = head_bytes version depth (length asks) in
    let others = flat_map (λ (ask : Ask). ask_bytes version ask.0 ask.1) asks in
    let seven : length first ≡ 7 = refl in
    omega (arith, ap length all, length-append (first ++ others) behind, length-append (first ++ others) [], length-append first others, seven, ap length came, length-append talk_heard more, is, counted, sum, fits)

-- by the sum of the head's length and of what was taken
pub place_sum : (place : Option ℕ) (size taken at : ℕ) → SomeIff place (size + taken < 2 ^ 64) (size + taken) → place ≡ Some at → (at ≡ size + taken) × (at < 2 ^ 64)
place_sum None size taken at sum is = absurd cc
place_sum (Some x) size taken at (fits, same) is =
    let e : x ≡ at = cc in
    (sym e ∙ same, omega (arith, fits, same, e))

-- ---- causes

module _ (first firsts second seconds peer peers report reports : ℕ) where
  -- a fault of the link is one of the transcript's source
  pub judged_fault : (other others keep keeps : ℕ) (r : Result (Unit {0}) Status) (status : Status) → judged r ≡ Err status
      → Stops stops_asking (counts first second peer report 0) (counts firsts seconds peers reports 0) r
      → IsTrue (stops_auditing status) × FaultClause (counts first peer other report keep) (counts firsts peers others reports keeps) status
  judged_fault other others keep keeps (Ok u) status e stops = absurd cc
  judged_fault other others keep keeps (Err (statuses.Rejected query round reason)) status e stops = absurd cc
  judged_fault other others keep keeps (Err statuses.PeerFault) status e stops =
      let same : statuses.ReadFault ports.Second ≡ status = cc in
      subst (λ (s : Status). IsTrue (stops_auditing s) × FaultClause (counts first peer other report keep) (counts firsts peers others reports keeps) s) same (refl, stops.1)
  judged_fault other others keep keeps (Err statuses.OutOfMemory) status e stops =
      let same : statuses.OutOfMemory ≡ status = cc in
      subst (λ (s : Status). IsTrue (stops_auditing s) × FaultClause (counts first peer other report keep) (counts firsts peers others reports keeps) s) same (refl, tt)
  judged_fault other others keep keeps (Err (statuses.WriteFault ports.Report)) status e stops =
      let same : statuses.WriteFault ports.Report ≡ status = cc in
      subst (λ (s : Status). IsTrue (stops_auditing s) × FaultClause (counts first peer other report keep) (counts firsts peers others reports keeps) s) same (refl, stops.1)
  judged_fault other others keep keeps (Err (statuses.WriteFault ports.Keep)) status e stops = absurd (omega (arith, stops.1))
  judged_fault other others keep keeps (Err (statuses.WriteFault ports.First)) status e stops = absurd (let no = stops.0 in cc)
  judged_fault other others keep keeps (Err (statuses.WriteFault ports.Second)) status e stops = absurd (let no = stops.0 in cc)
  judged_fault other others keep keeps (Err _) status e stops = absurd (let no = stops.0 in cc)

-- a verdict needs none
pub verdict_needs_none : (r : Result (Unit {0}) Status) (verdict : Status) → judged r ≡ Ok verdict → (before now : Counts) → FaultClause before now verdict
verdict_needs_none (Ok u) verdict e before now = let same : statuses.Accepted ≡ verdict = cc in subst (FaultClause before now) same tt
verdict_needs_none (Err (statuses.Rejected query round reason)) verdict e before now = let same : statuses.Rejected query round reason ≡ verdict = cc in subst (FaultClause before now) same tt
verdict_needs_none (Err statuses.PeerFault) verdict e before now = absurd cc
verdict_needs_none (Err _) verdict e before now = absurd cc

-- a fault has its cause since an earlier moment of the first two ports and of the report
pub since_earlier : (first0 first firsts second0 second seconds peer peers report0 report reports keep keeps : ℕ) (status : Status) → first0 ≤ first → second0 ≤ second → report0 ≤ report
    → FaultClause (counts first second peer report keep) (counts firsts seconds peers reports keeps) status → FaultClause (counts first0 second0 peer report0 keep) (counts firsts seconds peers reports keeps) status
since_earlier first0 first firsts second0 second seconds peer peers report0 report reports keep keeps (statuses.ReadFault ports.First) a b c fault = Rose-since first0 first firsts a fault
since_earlier first0 first firsts second0 second seconds peer peers report0 report reports keep keeps (statuses.ReadFault ports.Second) a b c fault = Rose-since second0 second seconds b fault
since_earlier first0 first firsts second0 second seconds peer peers report0 report reports keep keeps (statuses.ReadFault ports.Report) a b c fault = fault
since_earlier first0 first firsts second0 second seconds peer peers report0 report reports keep keeps (statuses.ReadFault ports.Keep) a b c fault = fault
since_earlier first0 first firsts second0 second seconds peer peers report0 report reports keep keeps (statuses.WriteFault ports.First) a b c fault = fault
since_earlier first0 first firsts second0 second seconds peer peers report0 report reports keep keeps (statuses.WriteFault ports.Second) a b c fault = fault
since_earlier first0 first firsts second0 second seconds peer peers report0 report reports keep keeps (statuses.WriteFault ports.Report) a b c fault = Rose-since report0 report reports c fault
since_earlier first0 first firsts second0 second seconds peer peers report0 report reports keep keeps (statuses.WriteFault ports.Keep) a b c fault = fault
since_earlier first0 first firsts second0 second seconds peer peers report0 report reports keep keeps statuses.PeerFault a b c fault = fault
since_earlier first0 first firsts second0 second seconds peer peers report0 report reports keep keeps _ a b c fault = tt

-- ---- the same session

pub replayed_as : {s t : Sitting} {bytes : List ℕ} {left : Option (List ℕ)} {taken : ℕ} {blank full : Option (List TalkEvent)} {r : Result (Unit {0}) Status} → s ≡ t
    → IsReplayed s bytes left taken blank full r → IsReplayed t bytes left taken blank full r
replayed_as {s = s} {t = t} {bytes = bytes} {left = left} {taken = taken} {blank = blank} {full = full} {r = r} same x =
    subst (λ (x : Sitting). IsReplayed x bytes left taken blank full r) same x

-- ---- a head that is not read

pub head_audits : (form : Form) (a : Audit) (before now : Counts) (fault : HeadFault) (old new : Option (List ℕ)) → ReadsHead old new (Err fault) → old ≡ Some a.stored → a.report ≡ [] → Audits form a before now (status_of_head fault)
head_audits form a before now (head_faults.Bad at) old new reads told blank = inl (reads.1 a.stored told, blank)
head_audits form a before now head_faults.ReadFault old new reads told blank = inl blank
head_audits form a before now head_faults.OutOfMemory old new reads told blank = inl blank

-- what such a status needs, and that it is one of an audit
pub head_caused : (first firsts second seconds peer peers report reports keep keeps : ℕ) (fault : HeadFault) → (fault ≡ head_faults.ReadFault → Rose second seconds)
    → FaultClause (counts first second peer report keep) (counts firsts seconds peers reports keeps) (status_of_head fault) × EndsAudit (status_of_head fault)
head_caused first firsts second seconds peer peers report reports keep keeps (head_faults.Bad at) failed = (tt, refl)
head_caused first firsts second seconds peer peers report reports keep keeps head_faults.ReadFault failed = (failed refl, refl)
head_caused first firsts second seconds peer peers report reports keep keeps head_faults.OutOfMemory failed = (tt, refl)

-- what follows the head of a transcript
pub transcript_from : (version : Version) (depth : ℕ) (asks : List Ask) (behind : List ℕ) → transcript version depth asks [] ++ behind ≡ transcript version depth asks behind
transcript_from version depth asks behind =
    ap (λ (l : List ℕ). l ++ behind) (append-nil (head_bytes version depth (length asks) ++ flat_map (λ (ask : Ask). ask_bytes version ask.0 ask.1) asks))
