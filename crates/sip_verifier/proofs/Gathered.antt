-- How far a stream was read, sent and added to the seats, and where the call may stop.
use Rattle.std.proofs.Common.{◌≡◌, ℕ, ◌<◌, ◌^◌, List, [], ◌∷◌, ◌++◌, length, inr, refl, sym, ap, ◌∙◌, subst, arith, length-append, inl, append_assoc, append-nil, All}
use Rattle.std.specs.Io.KnownBytes.{Consumes}
use Rattle.std.proofs.lemmas.Bool.{cases_Bool}
use Rattle.std.proofs.lemmas.List.{nil_from_length}
use Rattle.std.proofs.lemmas.List.Elements.{All-cons, All-head, All-nil, All-tail}
use Rattle.sip_wire.specs.Table.{most_rows}
use Rattle.std.specs.Prelude.{Some, None, Ok, Err}
use Rattle.std.specs.declared.option.Option.{Option}
use Rattle.sip_ports.specs.declared.port.PortStop.{PortStop}
use Rattle.sip_ports.specs.declared.port.PortStop.TheVariants as stops
use Rattle.sip_ports.specs.declared.port.TalkEvent.{TalkEvent}
use Rattle.sip_ports.specs.Ports.{GoesOn}
use Rattle.sip_vector.specs.declared.update.Side.{Side}
use Rattle.sip_vector.specs.declared.update.Side.TheVariants.{First, Second}
use Rattle.sip_vector.specs.declared.update.Update.{Update}
use Rattle.sip_vector.specs.Streams.{IsLegal, weight}
use Rattle.sip_stream.specs.declared.fault.StreamFault.{StreamFault}
use Rattle.sip_stream.specs.declared.fault.StreamFault.TheVariants as faults
use Rattle.sip_stream.specs.Reading.{Reading, IsAfter, IsFair, HasRead, Reads, weight_of}
use Rattle.sip_stream.specs.Layouts.{layout_of}
use Rattle.sip_stream.specs.Records.{Records, records, records_from, pieces_of}
use Rattle.sip_stream.proofs.Copies.{read_front}
use Rattle.sip_stream.proofs.RecordsRead.{came_front, records_end}
use Rattle.sip_verifier.specs.Tasks.{version_of}
use Rattle.sip_verifier.specs.declared.status.Port.TheVariants as ports
use Rattle.sip_verifier.specs.declared.status.Status.{Status}
use Rattle.sip_verifier.specs.declared.status.Status.TheVariants as statuses
use Rattle.sip_verifier.specs.declared.task.Task.{Task}
use Rattle.sip_verifier.specs.declared.weights.Weights.{Weights}
use Rattle.sip_verifier.specs.inside.Drawing.{Draws, HasDrawn}
use Rattle.sip_verifier.specs.Draws.{blocks}
use Rattle.sip_verifier.specs.inside.Ending.{status_of_link, status_of_stream}
use Rattle.sip_replies.specs.Talks.{IsPrefix}
use Rattle.sip_verifier.specs.Gathering.{AreOf, legal, before_end, Breaks, IsCut, IsCutBefore, IsGathered, IsPassedOn, HasSeed, Refuses}
use Rattle.sip_verifier.specs.Feeding.{fills, waiting_with}
use Rattle.sip_verifier.specs.inside.Passing.{taken_with}
use Rattle.sip_verifier.specs.QuerySeats.{HaveRoom}
use Rattle.sip_verifier.specs.Seats.{AreSeats, Seating}
use Rattle.sip_verifier.specs.inside.Sending.{IsSentBut, IsStopped, IsStoppedAtEnd}
use Rattle.sip_verifier.specs.Weights.{AreWeights, weight_in}
use Rattle.sip_verifier.specs.Talks.{whole_frames, opening_sent, stream_sent}
use Rattle.sip_sums.proofs.HonestSums.{all_front}
use Rattle.sip_verifier.proofs.SeatTotals.{legal_room}
use Rattle.sip_verifier.proofs.StreamSending.{stopped}
use Rattle.sip_verifier.proofs.StreamSent.{IsPrefix-trans, before_end-short, frames_front, stream_sent-front, whole_frames-waiting}

-- The records read so far are this stream. All but what waits was sent, and the seats stand for that.
pub record IsUnderway (task : Task) (bytes : List ℕ) (at_blocks : List (List ℕ)) (left : Option (List ℕ)) (start now : Option (List TalkEvent)) (reader : Reading) (seats : Seating) (waiting : List Update) : Type 0 where
  pub rest : List ℕ
  pub to_come : left ≡ Some rest
  pub stream : List Update
  pub after : IsAfter reader stream
  pub ahead : records task.depth task.form bytes ≡ records_from task.depth task.form stream rest
  pub said : IsSentBut (version_of task) task.depth start now stream waiting
  pub stand : AreSeats task.depth task.queries.items at_blocks said.sent seats

-- The same without a word of what the ports tell: the records read so far are a legal stream, and the seats stand for all of it
-- but what waits.
pub record IsFollowed (task : Task) (reader : Reading) (seats : Seating) (waiting : List Update) : Type 0 where
  pub sent : List Update
  pub after : IsAfter reader (sent ++ waiting)
  pub stand : AreOf task sent seats

-- so there is room for what waits
pub followed_room : (task : Task) (reader : Reading) (seats : Seating) (waiting : List Update) → IsFollowed task reader seats waiting → reader.depth ≡ task.depth
    → (side : Side) → HaveRoom seats.seats waiting side
followed_room task reader seats waiting so depth =
    let legal = subst (λ d. IsLegal d (so.sent ++ waiting)) depth so.after.legal in
    let below = all_front (λ (u : Update). u.item < 2 ^ task.depth) so.sent waiting legal.items in
    legal_room task.depth task.queries.items so.stand.at_blocks so.sent waiting seats so.stand.stand below legal

-- what the seats take of one more record, and what waits then
taken_and_waiting : (waiting : List Update) (u : Update) → taken_with waiting u ++ waiting_with waiting u ≡ waiting ++ u ∷ []
taken_and_waiting waiting u = elim (cases_Bool (fills waiting)) [
  | inl full ↦ rw full (append-nil (waiting ++ u ∷ []))
  | inr not ↦ rw not refl
]

-- one more record was read
pub followed_one : (task : Task) (reader reader' : Reading) (seats : Seating) (waiting : List Update) (u : Update) (so : IsFollowed task reader seats waiting)
    → IsAfter reader' ((so.sent ++ waiting) ++ u ∷ []) → IsFollowed task reader' seats (waiting ++ u ∷ [])
followed_one task reader reader' seats waiting u so after =
    record { sent = so.sent; after = subst (IsAfter reader') (append_assoc so.sent waiting (u ∷ [])) after; stand = so.stand }

-- and passed on
pub followed_on : (task : Task) (reader reader' : Reading) (seats seats' : Seating) (waiting : List Update) (u : Update) (so : IsFollowed task reader seats waiting)
    → IsAfter reader' ((so.sent ++ waiting) ++ u ∷ []) → AreSeats task.depth task.queries.items so.stand.at_blocks (so.sent ++ taken_with waiting u) seats'
    → IsFollowed task reader' seats' (waiting_with waiting u)
followed_on task reader reader' seats seats' waiting u so after stand = record {
  sent = so.sent ++ taken_with waiting u;
  after = subst (IsAfter reader')
      (append_assoc so.sent waiting (u ∷ []) ∙ ap (λ l. so.sent ++ l) (sym (taken_and_waiting waiting u)) ∙ sym (append_assoc so.sent (taken_with waiting u) (waiting_with waiting u))) after;
  stand = record { at_blocks = so.stand.at_blocks; stand = stand };
}

-- more records that the source held were read
pub followed_many : (task : Task) (reader reader' : Reading) (seats : Seating) (waiting waiting' us : List Update) (taken : List ℕ) (so : IsFollowed task reader seats waiting)
    → HasRead reader reader' taken us → waiting' ≡ waiting ++ us → IsFollowed task reader' seats waiting'
followed_many task reader reader' seats waiting waiting' us taken so had grown = record {
  sent = so.sent;
  after = subst (IsAfter reader') (append_assoc so.sent waiting us ∙ ap (λ l. so.sent ++ l) (sym grown)) (had.after (so.sent ++ waiting) so.after);
  stand = so.stand;
}

-- the items of records that were read together
pub fair_items : (depth : ℕ) (us : List Update) → All (IsFair depth) us → All (λ (u : Update). u.item < 2 ^ depth) us
fair_items depth [] fair = All-nil (λ (u : Update). u.item < 2 ^ depth)
fair_items depth (u ∷ us) fair = All-cons (λ (v : Update). v.item < 2 ^ depth) u us (All-head (IsFair depth) u us fair).item (fair_items depth us (All-tail (IsFair depth) u us fair))

module _ (task : Task) (bytes : List ℕ) (start : Option (List TalkEvent)) (first : Seating) (at_blocks : List (List ℕ)) (has : AreSeats task.depth task.queries.items at_blocks [] first) where
  -- before the first record
  pub begins : (left : Option (List ℕ)) (now : Option (List TalkEvent)) (reader : Reading) (waiting : List Update)
      → left ≡ Some bytes → IsAfter reader [] → IsSentBut (version_of task) task.depth start now [] waiting → IsUnderway task bytes at_blocks left start now reader first waiting
  begins left now reader waiting all after said =
      let none : said.sent ≡ [] = nil_from_length said.sent (omega (arith, ap length said.order, length-append said.sent waiting)) in
      record { rest = bytes; to_come = all; stream = []; after = after; ahead = refl; said = said; stand = subst (λ l. AreSeats task.depth task.queries.items at_blocks l first) (sym none) has }

  -- after one more record
  pub goes_on : (left left' : Option (List ℕ)) (now now' : Option (List TalkEvent)) (reader reader' : Reading) (seats seats' : Seating) (waiting waiting' : List Update) (u : Update)
      (so : IsUnderway task bytes at_blocks left start now reader seats waiting) → Reads task.depth task.form so.stream so.rest left' (Ok (Some u)) → IsAfter reader' (so.stream ++ u ∷ [])
      → (said : IsSentBut (version_of task) task.depth start now' (so.stream ++ u ∷ []) waiting') → AreSeats task.depth task.queries.items at_blocks said.sent seats' → IsUnderway task bytes at_blocks left' start now' reader' seats' waiting'
  goes_on left left' now now' reader reader' seats seats' waiting waiting' u so (piece, rest, told, split, same) after said stand = record {
    rest = rest;
    to_come = told;
    stream = so.stream ++ u ∷ [];
    after = after;
    ahead = so.ahead ∙ same;
    said = said;
    stand = stand;
  }

  -- after more records that the source held
  pub goes_on_many : (left left' : Option (List ℕ)) (now : Option (List TalkEvent)) (reader reader' : Reading) (seats : Seating) (waiting waiting' us : List Update) (taken : List ℕ)
      → IsUnderway task bytes at_blocks left start now reader seats waiting → reader.depth ≡ task.depth → reader.form ≡ task.form → HasRead reader reader' taken us → Consumes left left' taken → waiting' ≡ waiting ++ us → length waiting' < most_rows
      → IsUnderway task bytes at_blocks left' start now reader' seats waiting'
  goes_on_many left left' now reader reader' seats waiting waiting' us taken so depth form had took grown few =
      let came = came_front left left' so.rest taken so.to_come took in
      let same = rw (depth, form) at (had.same so.stream came.0 so.after) in
      record {
        rest = came.0;
        to_come = came.1;
        stream = so.stream ++ us;
        after = had.after so.stream so.after;
        ahead = so.ahead ∙ ap (records_from task.depth task.form so.stream) came.2 ∙ same;
        said = record {
          sent = so.said.sent;
          whole = so.said.whole;
          talk = so.said.talk;
          order = ap (λ l. l ++ us) so.said.order ∙ append_assoc so.said.sent waiting us ∙ ap (λ l. so.said.sent ++ l) (sym grown);
          few = few;
        };
        stand = so.stand;
      }

  -- the records so far are a front of the legal ones
  is_front : (stream : List Update) (rest : List ℕ) → records task.depth task.form bytes ≡ records_from task.depth task.form stream rest → IsPrefix stream (legal task bytes)
  is_front stream rest ahead = subst (λ (r : Records). IsPrefix stream r.legal) (sym ahead) (read_front task.depth task.form stream (pieces_of (layout_of task.form) rest))

  -- what was said of a front of the legal records is a front of what is said of them
  cut_before : (now : Option (List TalkEvent)) (stream : List Update) → IsPrefix stream (legal task bytes) → IsStopped (version_of task) task.depth start now stream → IsCutBefore task bytes start now
  cut_before now stream front stop = record {
    said = stop.said;
    talk = stop.talk;
    order = IsPrefix-trans _ _ _ stop.order (subst (λ l. IsPrefix (opening_sent (version_of task) task.depth (whole_frames stream)) (opening_sent (version_of task) task.depth (whole_frames l))) (sym front.1) (frames_front (version_of task) task.depth stream front.0));
  }

  cut_short : (now : Option (List TalkEvent)) → IsCutBefore task bytes start now → IsCut task bytes start now
  cut_short now cut = record {
    said = cut.said;
    talk = cut.talk;
    order = IsPrefix-trans _ _ _ cut.order (stream_sent-front (version_of task) task.depth (legal task bytes));
    short = omega (arith, ap length cut.order.1, length-append cut.said cut.order.0, before_end-short (version_of task) task.depth (legal task bytes));
    illegal = λ _. cut.order;
  }

  -- it stopped in the opening
  pub stops_first : (now : Option (List TalkEvent)) → IsStopped (version_of task) task.depth start now [] → IsCut task bytes start now
  stops_first now stop = cut_short now (cut_before now [] (legal task bytes, refl) stop)

  -- it stopped after one more record was read
  pub stops_after : (left left' : Option (List ℕ)) (now now' : Option (List TalkEvent)) (reader : Reading) (seats : Seating) (waiting : List Update) (u : Update)
      (so : IsUnderway task bytes at_blocks left start now reader seats waiting) → Reads task.depth task.form so.stream so.rest left' (Ok (Some u)) → IsStopped (version_of task) task.depth start now' (so.stream ++ u ∷ []) → IsCut task bytes start now'
  stops_after left left' now now' reader seats waiting u so (piece, rest, told, split, same) stop =
      cut_short now' (cut_before now' (so.stream ++ u ∷ []) (is_front (so.stream ++ u ∷ []) rest (so.ahead ∙ same)) stop)

  -- every record was legal
  ended : (left left' : Option (List ℕ)) (now : Option (List TalkEvent)) (reader : Reading) (seats : Seating) (waiting : List Update)
      (so : IsUnderway task bytes at_blocks left start now reader seats waiting) → Reads task.depth task.form so.stream so.rest left' (Ok None) → records task.depth task.form bytes ≡ record { legal = so.stream; fault = None }
  ended left left' now reader seats waiting so (told, none) = so.ahead ∙ ap (records_from task.depth task.form so.stream) none ∙ records_end task.depth task.form so.stream

  -- the rest or the end was cut short
  pub stops_at_end : (left left' : Option (List ℕ)) (now new : Option (List TalkEvent)) (reader : Reading) (seats : Seating) (waiting : List Update)
      (so : IsUnderway task bytes at_blocks left start now reader seats waiting) → Reads task.depth task.form so.stream so.rest left' (Ok None) → IsStoppedAtEnd (version_of task) task.depth start new so.stream → IsCut task bytes start new
  stops_at_end left left' now new reader seats waiting so reads stop =
      let is = ended left left' now reader seats waiting so reads in
      record {
        said = stop.said;
        talk = stop.talk;
        order = subst (λ (r : Records). IsPrefix stop.said (stream_sent (version_of task) task.depth r.legal)) (sym is) stop.order;
        short = subst (λ (r : Records). length stop.said < length (stream_sent (version_of task) task.depth r.legal)) (sym is) stop.short;
        illegal = λ not. absurd (not (ap (λ (r : Records). r.fault) is));
      }

  -- the stream was read and sent whole, and the seats took those that waited
  pub passed_on : (left left' : Option (List ℕ)) (now new : Option (List TalkEvent)) (reader : Reading) (seats seats' : Seating) (waiting : List Update)
      (so : IsUnderway task bytes at_blocks left start now reader seats waiting) → Reads task.depth task.form so.stream so.rest left' (Ok None) → GoesOn start new (stream_sent (version_of task) task.depth so.stream) → AreSeats task.depth task.queries.items at_blocks (so.said.sent ++ waiting) seats' → IsPassedOn task bytes at_blocks left' start new seats'
  passed_on left left' now new reader seats seats' waiting so reads said stand =
      let is = ended left left' now reader seats waiting so reads in
      record {
        to_end = ap (λ (r : Records). r.fault) is;
        read = reads.0;
        talk = subst (λ (r : Records). GoesOn start new (stream_sent (version_of task) task.depth r.legal)) (sym is) said;
        stand = subst (λ l. AreSeats task.depth task.queries.items at_blocks l seats') (sym (ap (λ (r : Records). r.legal) is ∙ so.said.order)) stand;
      }

  -- the weights that the reader has then are those of the stream
  pub weighed : (left left' : Option (List ℕ)) (now : Option (List TalkEvent)) (reader : Reading) (seats : Seating) (waiting : List Update)
      (so : IsUnderway task bytes at_blocks left start now reader seats waiting) → Reads task.depth task.form so.stream so.rest left' (Ok None) → (last : Reading) → IsAfter last so.stream → (w : Weights) → w.first ≡ weight_of last First → w.second ≡ weight_of last Second
      → AreWeights (legal task bytes) w
  weighed left left' now reader seats waiting so reads last after w first second side =
      by_side side (after.weights side ∙ ap (λ (r : Records). weight r.legal side) (sym (ended left left' now reader seats waiting so reads)))
    where
      by_side : (s : Side) → weight_of last s ≡ weight (legal task bytes) s → weight_in w s ≡ weight (legal task bytes) s
      by_side First e = first ∙ e
      by_side Second e = second ∙ e

  -- ---- what is answered

  -- the link stopped
  pub link_stops : (now : Option (List TalkEvent)) (stop : PortStop) → IsCut task bytes start now → Breaks task bytes start now (status_of_link stop)
  link_stops now stops.Failed cut = cut
  link_stops now stops.OutOfMemory cut = cut

  -- it stopped between two records
  stops_between : (left : Option (List ℕ)) (now : Option (List TalkEvent)) (reader : Reading) (seats : Seating) (waiting : List Update) → IsUnderway task bytes at_blocks left start now reader seats waiting → IsCutBefore task bytes start now
  stops_between left now reader seats waiting so = cut_before now so.stream (is_front so.stream so.rest so.ahead) (stopped (version_of task) task.depth start now so.stream waiting so.said)

  -- no record was read: the next one is not legal, or the source stopped
  pub reading_stops : (left left' : Option (List ℕ)) (now : Option (List TalkEvent)) (reader : Reading) (seats : Seating) (waiting : List Update) (fault : StreamFault)
      (so : IsUnderway task bytes at_blocks left start now reader seats waiting) → Reads task.depth task.form so.stream so.rest left' (Err fault) → Breaks task bytes start now (status_of_stream fault)
  reading_stops left left' now reader seats waiting (faults.Bad at why) so (front, number, same) =
      let is : records task.depth task.form bytes ≡ record { legal = so.stream; fault = Some why } = so.ahead ∙ same in
      let frames : before_end task bytes ≡ opening_sent (version_of task) task.depth so.said.sent =
      ap (λ (r : Records). opening_sent (version_of task) task.depth (whole_frames r.legal)) is
      ∙ ap (λ l. opening_sent (version_of task) task.depth (whole_frames l)) so.said.order
      ∙ ap (opening_sent (version_of task) task.depth) (whole_frames-waiting so.said.sent waiting so.said.whole so.said.few) in
      (number ∙ ap (λ (r : Records). length r.legal) (sym is), ap (λ (r : Records). r.fault) is, subst (GoesOn start now) (sym frames) so.said.talk)
  reading_stops left left' now reader seats waiting faults.ReadFault so front = stops_between left now reader seats waiting so
  reading_stops left left' now reader seats waiting faults.OutOfMemory so front = cut_short now (stops_between left now reader seats waiting so)

-- where no challenges were drawn nothing is said
pub undrawn : (task : Task) (bytes seed : List ℕ) (talk : Option (List TalkEvent)) (status : Status) → Draws task seed (Err status) → Refuses task bytes seed talk talk status
undrawn task bytes seed talk statuses.BadSeed short = (short, refl)
undrawn task bytes seed talk statuses.SeedSpent (enough, none) = (enough, none, refl)
undrawn task bytes seed talk (statuses.ReadFault ports.First) is = absurd is
undrawn task bytes seed talk (statuses.ReadFault ports.Second) is = refl
undrawn task bytes seed talk (statuses.ReadFault ports.Report) is = absurd is
undrawn task bytes seed talk (statuses.ReadFault ports.Keep) is = absurd is
undrawn task bytes seed talk (statuses.WriteFault port) is = absurd is
undrawn task bytes seed talk statuses.OutOfMemory is = inl refl
undrawn task bytes seed talk _ is = absurd is

-- ---- behind the draw

module _ (task : Task) (bytes seed : List ℕ) (first : Seating) (has : HasDrawn task seed first) where
  gives : HasSeed task bytes seed
  gives = (has.challenges, has.draws)

  -- the stream was not passed on
  pub refuses : (old new : Option (List TalkEvent)) (status : Status) → Breaks task bytes old new status → Refuses task bytes seed old new status
  refuses old new (statuses.BadStream at why) breaks = (gives, breaks)
  refuses old new (statuses.ReadFault ports.First) breaks = (gives, breaks)
  refuses old new (statuses.ReadFault ports.Second) breaks = absurd breaks
  refuses old new (statuses.ReadFault ports.Report) breaks = absurd breaks
  refuses old new (statuses.ReadFault ports.Keep) breaks = absurd breaks
  refuses old new statuses.PeerFault breaks = (gives, breaks)
  refuses old new statuses.OutOfMemory breaks = inr (gives, breaks)
  refuses old new _ breaks = absurd breaks

  -- it was
  pub gathered : {left : Option (List ℕ)} {old new : Option (List TalkEvent)} {seats : Seating} → IsPassedOn task bytes (blocks task has.challenges) left old new seats → IsGathered task bytes seed left old new seats
  gathered passed = record { challenges = has.challenges; draws = has.draws; passed = passed }
