-- A copy under way: what was read, what of it was sent, and what is gathered.
use Rattle.std.proofs.Common.{◌≡◌, ℕ, ◌+◌, ◌<◌, ◌≤◌, List, [], ◌∷◌, ◌++◌, length, take, drop, None, Some, Option, Ok, Err, refl, sym, ap, ◌∙◌, subst, arith, append_assoc, append-nil, length-append, take-append-drop}
use Rattle.std.specs.Io.KnownBytes.{Consumes}
use Rattle.std.proofs.lemmas.List.{length-take-le, take_at, take_all}
use Rattle.std.proofs.lemmas.List.Concat.{flat_map-append}
use Rattle.sip_ports.specs.declared.port.PortStop.{PortStop}
use Rattle.sip_ports.specs.declared.port.PortStop.TheVariants as ports
use Rattle.sip_ports.specs.declared.port.TalkEvent.{TalkEvent}
use Rattle.sip_ports.specs.Ports.{GoesOn, outs}
use Rattle.sip_ports.proofs.TalkLemmas.{GoesOn-refl, GoesOn-trans, outs-append}
use Rattle.sip_vector.specs.declared.update.Update.{Update}
use Rattle.sip_stream.specs.declared.fault.StreamFault.{StreamFault}
use Rattle.sip_stream.specs.declared.fault.StreamFault.TheVariants as faults
use Rattle.sip_stream.specs.declared.form.Form.{Form}
use Rattle.sip_stream.specs.declared.why.Why.{Why}
use Rattle.sip_stream.specs.Copied.{IsSentBut, IsCut, legal, were_read, CopiesOn}
use Rattle.sip_stream.specs.Copying.{copied, Copies, stop_of_sink, stop_of_stream}
use Rattle.sip_stream.specs.Layouts.{layout_of}
use Rattle.sip_stream.specs.Reading.{Reading, IsAfter, HasRead, Reads}
use Rattle.sip_stream.specs.Records.{Records, records, records_after, records_from, fault_at, update_at, pieces_of}
use Rattle.sip_stream.specs.Spellings.{spelled, all_spelled}
use Rattle.sip_stream.proofs.RecordsRead.{came_front, records_end}

-- ---- records

-- how it goes on after a piece, by what stands against it
abbrev pub after_piece : ℕ → Form → List Update → List ℕ → List (List ℕ) → Option Why → Records
after_piece depth form before piece more fault = elim fault [
  | None ↦ records_after depth form (before ++ update_at (layout_of form) piece ∷ []) more
  | Some why ↦ record { legal = before; fault = Some why }
]

-- the records so far stand in front of all legal ones
pub read_front : (depth : ℕ) (form : Form) (before : List Update) (pieces : List (List ℕ)) → (more : List Update) × ((records_after depth form before pieces).legal ≡ before ++ more)
read_front depth form before [] = ([], sym (append-nil before))
read_front depth form before (piece ∷ more) =
    elim (fault_at (layout_of form) depth before piece) as (λ f. (others : List Update) × ((after_piece depth form before piece more f).legal ≡ before ++ others)) [
      | None ↦
          let later = read_front depth form (before ++ update_at (layout_of form) piece ∷ []) more in
          (update_at (layout_of form) piece ∷ later.0, later.1 ∙ append_assoc before (update_at (layout_of form) piece ∷ []) later.0)
      | Some why ↦ ([], sym (append-nil before))
    ]

-- ---- bytes

-- a front of a text: what was sent, and a front of what is gathered
front_cut : (a b c : Option (List TalkEvent)) (sent gathered rest whole : List ℕ) (n : ℕ) → GoesOn a b (outs sent) → n ≤ length gathered → GoesOn b c (outs (take n gathered)) → whole ≡ (sent ++ gathered) ++ rest → IsCut a c whole
front_cut a b c sent gathered rest whole n first within second is =
    let split : gathered ≡ take n gathered ++ drop n gathered = sym (take-append-drop n gathered) in
    let regrouped : (sent ++ (take n gathered ++ drop n gathered)) ++ rest ≡ (sent ++ take n gathered) ++ (drop n gathered ++ rest) = simp append_assoc in
    let front : whole ≡ (sent ++ take n gathered) ++ (drop n gathered ++ rest) = is ∙ ap (λ x. (sent ++ x) ++ rest) split ∙ regrouped in
    let count : length (sent ++ take n gathered) ≡ length sent + n = omega (arith, length-append sent (take n gathered), length-take-le n gathered within) in
    let cut : take (length sent + n) whole ≡ sent ++ take n gathered = ap (take (length sent + n)) front ∙ take_at (sent ++ take n gathered) (drop n gathered ++ rest) (length sent + n) count in
    let went : GoesOn a c (outs (sent ++ take n gathered)) = subst (GoesOn a c) (sym (outs-append sent (take n gathered))) (GoesOn-trans a b c (outs sent) (outs (take n gathered)) first second) in
    record { sent = length sent + n; talk = subst (λ l. GoesOn a c (outs l)) (sym cut) went }

-- a front of a front
cut_longer : (a c : Option (List TalkEvent)) (part rest whole : List ℕ) → whole ≡ part ++ rest → IsCut a c part → IsCut a c whole
cut_longer a c part rest whole is cut =
    let split : part ≡ take cut.sent part ++ drop cut.sent part = sym (take-append-drop cut.sent part) in
    let front : whole ≡ take cut.sent part ++ (drop cut.sent part ++ rest) = is ∙ ap (λ x. x ++ rest) split ∙ append_assoc (take cut.sent part) (drop cut.sent part) rest in
    let same : take (length (take cut.sent part)) whole ≡ take cut.sent part = ap (take (length (take cut.sent part))) front ∙ take_at (take cut.sent part) (drop cut.sent part ++ rest) (length (take cut.sent part)) refl in
    record { sent = length (take cut.sent part); talk = subst (λ l. GoesOn a c (outs l)) (sym same) cut.talk }

-- all of a text, as a front of it
all_cut : (a c : Option (List TalkEvent)) (whole : List ℕ) → GoesOn a c (outs whole) → IsCut a c whole
all_cut a c whole went = record { sent = length whole; talk = subst (λ l. GoesOn a c (outs l)) (sym (take_all (length whole) whole (omega arith))) went }

-- what updates are spelled by, in front of more
spelled_more : (to : Form) (us more all : List Update) → all ≡ us ++ more → all_spelled to all ≡ all_spelled to us ++ all_spelled to more
spelled_more to us more all is = ap (all_spelled to) is ∙ flat_map-append (spelled (layout_of to)) us more

-- ---- the copy

-- The records read so far are this stream; a part of their spellings was sent, and the rest is gathered.
pub record IsUnderway (depth : ℕ) (from to : Form) (bytes : List ℕ) (left : Option (List ℕ)) (start now : Option (List TalkEvent)) (reader : Reading) (gathered : List ℕ) : Type 0 where
  pub rest : List ℕ
  pub to_come : left ≡ Some rest
  pub stream : List Update
  pub after : IsAfter reader stream
  pub ahead : records depth from bytes ≡ records_from depth from stream rest
  pub sent : IsSentBut start now (all_spelled to stream) gathered

module _ (depth : ℕ) (from to : Form) (bytes : List ℕ) (start : Option (List TalkEvent)) where
  -- before the first record
  pub begins : (left : Option (List ℕ)) (reader : Reading) (gathered : List ℕ) → left ≡ Some bytes → IsAfter reader [] → gathered ≡ [] → IsUnderway depth from to bytes left start start reader gathered
  begins left reader gathered all after none = record {
    rest = bytes;
    to_come = all;
    stream = [];
    after = after;
    ahead = refl;
    sent = record { sent = []; order = sym none; talk = GoesOn-refl start };
  }

  -- after one more record
  pub goes_on : (left left' : Option (List ℕ)) (now now' : Option (List TalkEvent)) (reader reader' : Reading) (gathered kept gathered' part : List ℕ) (u : Update)
      (so : IsUnderway depth from to bytes left start now reader gathered) → Reads depth from so.stream so.rest left' (Ok (Some u)) → IsAfter reader' (so.stream ++ u ∷ [])
      → gathered ≡ part ++ kept → GoesOn now now' (outs part) → gathered' ≡ kept ++ spelled (layout_of to) u → IsUnderway depth from to bytes left' start now' reader' gathered'
  goes_on left left' now now' reader reader' gathered kept gathered' part u so (piece, rest, told, split, same) after parts went items =
      let one : all_spelled to (u ∷ []) ≡ spelled (layout_of to) u = append-nil (spelled (layout_of to) u) in
      let grown : all_spelled to (so.stream ++ u ∷ []) ≡ all_spelled to so.stream ++ spelled (layout_of to) u = flat_map-append (spelled (layout_of to)) so.stream (u ∷ []) ∙ ap (λ l. all_spelled to so.stream ++ l) one in
      let regrouped : (so.sent.sent ++ (part ++ kept)) ++ spelled (layout_of to) u ≡ (so.sent.sent ++ part) ++ (kept ++ spelled (layout_of to) u) = simp append_assoc in
      record {
        rest = rest;
        to_come = told;
        stream = so.stream ++ u ∷ [];
        after = after;
        ahead = so.ahead ∙ same;
        sent = record {
          sent = so.sent.sent ++ part;
          order = grown ∙ ap (λ l. l ++ spelled (layout_of to) u) (so.sent.order ∙ ap (λ l. so.sent.sent ++ l) parts) ∙ regrouped ∙ ap (λ l. (so.sent.sent ++ part) ++ l) (sym items);
          talk = subst (GoesOn start now') (sym (outs-append so.sent.sent part)) (GoesOn-trans start now now' (outs so.sent.sent) (outs part) so.sent.talk went);
        };
      }

  -- after more records that the source held
  pub goes_on_many : (left left' : Option (List ℕ)) (now : Option (List TalkEvent)) (reader reader' : Reading) (gathered gathered' taken : List ℕ) (us : List Update)
      → IsUnderway depth from to bytes left start now reader gathered → reader.depth ≡ depth → reader.form ≡ from → HasRead reader reader' taken us → Consumes left left' taken → gathered' ≡ gathered ++ all_spelled to us
      → IsUnderway depth from to bytes left' start now reader' gathered'
  goes_on_many left left' now reader reader' gathered gathered' taken us so same_depth same_form had took grown =
      let came = came_front left left' so.rest taken so.to_come took in
      let same = rw (same_depth, same_form) at (had.same so.stream came.0 so.after) in
      record {
        rest = came.0;
        to_come = came.1;
        stream = so.stream ++ us;
        after = had.after so.stream so.after;
        ahead = so.ahead ∙ ap (records_from depth from so.stream) came.2 ∙ same;
        sent = record {
          sent = so.sent.sent;
          order = spelled_more to so.stream us (so.stream ++ us) refl ∙ ap (λ l. l ++ all_spelled to us) so.sent.order ∙ append_assoc so.sent.sent gathered (all_spelled to us) ∙ ap (λ l. so.sent.sent ++ l) (sym grown);
          talk = so.sent.talk;
        };
      }

  -- at the end of the stream
  pub ends : (left left' : Option (List ℕ)) (now : Option (List TalkEvent)) (reader : Reading) (gathered : List ℕ)
      (so : IsUnderway depth from to bytes left start now reader gathered) → Reads depth from so.stream so.rest left' (Ok None) → CopiesOn depth from to bytes left' start now gathered (Ok None)
  ends left left' now reader gathered so (told, none) =
      let all : records depth from bytes ≡ record { legal = so.stream; fault = None } = so.ahead ∙ ap (records_from depth from so.stream) none ∙ records_end depth from so.stream in
      (so.stream, sym (ap (λ (r : Records). r.legal) all), (ap (λ (r : Records). r.fault) all, told), so.sent)

  -- where the stream is read no further
  pub stops_reading : (left left' : Option (List ℕ)) (now : Option (List TalkEvent)) (reader : Reading) (gathered : List ℕ) (fault : StreamFault)
      (so : IsUnderway depth from to bytes left start now reader gathered) → Reads depth from so.stream so.rest left' (Err fault) → CopiesOn depth from to bytes left' start now gathered (Ok (Some fault))
  stops_reading left left' now reader gathered (faults.Bad at why) so (front, number, is) =
      let all : records depth from bytes ≡ record { legal = so.stream; fault = Some why } = so.ahead ∙ is in
      let same : legal depth from to bytes ≡ so.stream = ap (λ (r : Records). r.legal) all in
      (so.stream, sym same, (ap (λ (r : Records). r.fault) all, number ∙ ap length (sym same)), so.sent)
  stops_reading left left' now reader gathered faults.ReadFault so front =
      let f = read_front depth from so.stream (pieces_of (layout_of from) so.rest) in
      (so.stream, (f.0, ap (λ (r : Records). r.legal) so.ahead ∙ f.1), tt, so.sent)
  stops_reading left left' now reader gathered faults.OutOfMemory so front =
      let f = read_front depth from so.stream (pieces_of (layout_of from) so.rest) in
      (so.stream, (f.0, ap (λ (r : Records). r.legal) so.ahead ∙ f.1), tt, so.sent)

  -- the sink stopped while what is gathered was written
  pub stops_writing : (left : Option (List ℕ)) (now new : Option (List TalkEvent)) (reader : Reading) (gathered : List ℕ) (n : ℕ)
      (so : IsUnderway depth from to bytes left start now reader gathered) → n < length gathered → GoesOn now new (outs (take n gathered)) → IsCut start new (all_spelled to (legal depth from to bytes))
  stops_writing left now new reader gathered n so within went =
      let f = read_front depth from so.stream (pieces_of (layout_of from) so.rest) in
      let more : legal depth from to bytes ≡ so.stream ++ f.0 = ap (λ (r : Records). r.legal) so.ahead ∙ f.1 in
      let whole : all_spelled to (legal depth from to bytes) ≡ (so.sent.sent ++ gathered) ++ all_spelled to f.0 = spelled_more to so.stream f.0 (legal depth from to bytes) more ∙ ap (λ l. l ++ all_spelled to f.0) so.sent.order in
      front_cut start now new so.sent.sent gathered (all_spelled to f.0) (all_spelled to (legal depth from to bytes)) n so.sent.talk (omega arith) went whole

  -- ---- the last bytes

  abbrev whole : List ℕ
  whole = copied depth from to bytes

  cut_stops : (left : Option (List ℕ)) (new : Option (List TalkEvent)) (stop : PortStop) → IsCut start new whole → Copies depth from to bytes left start new (Err (stop_of_sink stop))
  cut_stops left new ports.Failed cut = (cut.sent, cut.talk)
  cut_stops left new ports.OutOfMemory cut = (cut.sent, cut.talk)

  -- the sink had stopped before
  pub was_cut : (left : Option (List ℕ)) (new : Option (List TalkEvent)) (gathered : List ℕ) (stop : PortStop) → CopiesOn depth from to bytes left start new gathered (Err stop) → Copies depth from to bytes left start new (Err (stop_of_sink stop))
  was_cut left new gathered stop cut = cut_stops left new stop cut

  -- what was read stands in front of all legal records
  read_part : (stopped : Option StreamFault) (us : List Update) → were_read depth from to bytes stopped us → (more : List Update) × (legal depth from to bytes ≡ us ++ more)
  read_part None us is = ([], sym is ∙ sym (append-nil us))
  read_part (Some (faults.Bad at why)) us is = ([], sym is ∙ sym (append-nil us))
  read_part (Some faults.ReadFault) us part = part
  read_part (Some faults.OutOfMemory) us part = part

  -- the sink stops at the last bytes
  pub cut_at_last : (left : Option (List ℕ)) (now new : Option (List TalkEvent)) (gathered : List ℕ) (stopped : Option StreamFault) (stop : PortStop) (n : ℕ)
      → CopiesOn depth from to bytes left start now gathered (Ok stopped) → n < length gathered → GoesOn now new (outs (take n gathered)) → Copies depth from to bytes left start new (Err (stop_of_sink stop))
  cut_at_last left now new gathered stopped stop n (us, read, fault, so) within went =
      let part = read_part stopped us read in
      let is : whole ≡ (so.sent ++ gathered) ++ all_spelled to part.0 = spelled_more to us part.0 (legal depth from to bytes) part.1 ∙ ap (λ l. l ++ all_spelled to part.0) so.order in
      cut_stops left new stop (front_cut start now new so.sent gathered (all_spelled to part.0) whole n so.talk (omega arith) went is)

  -- all that was read is written
  all_written : (now new : Option (List TalkEvent)) (gathered : List ℕ) (us : List Update) → IsSentBut start now (all_spelled to us) gathered → GoesOn now new (outs gathered) → GoesOn start new (outs (all_spelled to us))
  all_written now new gathered us so went = subst (λ l. GoesOn start new (outs l)) (sym so.order) (subst (GoesOn start new) (sym (outs-append so.sent gathered)) (GoesOn-trans start now new (outs so.sent) (outs gathered) so.talk went))

  pub ended : (left : Option (List ℕ)) (now new : Option (List TalkEvent)) (gathered : List ℕ)
      → CopiesOn depth from to bytes left start now gathered (Ok None) → GoesOn now new (outs gathered) → Copies depth from to bytes left start new (Ok tt)
  ended left now new gathered (us, read, fault, so) went =
      (fault.0, fault.1, subst (λ l. GoesOn start new (outs (all_spelled to l))) read (all_written now new gathered us so went))

  pub stopped_early : (left : Option (List ℕ)) (now new : Option (List TalkEvent)) (gathered : List ℕ) (fault : StreamFault)
      → CopiesOn depth from to bytes left start now gathered (Ok (Some fault)) → GoesOn now new (outs gathered) → Copies depth from to bytes left start new (Err (stop_of_stream fault))
  stopped_early left now new gathered (faults.Bad at why) (us, read, fault, so) went =
      (fault.0, fault.1, subst (λ l. GoesOn start new (outs (all_spelled to l))) read (all_written now new gathered us so went))
  stopped_early left now new gathered faults.ReadFault (us, read, fault, so) went =
      let cut = cut_longer start new (all_spelled to us) (all_spelled to read.0) whole (spelled_more to us read.0 (legal depth from to bytes) read.1) (all_cut start new (all_spelled to us) (all_written now new gathered us so went)) in
      (cut.sent, cut.talk)
  stopped_early left now new gathered faults.OutOfMemory (us, read, fault, so) went =
      let cut = cut_longer start new (all_spelled to us) (all_spelled to read.0) whole (spelled_more to us read.0 (legal depth from to bytes) read.1) (all_cut start new (all_spelled to us) (all_written now new gathered us so went)) in
      (cut.sent, cut.talk)
