-- An ask that hears what an honest helper sends is accepted.
use Rattle.std.proofs.Common.{◌≡◌, ◌≢◌, ◌⊎◌, ℕ, suc, ◌+◌, ◌-◌, ◌^◌, ◌<◌, ◌≤◌, List, [], ◌∷◌, ◌++◌, length, map, take, flat_map, All, Option, Some, None, Ok, Err, inl, inr, refl, sym, ap, subst, ◌∙◌, arith, append_assoc}
use Rattle.std.specs.Prelude.{min, replicate}
use Rattle.std.specs.List.{zip}
use Rattle.std.proofs.lemmas.List.{append_cancel_left, length-replicate}
use Rattle.std.proofs.lemmas.List.Elements.{All-append, All-cons, All-head, All-map, All-nil, All-tail}
use Rattle.sip_ports.specs.Desk.{Loads}
use Rattle.sip_ports.specs.Ports.{GoesOn, Rose, heard, ins, outs}
use Rattle.sip_ports.specs.declared.port.TalkEvent.{TalkEvent}
use Rattle.sip_ports.specs.declared.port.TalkEvent.TheVariants.{Out, In, Ended, Fresh, Stored, Renames, Kept}
use Rattle.sip_ports.proofs.TalkLemmas.{GoesOn-told, GoesOn-trans, heard-append, outs-append}
use Rattle.sip_vector.specs.Pieces.{cut}
use Rattle.sip_vector.specs.declared.tally.Tally.{Tally}
use Rattle.sip_vector.specs.declared.update.Update.{Update}
use Rattle.sip_wire.specs.declared.message.Reason.{Reason}
use Rattle.sip_wire.specs.declared.version.Version.{Version}
use Rattle.sip_stream.specs.Records.{Records, records}
use Rattle.sip_stream.specs.Spellings.{all_spelled}
use Rattle.sip_stream.specs.declared.form.Form.TheVariants.{Wide}
use Rattle.sip_replies.specs.Talks.{IsPrefix}
use Rattle.sip_verifier.specs.Exchanges.{Exchange}
use Rattle.sip_verifier.specs.Reports.{rejection}
use Rattle.sip_verifier.specs.Snapshots.{Counts, counts}
use Rattle.sip_verifier.specs.Talks.{opening_sent, stream_sent}
use Rattle.sip_verifier.specs.declared.status.Status.{Status}
use Rattle.sip_verifier.specs.declared.status.Status.TheVariants as runs
use Rattle.sip_verifier.specs.runs.CompletenessClause as completeness
use Rattle.sip_verifier.specs.runs.CompletenessClause.{NoneRose}
use Rattle.sip_verifier.specs.runs.Runs.{Run, updates}
use Rattle.sip_verifier.proofs.HeardTalks.{heard-stream, last_is}
use Rattle.sip_questions.specs.Honest.{CanAnswer, answer, honest_bytes, honesty}
use Rattle.sip_questions.specs.Questions.{asking, version_for}
use Rattle.sip_questions.specs.declared.question.Question.{Question}
use Rattle.sip_questions.proofs.PromisedRuns.{promised}
use Rattle.sip_sketch.specs.Sketches.{IsSketch, SketchValues, spelled_file}
use Rattle.sip_ask.specs.Asking.{Asks, AsksAll, IsInTalk, IsRefused, StoresFirst, as_result}
use Rattle.sip_ask.specs.Causes.{HasRisen}
use Rattle.sip_ask.specs.Choosing.{choice}
use Rattle.sip_ask.specs.Completeness.{AskCompletes, IsHonest, honest_report, honest_sent}
use Rattle.sip_ask.specs.Promises.{IsAsIf, block_for, of_link, run_of, run_status}
use Rattle.sip_ask.specs.Turns.{held_by, held_heard, recall_sent, turn_events}
use Rattle.sip_ask.specs.declared.status.AskPort.TheVariants as ports
use Rattle.sip_ask.specs.declared.status.AskStatus.{AskStatus}
use Rattle.sip_ask.specs.declared.status.AskStatus.TheVariants as statuses
use Rattle.sip_ask.specs.inside.Seating.{IsTested}
use Rattle.sip_ask.proofs.AskKept.{AreKept, ask-keeps, blocks-whole, cut-blocks}
use Rattle.sip_ask.proofs.AskPromises.{Ends, Stopped, ends-of}
use Rattle.sip_ask.proofs.AskRuns.{turns-came}
use Rattle.sip_ask.proofs.Chosen.{chosen-free, chosen-is}
use Rattle.sip_ask.proofs.HonestAnswers.{all-answer, questions-same}
use Rattle.sip_ask.proofs.HonestFile.{loaded-own, never-bad}
use Rattle.sip_ask.proofs.HonestOpening.{heard-rest, never-bad-frame, never-other}
use Rattle.sip_ask.proofs.Served.{sketch-deep, sketch-some}
use Rattle.sip_ask.proofs.StreamBytes.{spelled-back}

-- ---- events

-- it is not the end of a link
abbrev GoesOnBy : TalkEvent → Type 0
GoesOnBy e = e ≢ Ended

-- nothing of the file is heard
heard-link : (es : List TalkEvent) → heard (of_link es) ≡ heard es
heard-link [] = refl
heard-link (Out b ∷ es) = heard-link es
heard-link (In b ∷ es) = ap (λ (l : List ℕ). b ∷ l) (heard-link es)
heard-link (Ended ∷ es) = heard-link es
heard-link (Fresh ∷ es) = heard-link es
heard-link (Stored b ∷ es) = heard-link es
heard-link (Renames ∷ es) = heard-link es
heard-link (Kept ∷ es) = heard-link es

lasts-link : (es : List TalkEvent) → All GoesOnBy es → All GoesOnBy (of_link es)
lasts-link [] all = All-nil GoesOnBy
lasts-link (Out b ∷ es) all = All-cons GoesOnBy (Out b) (of_link es) (All-head GoesOnBy (Out b) es all) (lasts-link es (All-tail GoesOnBy (Out b) es all))
lasts-link (In b ∷ es) all = All-cons GoesOnBy (In b) (of_link es) (All-head GoesOnBy (In b) es all) (lasts-link es (All-tail GoesOnBy (In b) es all))
lasts-link (Ended ∷ es) all = absurd (All-head GoesOnBy Ended es all refl)
lasts-link (Fresh ∷ es) all = lasts-link es (All-tail GoesOnBy Fresh es all)
lasts-link (Stored b ∷ es) all = lasts-link es (All-tail GoesOnBy (Stored b) es all)
lasts-link (Renames ∷ es) all = lasts-link es (All-tail GoesOnBy Renames es all)
lasts-link (Kept ∷ es) all = lasts-link es (All-tail GoesOnBy Kept es all)

lasts-outs : (bytes : List ℕ) → All GoesOnBy (outs bytes)
lasts-outs bytes = All-map GoesOnBy Out bytes (λ k d lt. λ same. absurd cc)

lasts-behind : (before behind : List TalkEvent) → All GoesOnBy (before ++ behind) → All GoesOnBy behind
lasts-behind [] behind all = all
lasts-behind (e ∷ before) behind all = lasts-behind before behind (All-tail GoesOnBy e (before ++ behind) all)

-- no count rose that did not change
still : Rose 0 0 → ⊥
still rose = let one : min (0 + 1) (2 ^ 64 - 1) ≤ 0 = rose in omega (arith, one)

abbrev unrisen : Counts
unrisen = counts 0 0 0 0 0

none-rose : NoneRose unrisen unrisen
none-rose = record { first = still; second = still; peer = still; report = still; keep = still }

kept-law : AreKept
kept-law r x before now status can e = promised r x can before now status e

-- ---- a call that got behind its opening

module _ (asked : List Question) (start : Option (List ℕ)) (talk events wrote : List TalkEvent) (full : Option (List TalkEvent)) (stream : List Update) (status : AskStatus)
    (t : IsInTalk asked start (Some talk) (Some (talk ++ events)) (Some wrote) full status) (h : IsHonest asked start talk events t.s stream) where
  abbrev version : Version
  version = version_for t.s.depth asked

  abbrev opening : List TalkEvent
  opening = recall_sent version t.s.depth t.s.tally.count ++ held_heard version (held_by t.s.tally)

  abbrev new : Option (List TalkEvent)
  new = Some (talk ++ events)

  same-places : h.places ≡ t.places
  same-places = let both : Ok h.places ≡ Ok t.places = sym h.chosen ∙ t.chosen in cc

  mid-told : t.mid ≡ Some (talk ++ opening)
  mid-told = GoesOn-told talk t.mid opening t.opened

  -- what came behind the opening
  record Behind : Type 0 where
    behind : List TalkEvent
    are : events ≡ opening ++ behind

  behind-opening : Behind
  behind-opening =
      let came = turns-came version t.s t.places (talk ++ opening) new (chosen-free t.s asked t.places t.chosen)
      (subst (λ (m : Option (List TalkEvent)). StoresFirst version t.s t.places m new) mid-told t.stores) in
      let behind = take came.count (flat_map turn_events came.turns ++ came.behind) in
      let all : talk ++ events ≡ (talk ++ opening) ++ behind = came.goes in
      record { behind = behind; are = append_cancel_left talk events (opening ++ behind) (all ∙ append_assoc talk opening behind) }

  abbrev Came : Type 0
  Came = Ends version t.s stream h.stands.legal.items asked t.places (Some (of_link (talk ++ opening))) (Some wrote) new full (as_result status)

  came : Came
  came =
      let tested = subst (λ (y : Tally). All (IsTested y) asked) h.stands.told (chosen-is t.s asked t.places t.chosen).tested in
      ends-of version t.s stream h.stands.legal.items asked t.places (Some (of_link (talk ++ opening))) (Some wrote) h.stands.told (chosen-is t.s asked t.places t.chosen).take tested
      (talk ++ opening) wrote new full (as_result status) refl refl
      (subst (λ (m : Option (List TalkEvent)). AsksAll version (asking version t.s.depth stream) t.s 1 asked t.places m new (Some wrote) full (as_result status)) mid-told (t.asks stream h.stands))

  module _ (report : List ℕ) (is_full : full ≡ Some (wrote ++ outs report)) (b : Behind) where
    abbrev x : Exchange
    x = record {
      stream = all_spelled Wide stream;
      unread = [];
      seed = replicate 32 0;
      talk = stream_sent version t.s.depth stream ++ of_link b.behind;
      report = report;
      kept = None;
    }

    abbrev r : Run Question
    r = run_of asked t.s t.places stream Wide

    told : records t.s.depth Wide x.stream ≡ record { legal = stream; fault = None }
    told = spelled-back t.s.depth stream (sketch-deep t.s h.is) h.stands.legal

    as-if : IsAsIf asked t.s t.places stream Wide b.behind report x
    as-if = record {
      told = told;
      read = refl;
      seeded = omega (arith, length-replicate {A = ℕ} 32 0);
      talk = refl;
      written = refl;
    }

    same-updates : updates r x ≡ stream
    same-updates = ap (λ (z : Records). z.legal) told

    abbrev replies_at : List Update → List (List ℕ) → List ℕ
    replies_at us blocks = flat_map (λ ask. honest_bytes version t.s.depth us ask.1 ask.0) (zip asked blocks)

    -- the replies that were heard are those of the run
    heard-replies : IsPrefix (heard x.talk) (replies_at (updates r x) (cut t.s.depth (flat_map (block_for t.s) t.places)))
    heard-replies =
        let own = subst (λ (ps : List (Option ℕ)). IsPrefix (heard events) (honest_sent asked t.s ps h.store)) same-places h.heard in
        let at = subst (λ (es : List TalkEvent). IsPrefix (heard es) (honest_sent asked t.s t.places h.store)) b.are own in
        let rest = heard-rest version t.s h.is (replies_at h.store (map (block_for t.s) t.places)) b.behind at in
        let linked : heard x.talk ≡ heard b.behind =
        heard-append (stream_sent version t.s.depth stream) (of_link b.behind)
        ∙ ap (λ (l : List ℕ). l ++ heard (of_link b.behind)) (heard-stream version t.s.depth stream) ∙ heard-link b.behind in
        let blocks = cut-blocks t.s.depth (sketch-some t.s h.is) (block_for t.s) t.places (blocks-whole t.s h.is asked t.places (chosen-is t.s asked t.places t.chosen).take) in
        let same = questions-same version t.s.depth h.store stream h.vectors h.heavy (zip asked (map (block_for t.s) t.places)) in
        let moved : replies_at h.store (map (block_for t.s) t.places) ≡ replies_at (updates r x) (cut t.s.depth (flat_map (block_for t.s) t.places)) =
        same ∙ ap (replies_at stream) (sym blocks) ∙ ap (λ (us : List Update). replies_at us (cut t.s.depth (flat_map (block_for t.s) t.places))) (sym same-updates) in
        subst (λ (l : List ℕ). IsPrefix l (replies_at (updates r x) (cut t.s.depth (flat_map (block_for t.s) t.places)))) (sym linked)
        (subst (IsPrefix (heard b.behind)) moved rest)

    run-honest : completeness.IsHonest asking honesty r x
    run-honest = record {
      challenges = flat_map (block_for t.s) t.places;
      drawn = refl;
      legal = ap (λ (z : Records). z.fault) told;
      can =
          let fit = (chosen-is t.s asked t.places t.chosen).fit in
          let tested = subst (λ (y : Tally). All (IsTested y) asked) h.stands.told (chosen-is t.s asked t.places t.chosen).tested in
          subst (λ (us : List Update). All (CanAnswer version t.s.depth us) asked) (sym same-updates)
          (all-answer version t.s.depth stream h.stands.legal.items asked fit tested h.few);
      heard = heard-replies;
      lasts =
          let opened = outs-lasts in
          All-append GoesOnBy (stream_sent version t.s.depth stream) (of_link b.behind) opened
          (lasts-link b.behind (lasts-behind opening b.behind (subst (All GoesOnBy) b.are h.lasts)));
    }
      where
        outs-lasts : All GoesOnBy (stream_sent version t.s.depth stream)
        outs-lasts = All-append GoesOnBy (opening_sent version t.s.depth stream) _ (lasts-outs _) (lasts-outs _)

    -- what the promise of completeness says of it
    abbrev IsDone : Status → Type 0
    IsDone end = ((end ≡ runs.Accepted) × (full ≡ Some (wrote ++ outs (honest_report asked t.s.depth stream)))) ⊎ (end ≡ runs.OutOfMemory)

    done : (end : Status) → run_status status ≡ Some end → HasRisen 0 0 0 0 status → IsDone end
    done end same rose =
        let clauses = ask-keeps kept-law asked start (Some talk) new (Some wrote) full status t unrisen unrisen rose stream h.stands talk b.behind wrote report refl refl
        (ap (λ (es : List TalkEvent). talk ++ es) b.are) (subst (λ (o : Option (List TalkEvent)). GoesOn (Some wrote) o (outs report)) (sym is_full) refl) end same Wide x as-if in
        elim (clauses.complete run-honest none-rose) [
          | inl both ↦
              let lines : report ≡ honest_report asked t.s.depth stream =
              both.1 ∙ ap (λ (us : List Update). flat_map (λ q. (asking version t.s.depth us).line q (answer t.s.depth us q)) asked) same-updates in
              inl (both.0, is_full ∙ ap (λ (bytes : List ℕ). Some (wrote ++ outs bytes)) lines)
          | inr memory ↦ inr memory
        ]

-- ---- the report of a call that was accepted or rejected

module _ (version : Version) (s : SketchValues) (stream : List Update) (below : All (λ (u : Update). u.item < 2 ^ s.depth) stream) (asked : List Question) (places : List (Option ℕ))
    (start : Option (List TalkEvent)) (wrote : List TalkEvent) (new full : Option (List TalkEvent)) where
  abbrev Wrote : Type 0
  Wrote = (report : List ℕ) × (full ≡ Some (wrote ++ outs report))

  abbrev Stops : Status → Type 0
  Stops end = Stopped version s stream below asked places start (Some wrote) new full end

  accepted-wrote : Ends version s stream below asked places start (Some wrote) new full (Ok tt) → Wrote
  accepted-wrote b = (_, b.same ∙ GoesOn-told wrote (Some b.lines) _ b.done.passed.report)

  rejected-wrote : (query round : ℕ) (reason : Reason) → Stops (runs.Rejected query round reason) → Wrote
  rejected-wrote query round reason (inl e) =
      let lines : List ℕ = flat_map (λ a. (asking version s.depth stream).line a.question.query a.answer) e.done in
      let last = rejection (suc (length e.done)) round reason in
      let both = GoesOn-trans (Some wrote) e.half full (outs lines) (outs last) e.passed.report e.checks.1.wrote in
      (lines ++ last, GoesOn-told wrote full (outs (lines ++ last)) (subst (GoesOn (Some wrote) full) (sym (outs-append lines last)) both))
  rejected-wrote query round reason (inr (inl b)) = absurd (elim b.stop [
    | inl peer ↦ (let no = peer in cc)
    | inr memory ↦ (let no = memory in cc)
  ])
  rejected-wrote query round reason (inr (inr b)) = absurd (let no = b.stop in cc)

-- ---- a call

module _ (asked : List Question) (start : Option (List ℕ)) (talk events wrote : List TalkEvent) (full : Option (List TalkEvent)) (s : SketchValues) (stream : List Update)
    (h : IsHonest asked start talk events s stream) (a b c d : ℕ) (desk : ¬ Rose a b) (report : ¬ Rose c d) where
  abbrev Result : AskStatus → Type 0
  Result status = ((status ≡ statuses.Accepted) × (full ≡ Some (wrote ++ outs (honest_report asked s.depth stream)))) ⊎ (status ≡ statuses.OutOfMemory)

  abbrev after : Option (List TalkEvent)
  after = Some (talk ++ events)

  -- the sketch that was loaded is the one
  own-sketch : (o : SketchValues) → IsSketch o × Loads start (Some talk) (Some (spelled_file o)) → o ≡ s
  own-sketch o (is, loads) = loaded-own start talk s h.is h.file o is loads

  never-refused : (status : AskStatus) → IsRefused asked start (Some talk) after (Some wrote) full status → ⊥
  never-refused status (o, was, refused, untouched) =
      let same = own-sketch o was in
      let both : Err status ≡ Ok h.places = sym refused ∙ ap (λ (x : SketchValues). choice x asked) same ∙ h.chosen in
      absurd cc

  -- what is heard of an opening is a front of what an honest helper sends
  same-events : (es : List TalkEvent) → GoesOn (Some talk) after es → es ≡ events
  same-events es goes = let all : talk ++ events ≡ talk ++ es = goes in append_cancel_left talk es events (sym all)

  abbrev Heard : SketchValues → List TalkEvent → Type 0
  Heard o es = IsPrefix (heard es) (honest_sent asked o h.places h.store)

  heard-of : (o : SketchValues) → o ≡ s → (es : List TalkEvent) → es ≡ events → Heard o es
  heard-of o same es are = subst (λ (x : SketchValues). Heard x es) (sym same) (subst (Heard s) (sym are) h.heard)

  never-ended : (o : SketchValues) (es more : List TalkEvent) → es ≡ events → es ≡ more ++ Ended ∷ [] → ⊥
  never-ended o es more are ends = last_is GoesOnBy more Ended (subst (All GoesOnBy) (sym are ∙ ends) h.lasts) refl

  in-talk : (status : AskStatus) → IsInTalk asked start (Some talk) after (Some wrote) full status → (end : Status) → run_status status ≡ Some end → HasRisen 0 0 0 0 status
      → ((t : IsInTalk asked start (Some talk) after (Some wrote) full status) (k : IsHonest asked start talk events t.s stream) → (bytes : List ℕ) × (full ≡ Some (wrote ++ outs bytes)))
      → (((end ≡ runs.Accepted) × (full ≡ Some (wrote ++ outs (honest_report asked s.depth stream)))) ⊎ (end ≡ runs.OutOfMemory))
  in-talk status t end same rose wrote_some =
      let one = own-sketch t.s t.loaded in
      let k = subst (λ (o : SketchValues). IsHonest asked start talk events o stream) (sym one) h in
      let bytes = wrote_some t k in
      subst (λ (o : SketchValues). ((end ≡ runs.Accepted) × (full ≡ Some (wrote ++ outs (honest_report asked o.depth stream)))) ⊎ (end ≡ runs.OutOfMemory)) one
      (done asked start talk events wrote full stream status t k bytes.0 bytes.1 (behind-opening asked start talk events wrote full stream status t k) end same rose)

  by-status : (status : AskStatus) → status ≢ statuses.Busy → Asks asked start (Some talk) after (Some wrote) full status → HasRisen a b c d status → Result status
  by-status statuses.Accepted free t rose =
      elim (in-talk statuses.Accepted t runs.Accepted refl tt
      (λ t k. accepted-wrote (version_for t.s.depth asked) t.s stream k.stands.legal.items asked t.places _ wrote after full (came asked start talk events wrote full stream statuses.Accepted t k))) [
        | inl both ↦ inl (refl, both.1)
        | inr memory ↦ absurd (let no = memory in cc)
      ]
  by-status (statuses.Rejected query round reason) free t rose =
      let status = statuses.Rejected query round reason in
      elim (in-talk status t (runs.Rejected query round reason) refl tt
      (λ t k. rejected-wrote (version_for t.s.depth asked) t.s stream k.stands.legal.items asked t.places _ wrote after full query round reason
      (came asked start talk events wrote full stream status t k (runs.Rejected query round reason) refl))) [
        | inl both ↦ absurd (let no = both.0 in cc)
        | inr memory ↦ absurd (let no = memory in cc)
      ]
  by-status (statuses.BadSketch offset) free (file, loads, bad, untouched) rose = absurd (never-bad start talk s h.is h.file file offset loads bad)
  by-status statuses.Busy free asks rose = absurd (free refl)
  by-status statuses.ReadFault free asks rose = absurd (desk rose)
  by-status statuses.NotWhole free refused rose = absurd (never-refused statuses.NotWhole refused)
  by-status (statuses.Unfit query) free refused rose = absurd (never-refused (statuses.Unfit query) refused)
  by-status (statuses.Signed query) free refused rose = absurd (never-refused (statuses.Signed query) refused)
  by-status (statuses.NoSeat query) free refused rose = absurd (never-refused (statuses.NoSeat query) refused)
  by-status (statuses.TooWide query) free refused rose = absurd (never-refused (statuses.TooWide query) refused)
  by-status (statuses.TooHigh query) free refused rose = absurd (never-refused (statuses.TooHigh query) refused)
  by-status (statuses.OutOfStep held kept) free (o, places, was, chosen, es, (same, fit, own, other), goes, unwritten) rose =
      let at = heard-of o (own-sketch o was) es (same-events es goes) in
      let version = version_for o.depth asked in
      let is = never-other version o was.0 _ held fit (subst (Heard o) same at) in
      absurd (other (is ∙ sym own))
  by-status statuses.BadFrame free (o, places, was, chosen, es, (bytes, same, fault, of_bytes, bad), goes, unwritten) rose =
      let at = heard-of o (own-sketch o was) es (same-events es goes) in
      absurd (never-bad-frame (version_for o.depth asked) o was.0 _ bytes fault of_bytes bad (subst (Heard o) same at))
  by-status statuses.PeerClosed free (o, places, was, chosen, es, (bytes, same, closed), goes, unwritten) rose =
      let before = recall_sent (version_for o.depth asked) o.depth o.tally.count ++ ins bytes in
      absurd (never-ended o es before (same-events es goes) same)
  by-status statuses.PeerFault free asks rose = absurd (desk rose)
  by-status (statuses.WriteFault ports.Sketch) free asks rose = absurd (desk rose)
  by-status (statuses.WriteFault ports.Report) free asks rose = absurd (report rose)
  by-status statuses.OutOfMemory free asks rose = inr refl

pub completed : (asked : List Question) (start : Option (List ℕ)) (old new blank full : Option (List TalkEvent)) (a b c d : ℕ) (status : AskStatus)
    → Asks asked start old new blank full status → HasRisen a b c d status → AskCompletes asked start old new blank full a b c d status
completed asked start old new blank full a b c d status asks rose = λ talk events wrote s stream told came blank_told h desk report free.
    let at = subst (λ (o : Option (List TalkEvent)). Asks asked start o new blank full status) told asks in
    let on = subst (λ (o : Option (List TalkEvent)). Asks asked start (Some talk) o blank full status) came at in
    let whole = subst (λ (o : Option (List TalkEvent)). Asks asked start (Some talk) (Some (talk ++ events)) o full status) blank_told on in
    by-status asked start talk events wrote full s stream h a b c d desk report status free whole rose
