-- An audit over a transcript that is whole, and one over the same in version 2.
use Rattle.std.proofs.Common.{◌≡◌, ◌⊎◌, ℕ, zero, suc, ◌+◌, ◌≤◌, Option, Some, None, Result, Ok, Err, List, [], ◌∷◌, ◌++◌, length, drop, inl, inr, refl, sym, ap, subst, ◌∙◌, arith, append_assoc, append-nil, drop_at}
use Rattle.std.specs.Prelude.{All, IsTrue}
use Rattle.std.specs.List.{flat_map}
use Rattle.std.proofs.lemmas.List.Elements.{All-head, All-tail}
use Rattle.std.proofs.lemmas.Bool.{or_left, or_right}
use Rattle.sip_stream.specs.declared.form.Form.{Form}
use Rattle.sip_wire.specs.declared.kind.Place.TheVariants.{ToVerifier}
use Rattle.sip_wire.specs.declared.message.Message.{Message}
use Rattle.sip_wire.specs.declared.message.WireFault.{WireFault}
use Rattle.sip_wire.specs.declared.version.Version.{Version}
use Rattle.sip_wire.specs.declared.version.Version.TheVariants.{Two}
use Rattle.sip_wire.specs.Decoding.{IsBytes}
use Rattle.sip_wire.specs.Reading.{read_frame}
use Rattle.sip_wire.specs.Spelling.{asked, spelling}
use Rattle.sip_wire.specs.Transcript.{ask_bytes, head_bytes, transcript}
use Rattle.sip_wire.proofs.Bytes.{IsBytes-drop}
use Rattle.sip_wire.proofs.ReadingLaws.{read_frame-rest, read_frame-shrinks}
use Rattle.sip_wire.proofs.ReadsBack.{read_frame-message}
use Rattle.sip_wire.proofs.Wider.{fits_two}
use Rattle.sip_verifier.specs.declared.status.Status.{Status}
use Rattle.sip_verifier.specs.Inquiries.{Inquiry}
use Rattle.sip_verifier.specs.Snapshots.{Counts}
use Rattle.sip_transcript.specs.Agreements.{stops_freely}
use Rattle.sip_transcript.specs.AlikeAudits.{ConvertAgrees, IsConverted, TellSame}
use Rattle.sip_transcript.specs.Auditing.{Audit, Audits, Replay, inquiry_in}
use Rattle.sip_transcript.specs.Conversions.{in_version_2}
use Rattle.sip_transcript.specs.Fields.{head_fault}
use Rattle.sip_transcript.specs.Heads.{Ask, IsRun}
use Rattle.sip_transcript.specs.Tales.{IsReply, Tale, all_replies, rest_fault, tale_from, tale_of, transcript_fault}
use Rattle.sip_transcript.proofs.AuditEnds.{Comes, audit_comes, ends_alike}
use Rattle.sip_transcript.proofs.Converted.{replies_two, run_two}
use Rattle.sip_transcript.proofs.Growing.{run-has_no_fault}
use Rattle.sip_transcript.proofs.Respelled.{AreBoth, bytes-cons, bytes_in}
use Rattle.sip_transcript.proofs.RespelledVerdicts.{inquiry_as}
use Rattle.sip_transcript.proofs.Telling.{one_head, replies-more, replies-none, tale-of_run}
use Rattle.sip_transcript.proofs.Tests.{count-test, depth-test}

-- ---- the messages that bytes spell

-- bytes are the spellings of messages, which have one in version 2 too, and others
record AreTold (version : Version) (bytes : List ℕ) (told : List Message × List ℕ) : Type 0 where
  spelled : bytes ≡ bytes_in version told.0 ++ told.1
  both : AreBoth version Two told.0

told_by : (version : Version) (bytes : List ℕ) → IsBytes bytes → (r : Result (Message × List ℕ) WireFault) → read_frame version ToVerifier bytes ≡ r
    → ((m : Message) (rest : List ℕ) → length rest + 3 ≤ length bytes → IsBytes rest → AreTold version rest (all_replies version rest)) → AreTold version bytes (all_replies version bytes)
told_by version bytes are (Err fault) e again = subst (AreTold version bytes) (sym (replies-none version bytes fault e)) (record { spelled = refl; both = tt })
told_by version bytes are (Ok (m, rest)) e again =
    let is = read_frame-message version ToVerifier bytes m rest are e in
    let others = subst IsBytes (sym (read_frame-rest version ToVerifier bytes m rest e).1) (IsBytes-drop (asked version ToVerifier bytes) bytes are) in
    let more = again m rest (read_frame-shrinks version ToVerifier bytes m rest e) others in
    let ms = (all_replies version rest).0 in
    let behind = (all_replies version rest).1 in
    let spelled : bytes ≡ bytes_in version (m ∷ ms) ++ behind =
    is.spelled ∙ ap (λ (l : List ℕ). spelling version m ++ l) more.spelled ∙ sym (append_assoc (spelling version m) (bytes_in version ms) behind) ∙ ap (λ (l : List ℕ). l ++ behind) (sym (bytes-cons version m ms)) in
    let both : AreBoth version Two (m ∷ ms) = (
      record { has_spelling = is.has_spelling; allowed = is.allowed; in_range = is.in_range },
      record { has_spelling = fits_two version m is.has_spelling; allowed = is.allowed; in_range = is.in_range },
      more.both,
    ) in
    subst (AreTold version bytes) (sym (replies-more version bytes m rest e)) (record { spelled = spelled; both = both })

-- by how many bytes there are at most
replies-told : (version : Version) (n : ℕ) (bytes : List ℕ) → length bytes ≤ n → IsBytes bytes → AreTold version bytes (all_replies version bytes)
replies-told version zero bytes le are = told_by version bytes are (read_frame version ToVerifier bytes) refl (λ m rest less others. absurd (omega (arith, le, less)))
replies-told version (suc n) bytes le are = told_by version bytes are (read_frame version ToVerifier bytes) refl (λ m rest less others. replies-told version n rest (omega (arith, le, less)) others)

-- the messages of a run are replies in version 2 too
both-replies : (version : Version) (ms : List Message) → All (IsReply version) ms → AreBoth version Two ms
both-replies version [] are = tt
both-replies version (m ∷ ms) are =
    let first = All-head (IsReply version) m ms are in
    let second = All-head (IsReply Two) m ms (replies_two version (m ∷ ms) are) in
    (first, second, both-replies version ms (All-tail (IsReply version) m ms are))

-- ---- a transcript that is whole

nothing_behind : (found : Option ℕ) (size : ℕ) (rest : List ℕ) → ◌≡◌ {A = Option ℕ} (elim found [ Some at ↦ Some at | None ↦ rest_fault size rest ]) None → (found ≡ None) × (rest ≡ [])
nothing_behind (Some at) size rest e = absurd cc
nothing_behind None size [] e = (refl, refl)
nothing_behind None size (byte ∷ rest) e = absurd cc

whole-parts : (bytes : List ℕ) → transcript_fault bytes ≡ None → (head_fault bytes ≡ None) × ((tale_of bytes).rest ≡ [])
unfolding transcript_fault
whole-parts bytes none = nothing_behind (head_fault bytes) (length bytes) (tale_of bytes).rest none

-- ---- an audit of a run's transcript

same_asked : (form : Form) (v w : Version) (d e : ℕ) (q r : List Ask) → v ≡ w → d ≡ e → q ≡ r
    → inquiry_in form (record { version = v; depth = d; asks = q }) ≡ inquiry_in form (record { version = w; depth = e; asks = r })
same_asked form v w d e q r first second third = cc

module _ (form : Form) (a : Audit) (version : Version) (depth : ℕ) (asks : List Ask) (behind : List ℕ) (run : IsRun version depth asks) (stored : a.stored ≡ transcript version depth asks behind) where
  abbrev asked_for : Inquiry
  asked_for = inquiry_in form (record { version = version; depth = depth; asks = asks })

  -- its head is there
  no_head_fault : (at : ℕ) → head_fault a.stored ≡ Some at → ⊥
  no_head_fault at is =
      let none = ap head_fault stored ∙ run-has_no_fault version depth asks behind (depth-test version depth run.deep run.shallow) (count-test (length asks) run.some run.most) run.each in
      let both : None ≡ Some at = sym none ∙ is in cc

  -- and the run that is replayed is this one
  come_as : (p : Replay form a) (given : Status) → Comes (inquiry_in form p.asked) p.behind a.stream a.report given → Comes asked_for behind a.stream a.report given
  come_as p given x =
      let other = p.is_run in
      let heads = one_head version p.asked.version depth p.asked.depth asks p.asked.asks behind p.behind run.each other.each (sym stored ∙ p.stored) in
      let same = subst (λ (i : Inquiry). Comes i p.behind a.stream a.report given) (same_asked form p.asked.version version p.asked.depth depth p.asked.asks asks heads.0 heads.1 heads.2) x in
      subst (λ (l : List ℕ). Comes asked_for l a.stream a.report given) heads.3 same

  -- so it ends as such an audit, or stopped freely
  run_comes : (before now : Counts) (given : Status) → Audits form a before now given → IsTrue (stops_freely given) ⊎ Comes asked_for behind a.stream a.report given
  run_comes before now given x = elim (audit_comes form a before now given x) [
    | inl free ↦ inl free
    | inr (inl head) ↦ absurd (no_head_fault head.0 head.1)
    | inr (inr p) ↦ inr (come_as p.0 given p.1)
  ]

-- ---- the two audits

module _ (form : Form) (a b : Audit) (earlier later before now : Counts) (given other : Status) (x : Audits form a earlier later given) (y : Audits form b before now other) where
  same_agree : (version : Version) (depth : ℕ) (asks : List Ask) (ms : List Message) → IsRun version depth asks → AreBoth version Two ms → a.stored ≡ transcript version depth asks (bytes_in version ms)
      → b.stored ≡ transcript Two depth asks (bytes_in Two ms) → b.stream ≡ a.stream → ConvertAgrees a b given other
  same_agree version depth asks ms run both first second stream = elim (run_comes form a version depth asks (bytes_in version ms) run first earlier later given x) [
    | inl free ↦ inr (or_left (stops_freely given) (stops_freely other) free)
    | inr one ↦ elim (run_comes form b Two depth asks (bytes_in Two ms) (run_two version depth asks run) second before now other y) [
      | inl free ↦ inr (or_right (stops_freely given) (stops_freely other) free)
      | inr two ↦ inl (
          let i = inquiry_in form (record { version = version; depth = depth; asks = asks }) in
          let here = subst (λ (l : List ℕ). Comes (inquiry_as Two i) (bytes_in Two ms) l b.report other) stream two in
          ends_alike i Two a.stream ms both a.report b.report given other one here)
    ]
  ]

  -- where the first has the transcript of a run whose replies are messages
  pub told_agree : TellSame a b → ConvertAgrees a b given other
  told_agree t = let run = t.run in same_agree run.version run.depth run.asks run.replies run.is_run (both-replies run.version run.replies run.are_replies) run.all t.same t.stream

  -- where its transcript is whole, and each is a byte
  pub convert_agrees : IsConverted a b → ConvertAgrees a b given other
  convert_agrees c = elim (audit_comes form a earlier later given x) [
    | inl free ↦ inr (or_left (stops_freely given) (stops_freely other) free)
    | inr (inl head) ↦ absurd (let none = (whole-parts a.stored c.whole).0 in let both : None ≡ Some head.0 = sym none ∙ head.1 in cc)
    | inr (inr p) ↦ by_replay p.0
  ]
    where
      by_replay : Replay form a → ConvertAgrees a b given other
      by_replay p =
          let run = p.is_run in
          let version = p.asked.version in
          let front = head_bytes version p.asked.depth (length p.asked.asks) ++ flat_map (λ (ask : Ask). ask_bytes version ask.0 ask.1) p.asked.asks in
          let are : IsBytes p.behind = subst IsBytes (ap (drop (length front)) p.stored ∙ drop_at front p.behind (length front) refl) (IsBytes-drop (length front) a.stored c.bytes) in
          let told = replies-told version (length p.behind) p.behind (omega arith) are in
          let ms = (all_replies version p.behind).0 in
          let tells : tale_of a.stored ≡ tale_from version p.asked.depth (p.asked.asks, p.behind) = ap tale_of p.stored ∙ tale-of_run version p.asked.depth p.asked.asks p.behind run.each in
          let none : (all_replies version p.behind).1 ≡ [] = sym (ap (λ (t : Tale). t.rest) tells) ∙ (whole-parts a.stored c.whole).1 in
          let all : p.behind ≡ bytes_in version ms = told.spelled ∙ ap (λ (l : List ℕ). bytes_in version ms ++ l) none ∙ append-nil (bytes_in version ms) in
          same_agree version p.asked.depth p.asked.asks ms run told.both (p.stored ∙ ap (λ (l : List ℕ). transcript version p.asked.depth p.asked.asks l) all) (c.converted ∙ ap in_version_2 tells) c.stream
