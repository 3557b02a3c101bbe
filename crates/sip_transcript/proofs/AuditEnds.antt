-- How an audit ends that did not stop for a port or for memory: what the stream alone says, or a verdict.
use Rattle.std.proofs.Common.{◌≡◌, ◌≢◌, ◌⊎◌, ℕ, Option, Some, None, List, [], ◌∷◌, length, inl, inr, refl, sym, ap, ◌∙◌}
use Rattle.std.specs.Prelude.{IsTrue}
use Rattle.sip_ports.specs.declared.port.TalkEvent.{TalkEvent}
use Rattle.sip_stream.specs.Records.{records}
use Rattle.sip_stream.specs.declared.form.Form.{Form}
use Rattle.sip_stream.specs.declared.why.Why.{Why}
use Rattle.sip_wire.specs.declared.message.Message.{Message}
use Rattle.sip_wire.specs.declared.version.Version.{Version}
use Rattle.sip_verifier.specs.declared.status.Port.TheVariants as ports
use Rattle.sip_verifier.specs.declared.status.Status.{Status}
use Rattle.sip_verifier.specs.declared.status.Status.TheVariants as statuses
use Rattle.sip_verifier.specs.Inquiries.{Inquiry}
use Rattle.sip_verifier.specs.Snapshots.{Counts}
use Rattle.sip_verifier.specs.Widths.{first_wide}
use Rattle.sip_transcript.specs.Agreements.{stops_freely}
use Rattle.sip_transcript.specs.AlikeAudits.{but_place}
use Rattle.sip_transcript.specs.Auditing.{Audit, Audits, EndsSo, Replay, exchange_of, inquiry_in, is_verdict}
use Rattle.sip_transcript.specs.Fields.{head_fault}
use Rattle.sip_transcript.specs.Replaying.{Follows}
use Rattle.sip_transcript.proofs.AgreedAudits.{could_be_judged}
use Rattle.sip_transcript.proofs.Respelled.{AreBoth, bytes_in}
use Rattle.sip_transcript.proofs.RespelledVerdicts.{inquiry_as, runs_alike}
use Rattle.sip_transcript.proofs.RunVerdicts.{IsJudgedRun, judged_run}

-- ---- what the stream alone says

-- the status where the stream is not legal, or a query too wide
abbrev pub stop_of : Option Why → ℕ → Option ℕ → Option Status
stop_of (Some why) at wide = Some (statuses.BadStream at why)
stop_of None at (Some query) = Some (statuses.TooWide query)
stop_of None at None = None

abbrev pub stop_for : Inquiry → List ℕ → Option Status
stop_for i stream = stop_of (records i.depth i.form stream).fault (length (records i.depth i.form stream).legal) (first_wide (records i.depth i.form stream).legal i.queries)

no_stop : (fault : Option Why) (at : ℕ) (wide : Option ℕ) → fault ≡ None → wide ≡ None → stop_of fault at wide ≡ None
no_stop fault at wide e f = ap (λ x. stop_of x at wide) e ∙ ap (λ x. stop_of None at x) f

bad_stop : (fault : Option Why) (at place : ℕ) (wide : Option ℕ) (why : Why) → fault ≡ Some why → place ≡ at → stop_of fault at wide ≡ Some (statuses.BadStream place why)
bad_stop fault at place wide why e f = ap (λ x. stop_of x at wide) e ∙ ap (λ x. Some (statuses.BadStream x why)) (sym f)

wide_stop : (fault : Option Why) (at : ℕ) (wide : Option ℕ) (query : ℕ) → fault ≡ None → wide ≡ Some query → stop_of fault at wide ≡ Some (statuses.TooWide query)
wide_stop fault at wide query e f = ap (λ x. stop_of x at wide) e ∙ ap (λ x. stop_of None at x) f

-- ---- a verdict

-- The replies came to a verdict. It is the status where none of their bytes are left; else the status says that some are.
pub record Decides (i : Inquiry) (behind stream report : List ℕ) (given : Status) : Type 0 where
  pub verdict : Status
  pub talk : List TalkEvent
  pub more : List ℕ
  pub follows : Follows behind talk more
  pub judged : IsJudgedRun i stream talk report verdict
  pub all : more ≡ [] → given ≡ verdict
  pub some : more ≢ [] → but_place given ≡ statuses.BadTranscript 0

-- an audit of these reply bytes and this stream ends so
abbrev pub Comes : Inquiry → List ℕ → List ℕ → List ℕ → Status → Type 0
Comes i behind stream report given = ((stop_for i stream ≡ Some given) × (report ≡ []))
    ⊎ ((stop_for i stream ≡ None) × Decides i behind stream report given)

module _ (form : Form) (a : Audit) (before now : Counts) where
  -- it did not stop freely, and its transcript has a head
  abbrev pub ComesSo : Status → Type 0
  ComesSo given = (p : Replay form a) × Comes (inquiry_in form p.asked) p.behind a.stream a.report given

  module _ (p : Replay form a) (verdict : Status) (is : IsTrue (is_verdict verdict)) (ends : EndsSo form a before now verdict p) where
    decides : (given : Status) → (p.more ≡ [] → given ≡ verdict) → (p.more ≢ [] → but_place given ≡ statuses.BadTranscript 0) → ComesSo given
    decides given all some =
        let could = could_be_judged (inquiry_in form p.asked) (exchange_of form a p) _ _ verdict is ends.cause in (
          p,
          inr (
            no_stop _ _ _ could.0.1 could.1,
            record {
              verdict = verdict;
              talk = p.talk;
              more = p.more;
              follows = p.follows;
              judged = judged_run (inquiry_in form p.asked) (exchange_of form a p) verdict is ends.verdict;
              all = all;
              some = some;
            },
          ),
        )

  pub audit_comes : (given : Status) → Audits form a before now given → IsTrue (stops_freely given) ⊎ ((at : ℕ) × (head_fault a.stored ≡ Some at)) ⊎ ComesSo given
  audit_comes statuses.Accepted (p, ends, more, left, unread) = inr (inr (decides p statuses.Accepted refl ends statuses.Accepted (λ e. refl) (λ other. absurd (other more))))
  audit_comes (statuses.Rejected query round reason) (p, ends, more, left, unread) =
      let verdict = statuses.Rejected query round reason in inr (inr (decides p verdict refl ends verdict (λ e. refl) (λ other. absurd (other more))))
  audit_comes (statuses.BadTranscript at) (inl head) = inr (inl (at, head.0))
  audit_comes (statuses.BadTranscript at) (inr more) = inr (inr (decides more.replay more.verdict more.reached more.ends (statuses.BadTranscript at) (λ e. absurd (more.some e)) (λ other. refl)))
  audit_comes (statuses.BadStream at why) (p, ends) =
      let cause = ends.cause in inr (inr (p, inl (bad_stop _ _ at _ why cause.2 cause.1, ends.verdict)))
  audit_comes (statuses.TooWide query) (p, ends) =
      let cause = ends.cause in inr (inr (p, inl (wide_stop _ _ _ query cause.0.1 cause.1, ends.verdict)))
  audit_comes (statuses.ReadFault ports.First) audits = inl refl
  audit_comes (statuses.ReadFault ports.Second) audits = inl refl
  audit_comes (statuses.ReadFault _) audits = absurd audits
  audit_comes (statuses.WriteFault ports.Report) audits = inl refl
  audit_comes (statuses.WriteFault _) audits = absurd audits
  audit_comes statuses.OutOfMemory audits = inl refl
  audit_comes _ audits = absurd audits

-- ---- two audits, over the same messages in two versions

some_status : (s t : Status) → ◌≡◌ {A = Option Status} (Some s) (Some t) → s ≡ t
some_status s t e = cc

nil_or : (l : List ℕ) → (l ≡ []) ⊎ (l ≢ [])
nil_or [] = inl refl
nil_or (x ∷ l) = inr (λ e. cc)

module _ (i : Inquiry) (w : Version) (stream : List ℕ) (ms : List Message) (are : AreBoth i.version w ms) (report lines : List ℕ) (given other : Status) where
  decide_alike : Decides i (bytes_in i.version ms) stream report given → Decides (inquiry_as w i) (bytes_in w ms) stream lines other → (but_place other ≡ but_place given) × (lines ≡ report)
  decide_alike x y =
      let both = runs_alike i w stream ms x.talk y.talk x.more y.more report lines x.verdict y.verdict are x.judged y.judged x.follows y.follows in
      let same : but_place other ≡ but_place given = elim (nil_or x.more) [
        | inl none ↦ ap but_place (y.all (both.0.there none) ∙ both.1 ∙ sym (x.all none))
        | inr some ↦ y.some (λ e. some (both.0.back e)) ∙ sym (x.some some)
      ] in
      (same, both.2)

  pub ends_alike : Comes i (bytes_in i.version ms) stream report given → Comes (inquiry_as w i) (bytes_in w ms) stream lines other → (but_place other ≡ but_place given) × (lines ≡ report)
  ends_alike (inl x) (inl y) = (ap but_place (some_status other given (sym y.0 ∙ x.0)), y.1 ∙ sym x.1)
  ends_alike (inl x) (inr y) = absurd (let both : ◌≡◌ {A = Option Status} (Some given) None = sym x.0 ∙ y.0 in cc)
  ends_alike (inr x) (inl y) = absurd (let both : ◌≡◌ {A = Option Status} (Some other) None = sym y.0 ∙ x.0 in cc)
  ends_alike (inr x) (inr y) = decide_alike x.1 y.1
