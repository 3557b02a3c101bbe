-- An audit over what a run left comes to the run's own verdict.
use Rattle.std.proofs.Common.{◌≡◌, ℕ, Option, Some, None, List, [], length, inl, inr, refl, sym, ap, subst, ◌∙◌}
use Rattle.std.specs.Prelude.{IsTrue, IfSome, map}
use Rattle.std.specs.List.{flat_map}
use Rattle.sip_ports.specs.Ports.{heard}
use Rattle.sip_stream.specs.Records.{records}
use Rattle.sip_stream.specs.declared.form.Form.{Form}
use Rattle.sip_vector.specs.declared.query.Query.{Query}
use Rattle.sip_wire.specs.declared.version.Version.{Version}
use Rattle.sip_verifier.specs.declared.status.Port.TheVariants as ports
use Rattle.sip_verifier.specs.declared.status.Status.{Status}
use Rattle.sip_verifier.specs.declared.status.Status.TheVariants as statuses
use Rattle.sip_verifier.specs.declared.task.Task.{Task}
use Rattle.sip_verifier.specs.CauseClause.{CanBeJudged, CauseClause}
use Rattle.sip_verifier.specs.Exchanges.{Exchange}
use Rattle.sip_verifier.specs.Inquiries.{Inquiry, inquiry_of}
use Rattle.sip_verifier.specs.KeepClause.{IsTranscript, Keeps}
use Rattle.sip_verifier.specs.Snapshots.{Counts}
use Rattle.sip_verifier.specs.Tasks.{version_of}
use Rattle.sip_verifier.specs.Transcripts.{asks_of}
use Rattle.sip_verifier.specs.Widths.{first_wide}
use Rattle.sip_transcript.specs.Agreements.{AuditAgrees, IsStored}
use Rattle.sip_transcript.specs.Auditing.{Audit, Audits, EndsSo, Replay, exchange_of, inquiry_in, is_verdict}
use Rattle.sip_transcript.specs.Fields.{head_fault}
use Rattle.sip_transcript.specs.Heads.{Ask, IsRun}
use Rattle.sip_transcript.proofs.Growing.{run-has_no_fault}
use Rattle.sip_transcript.proofs.RunHeads.{asks_challenges, asks_queries, run_of}
use Rattle.sip_transcript.proofs.RunVerdicts.{IsJudgedRun, judged_run, judged_same}
use Rattle.sip_transcript.proofs.Telling.{one_head}
use Rattle.sip_transcript.proofs.Tests.{count-test, depth-test}

-- ---- what a verdict says

kept_whole : (task : Task) (x : Exchange) (bytes : List ℕ) (status : Status) → IsTrue (is_verdict status) → Keeps task x status bytes → IsTranscript task x bytes
kept_whole task x bytes statuses.Accepted is keeps = keeps
kept_whole task x bytes (statuses.Rejected query round reason) is keeps = keeps
kept_whole task x bytes _ is keeps = absurd cc

pub could_be_judged : (i : Inquiry) (x : Exchange) (before now : Counts) (status : Status) → IsTrue (is_verdict status) → CauseClause i x before now status → CanBeJudged i x
could_be_judged i x before now statuses.Accepted is cause = cause
could_be_judged i x before now (statuses.Rejected query round reason) is cause = cause
could_be_judged i x before now _ is cause = absurd cc

-- ---- the inquiry that the head tells of

fields_same : (form : Form) (v w : Version) (d e : ℕ) (q r : List Query) (b c : Option (List ℕ)) → v ≡ w → d ≡ e → q ≡ r → b ≡ c
    → ◌≡◌ {A = Inquiry} (record { version = v; depth = d; form = form; queries = q; challenges = b }) (record { version = w; depth = e; form = form; queries = r; challenges = c })
fields_same form v w d e q r b c first second third fourth = cc

module _ (task : Task) (x : Exchange) (before now : Counts) (status : Status) (a : Audit) (s : IsStored task x before now status a) where
  whole : IsTranscript task x a.stored
  whole = kept_whole task x a.stored status s.reached (subst (λ (k : Option (List ℕ)). IfSome k (Keeps task x status)) s.kept s.promises.kept)

  is_run : IsRun (version_of task) task.depth (asks_of task whole.challenges)
  is_run = run_of task x.seed whole.challenges s.deep s.can whole.drawn s.shallow s.most

  ran : IsJudgedRun (inquiry_of task x) x.stream x.talk x.report status
  ran = judged_run (inquiry_of task x) x status s.reached s.promises.verdict

  could : CanBeJudged (inquiry_of task x) x
  could = could_be_judged (inquiry_of task x) x before now status s.reached s.promises.cause

  head_whole : (at : ℕ) → head_fault a.stored ≡ Some at → ⊥
  head_whole at is =
      let asks = asks_of task whole.challenges in
      let run = is_run in
      let none = ap head_fault whole.all ∙ run-has_no_fault (version_of task) task.depth asks (heard x.talk)
      (depth-test (version_of task) task.depth run.deep run.shallow) (count-test (length asks) run.some run.most) run.each in
      let both : None ≡ Some at = sym none ∙ is in cc

  module _ (p : Replay task.form a) where
    heads : (p.asked.version ≡ version_of task) × (p.asked.depth ≡ task.depth) × (p.asked.asks ≡ asks_of task whole.challenges) × (p.behind ≡ heard x.talk)
    heads =
        let run = is_run in
        let other = p.is_run in
        one_head (version_of task) p.asked.version task.depth p.asked.depth (asks_of task whole.challenges) p.asked.asks (heard x.talk) p.behind run.each other.each (sym whole.all ∙ p.stored)

    same_inquiry : inquiry_in task.form p.asked ≡ inquiry_of task x
    same_inquiry =
        fields_same task.form p.asked.version (version_of task) p.asked.depth task.depth (map (λ (ask : Ask). ask.0) p.asked.asks) task.queries.items
        (Some (flat_map (λ (ask : Ask). ask.1) p.asked.asks)) (inquiry_of task x).challenges heads.0 heads.1
        (ap (map (λ (ask : Ask). ask.0)) heads.2 ∙ asks_queries task x.seed whole.challenges s.deep s.can whole.drawn)
        (ap (λ (asks : List Ask). Some (flat_map (λ (ask : Ask). ask.1) asks)) heads.2 ∙ ap (λ (c : List ℕ). Some c) (asks_challenges task x.seed whole.challenges s.deep s.can whole.drawn) ∙ sym whole.drawn)

    -- what holds of the inquiry and the stream of the audit holds of the run's
    moved : (P : Inquiry → List ℕ → Type 0) → P (inquiry_in task.form p.asked) a.stream → P (inquiry_of task x) x.stream
    moved P holds = subst (λ (bytes : List ℕ). P (inquiry_of task x) bytes) s.stream (subst (λ (i : Inquiry). P i a.stream) same_inquiry holds)

    module _ (earlier later : Counts) (given : Status) (ends : EndsSo task.form a earlier later given p) where
      verdict_same : IsTrue (is_verdict given) → (p.more ≡ []) × (given ≡ status) × (a.report ≡ x.report)
      verdict_same is =
          let judged = judged_run (inquiry_in task.form p.asked) (exchange_of task.form a p) given is ends.verdict in
          let own = moved (λ i bytes. IsJudgedRun i bytes p.talk a.report given) judged in
          judged_same (inquiry_of task x) x.stream p.more x.talk p.talk x.report a.report status given ran own
          (sym heads.3 ∙ p.follows.came) (own.closes p.behind p.more p.follows)

  module _ (earlier later : Counts) where
    pub audit_agrees : (given : Status) → Audits task.form a earlier later given → AuditAgrees x a status given
    audit_agrees statuses.Accepted (p, ends, more, left, unread) = let same = verdict_same p earlier later statuses.Accepted ends refl in inl (same.1, same.2)
    audit_agrees (statuses.Rejected query round reason) (p, ends, more, left, unread) = let same = verdict_same p earlier later (statuses.Rejected query round reason) ends refl in inl (same.1, same.2)
    audit_agrees (statuses.BadTranscript at) (inl head) = absurd (head_whole at head.0)
    audit_agrees (statuses.BadTranscript at) (inr more) = absurd (let same = verdict_same more.replay earlier later more.verdict more.ends more.reached in more.some same.0)
    audit_agrees (statuses.BadStream at why) (p, ends) = absurd (
        let cause = ends.cause in
        let fault = moved p (λ i bytes. (records i.depth i.form bytes).fault ≡ Some why) cause.2 in
        let legal = could.0.1 in let both : None ≡ Some why = sym legal ∙ fault in cc)
    audit_agrees (statuses.TooWide query) (p, ends) = absurd (
        let cause = ends.cause in
        let wide = moved p (λ i bytes. first_wide (records i.depth i.form bytes).legal i.queries ≡ Some query) cause.1 in
        let narrow = could.1 in let both : None ≡ Some query = sym narrow ∙ wide in cc)
    audit_agrees (statuses.ReadFault ports.First) audits = inr refl
    audit_agrees (statuses.ReadFault ports.Second) audits = inr refl
    audit_agrees (statuses.ReadFault _) audits = absurd audits
    audit_agrees (statuses.WriteFault ports.Report) audits = inr refl
    audit_agrees (statuses.WriteFault _) audits = absurd audits
    audit_agrees statuses.OutOfMemory audits = inr refl
    audit_agrees _ audits = absurd audits
