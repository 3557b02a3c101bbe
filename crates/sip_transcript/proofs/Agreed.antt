-- Two runs of one inquiry that were accepted, where one heard what the other did, or more.
use Rattle.std.proofs.Common.{◌≡◌, ℕ, List, [], ◌++◌, subst}
use Rattle.sip_ports.specs.Ports.{heard}
use Rattle.sip_stream.specs.Records.{records}
use Rattle.sip_verifier.specs.declared.status.Status.TheVariants as statuses
use Rattle.sip_verifier.specs.Exchanges.{Exchange}
use Rattle.sip_verifier.specs.Inquiries.{Inquiry}
use Rattle.sip_verifier.specs.VerdictClause.{AllWritten}
use Rattle.sip_transcript.proofs.RunVerdicts.{IsJudgedRun, accepted_closes, accepted_run, judged_same}
use Rattle.sip_transcript.proofs.SameVerdicts.{AllClose}

pub runs_agree : (i : Inquiry) (x y : Exchange) (more : List ℕ) → y.stream ≡ x.stream → heard x.talk ≡ heard y.talk ++ more → AllWritten i x → AllWritten i y → (more ≡ []) × (y.report ≡ x.report)
runs_agree i x y more same e w v =
    let own = subst (λ (s : List ℕ). (r : IsJudgedRun i s y.talk y.report statuses.Accepted) × AllClose i.version i.depth (records i.depth i.form s).legal r.judged more) same (accepted_run i y v, accepted_closes i y v more) in
    let both = judged_same i x.stream more x.talk y.talk x.report y.report statuses.Accepted statuses.Accepted (accepted_run i x w) own.0 e own.1 in
    (both.0, both.2)
