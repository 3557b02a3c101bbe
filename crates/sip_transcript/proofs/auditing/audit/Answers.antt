-- The head was read, and the rest of the audit is what was done behind it; or it was not read.
use Rattle.std.specs.Prelude.{length}
use Rattle.std.proofs.Common.{◌≡◌, Err, [], le_refl, ap, sym, inr, rules, ◌∙◌}
use Rattle.sip_ports.specs.Ports.{outs}
use Rattle.sip_ports.proofs.TalkLemmas.{GoesOn-refl}
use Rattle.sip_stream.proofs.RecordsRead.{came_front}
use Rattle.sip_wire.specs.Transcript.{transcript}
use Rattle.sip_verifier.specs.Negatives.{no_negatives}
use Rattle.sip_verifier.proofs.RunTalks.{goes_to, nothing_reported, some_value}
use Rattle.sip_transcript.specs.Fields.{head_fault}
use Rattle.sip_transcript.specs.declared.fault.HeadFault.{HeadFault}
use Rattle.sip_transcript.proofs.Credits.{head_unjudged}
use Rattle.sip_transcript.proofs.Growing.{run-has_no_fault}
use Rattle.sip_transcript.proofs.Telling.{one_head}
use Rattle.sip_transcript.proofs.Tests.{count-test, depth-test}
use Rattle.sip_transcript.proofs.Audited.{head_audits, head_caused, since_earlier, transcript_from}
use Rattle.sip_transcript.proofs.auditing.audit.Goals as goal

pub returns-in-Ok-clause-keeps : goal.returns-in-Ok-clause-keeps
returns-in-Ok-clause-keeps g c = λ peer peers keep keeps.
    let (asks, says, taken) = c.in-Ok.ensures.reads in
    let head = c.in-Ok.head in
    let fault = since_earlier _ _ _ (g.B.Source.faults c.args.second.now) (g.B.Source.faults c.head.new.source) _ peer.faults peers.faults _ _ _ keep.faults keeps.faults c.check.result (le_refl _) c.head.ensures.lasts.later (le_refl _) (c.check.ensures.fault peer.faults peers.faults keep.faults keeps.faults) in
    record {
      audits = λ a t.
          let came = came_front (g.B.Source.left c.args.second.now) (g.B.Source.left c.head.new.source) a.stored (transcript head.version head.depth asks []) t.stored taken in
          c.check.ensures.audits asks a _ _ says
          (record {
            stream = t.stream;
            unread = t.unread;
            behind = came.0;
            had = came.1;
            stored = came.2 ∙ transcript_from head.version head.depth asks came.0;
            left = t.left;
            report = t.report;
          }) fault;
      moves = λ is_first is_second is_report.
          let stream = some_value (g.A.Source.left c.args.first.now) is_first in
          let unread = some_value (g.A.Source.left c.check.new.first) (c.check.ensures.told is_first) in
          let stored = some_value (g.B.Source.left c.args.second.now) is_second in
          let left = some_value (g.B.Source.left c.check.new.second) (c.check.ensures.also_told (c.head.ensures.told is_second)) in
          let wrote = c.check.ensures.wrote is_first in (
            record { stream = stream.0; unread = unread.0; stored = stored.0; left = left.0; report = wrote.0 },
            record { stream = stream.1; unread = unread.1; stored = stored.1; left = left.1; report = goes_to (g.K.Sink.talk c.args.report.now) (g.K.Sink.talk c.check.new.report) (outs wrote.0) is_report wrote.1 },
          );
      fault = fault;
      listed = c.check.ensures.listed;
    }

pub returns-in-Err-clause-keeps : goal.returns-in-Err-clause-keeps
returns-in-Err-clause-keeps g c = λ peer peers keep keeps.
    let caused = head_caused (g.A.Source.faults c.args.first.now) (g.A.Source.faults c.args.first.now) (g.B.Source.faults c.args.second.now) (g.B.Source.faults c.head.new.source) peer.faults peers.faults (g.K.Sink.faults c.args.report.now) (g.K.Sink.faults c.args.report.now) keep.faults keeps.faults c.in-Err.fault (λ same. c.in-Err.ensures.failed (ap (λ (fault : HeadFault). Err fault) same)) in
    rw c.status_of_head.ensures
    (record {
      audits = λ a t. head_audits c.args.form a _ _ c.in-Err.fault (g.B.Source.left c.args.second.now) (g.B.Source.left c.head.new.source) c.in-Err.ensures.reads t.stored (nothing_reported _ a.report t.report);
      moves = λ is_first is_second is_report.
          let stream = some_value (g.A.Source.left c.args.first.now) is_first in
          let stored = some_value (g.B.Source.left c.args.second.now) is_second in
          let left = some_value (g.B.Source.left c.head.new.source) (c.head.ensures.told is_second) in (
            record { stream = stream.0; unread = stream.0; stored = stored.0; left = left.0; report = [] },
            record { stream = stream.1; unread = stream.1; stored = stored.1; left = left.1; report = goes_to (g.K.Sink.talk c.args.report.now) (g.K.Sink.talk c.args.report.now) [] is_report (GoesOn-refl (g.K.Sink.talk c.args.report.now)) },
          );
      fault = caused.0;
      listed = caused.1;
    })

pub returns-in-Ok-clause-negatives : goal.returns-in-Ok-clause-negatives
returns-in-Ok-clause-negatives g c = λ bytes stored told had.
    let (asks, says, taken) = c.in-Ok.ensures.reads in
    let head = c.in-Ok.head in
    let run = says.is_run in
    let came = came_front (g.B.Source.left c.args.second.now) (g.B.Source.left c.head.new.source) stored (transcript head.version head.depth asks []) had taken in
    let is = came.2 ∙ transcript_from head.version head.depth asks came.0 in
    record {
      run = λ version depth others behind other same.
          let one = one_head head.version version head.depth depth asks others came.0 behind run.each other.each (sym is ∙ same) in
          rw (one.1, one.2) (c.check.ensures.negatives asks bytes says told);
      unread = λ faulty. absurd (faulty (ap head_fault is ∙ run-has_no_fault head.version head.depth asks came.0 (depth-test head.version head.depth run.deep run.shallow) (count-test (length asks) run.some run.most) run.each));
    }

pub returns-in-Err-clause-negatives : goal.returns-in-Err-clause-negatives
returns-in-Err-clause-negatives g c = λ bytes stored told had.
    let none : c.default.result ≡ no_negatives = search rules in
    rw c.status_of_head.ensures
    (record {
      run = λ version depth asks behind run same. record { judged = λ judged. absurd (head_unjudged c.in-Err.fault judged); other = inr none };
      unread = λ faulty. none;
    })
