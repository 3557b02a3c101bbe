-- The link's talk is what was heard of the source, and the run goes on behind a link on which nothing had happened.
use Rattle.std.proofs.Common.{List, Some, sym, subst, ◌∙◌}
use Rattle.sip_ports.specs.declared.port.TalkEvent.{TalkEvent}
use Rattle.sip_verifier.specs.Concluding.{GoesBehind}
use Rattle.sip_transcript.specs.Links.{link_talk}
use Rattle.sip_transcript.proofs.Replaying.{replays_told}
use Rattle.sip_transcript.proofs.auditing.replay.Goals as goal

pub returns-clause-replays : goal.returns-clause-replays
returns-clause-replays g c = λ bytes told.
    let talk = link_talk c.conclude_session-ended.new.peer in
    let out = replays_told g.O.Origin.first (g.T.Loan.left c.into_source.result) bytes talk (sym c.requires.first ∙ told) c.into_source.ensures.replays in
    record {
      talk = talk;
      more = out.0;
      is_left = out.1;
      follows = out.2;
      counted = c.taken-taken.ensures;
      ends = λ i x before now goes fault.
          c.conclude_session-ended.ensures.ends i x before now
          (subst (λ (t : List TalkEvent). GoesBehind i x c.args.session.now (Some t) (Some talk) (g.K.Sink.talk c.args.report.now) (g.K.Sink.talk c.conclude_session-ended.new.report)) (sym c.new-link.ensures.talk) goes) fault;
    }
