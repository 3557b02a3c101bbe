-- What stops the writing is one of its statuses.
use Rattle.sip_transcript.specs.Writing.{is_whole, stops_writing}
use Rattle.sip_transcript.proofs.Tests.{or_second}
use Rattle.sip_transcript.proofs.showing.render.Goals as goal

pub returns-clause-ports : goal.returns-clause-ports
returns-clause-ports g c =
    let ports = c.in-Err.ensures.ports in
    record {
      told = ports.told;
      fault = λ first firsts peer peers keep keeps. (ports.fault first firsts peer peers keep keeps).1;
      source = ports.source;
      sink = ports.sink;
    }

pub returns-clause-listed : goal.returns-clause-listed
returns-clause-listed g c = or_second (is_whole c.in-Err.status) (stops_writing c.in-Err.status) (c.in-Err.ensures.ports.fault 0 0 0 0 0 0).0
