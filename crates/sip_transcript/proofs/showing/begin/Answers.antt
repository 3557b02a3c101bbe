-- The head was passed, or not read, or not written.
use Rattle.sip_transcript.proofs.Onward.{begun-writing, head-cut, head-stops}
use Rattle.sip_transcript.proofs.showing.begin.Goals as goal

pub returns-in-Err-clause-begins : goal.returns-in-Err-clause-begins
returns-in-Err-clause-begins g c = λ bytes told.
    rw c.status_of_head.ensures
    (head-stops c.args.to bytes (g.B.Source.left c.args.second.now) (g.B.Source.left c.head.new.source) (g.K.Sink.talk c.args.report.now) c.in-Err.fault told c.in-Err.ensures.reads)

pub returns-in-Ok-write_head-clause-begins : goal.returns-in-Ok-write_head-clause-begins
returns-in-Ok-write_head-clause-begins g c = λ bytes told.
    let (asks, says, taken) = c.in-Ok.ensures.reads in
    begun-writing c.args.to bytes (g.B.Source.left c.args.second.now) (g.B.Source.left c.head.new.source) (g.K.Sink.talk c.args.report.now) (g.K.Sink.talk c.write_head.new.sink) c.in-Ok.head asks told says taken
    (c.in-Ok-write_head.ensures.talk asks says)

pub returns-in-Err-write_head-clause-begins : goal.returns-in-Err-write_head-clause-begins
returns-in-Err-write_head-clause-begins g c = λ bytes told.
    let (asks, says, taken) = c.in-Ok.ensures.reads in
    let (k, fewer, wrote) = c.in-Err-write_head.ensures.talk asks says in
    rw c.status_of_sink.ensures
    (head-cut c.args.to bytes (g.B.Source.left c.args.second.now) (g.B.Source.left c.head.new.source) (g.K.Sink.talk c.args.report.now) (g.K.Sink.talk c.write_head.new.sink) c.in-Ok.head asks c.in-Err-write_head.stop told says taken k fewer wrote)
