-- A frame that is longer than any of a query, one that asks none, and one that does.
use Rattle.std.proofs.Common.{rules}
use Rattle.sip_transcript.proofs.Framing.{query-long, query-none, query-taken}
use Rattle.sip_transcript.proofs.fields.read_query.Goals as goal

pub returns-then-not-fits-clause-reads : goal.returns-then-not-fits-clause-reads
returns-then-not-fits-clause-reads g c =
    let has = rw (c.if-not-fits.true) at c.in_ok-fits.ensures.has in
    (has.0, λ bytes told. query-long c.args.version c.args.depth bytes (has.1 bytes told))

pub returns-in-Some-clause-reads : goal.returns-in-Some-clause-reads
returns-in-Some-clause-reads g c =
    let has = rw c.if-not-fits.false at c.in_ok-fits.ensures.has in
    let asks = rw c.in-Some.is at c.query_in-question.ensures in
    query-taken c.args.version c.args.depth _ _ _ c.take_frame.new.frame.items c.in-Some.query has (search rules) (search rules)

pub returns-in-None-clause-reads : goal.returns-in-None-clause-reads
returns-in-None-clause-reads g c =
    let has = rw c.if-not-fits.false at c.in_ok-fits.ensures.has in
    let asks = rw c.in-None.is at c.query_in-question.ensures in
    query-none c.args.version c.args.depth _ _ c.take_frame.new.frame.items has (search rules) (search rules)
