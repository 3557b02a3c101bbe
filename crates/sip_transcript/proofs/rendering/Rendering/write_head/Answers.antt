-- One more query with its challenges, or a part of it.
use Rattle.std.proofs.Common.{◌+◌, ◌++◌, List, ℕ, length, take, subst, arith, rules}
use Rattle.std.specs.Prelude.{slice_index_or}
use Rattle.sip_ports.specs.Ports.{GoesOn, outs}
use Rattle.sip_vector.specs.declared.query.Query.TheVariants as queries
use Rattle.sip_verifier.proofs.Lines.{at_err, front_sent, sent_more}
use Rattle.sip_transcript.specs.Heads.{Ask}
use Rattle.sip_transcript.specs.Listings.{numbered}
use Rattle.sip_transcript.specs.Renderings.{ask_text, front_text, head_text}
use Rattle.sip_transcript.proofs.Asks.{ask-due, ask-wide, asks-long, asks-more, asks-split}
use Rattle.sip_transcript.proofs.rendering.Rendering.write_head.Goals as goal

pub write_ask-requires-clause-fits : goal.write_ask-requires-clause-fits
write_ask-requires-clause-fits g c =
    let (asks, says) = c.requires in
    let i = c.loop-query.query-index in
    let ask : Ask = (slice_index_or c.as_slice-query-items.result.now i (queries.Sub 0 0), c.block-block.result.now) in
    let due = ask-due c.args.head.now asks i _ c.as_slice-query-items.result.now (queries.Sub 0 0) ask.1 says c.as_slice-query-items.ensures.value c.loop-query-test.true c.loop-query.invariant.number c.block-block.ensures in
    (ask-wide c.args.head.now asks i ask.0 ask.1 says due.0 due.1).0

pub write_ask-requires-clause-few : goal.write_ask-requires-clause-few
write_ask-requires-clause-few g c =
    let (asks, says) = c.requires in
    let i = c.loop-query.query-index in
    let ask : Ask = (slice_index_or c.as_slice-query-items.result.now i (queries.Sub 0 0), c.block-block.result.now) in
    let due = ask-due c.args.head.now asks i _ c.as_slice-query-items.result.now (queries.Sub 0 0) ask.1 says c.as_slice-query-items.ensures.value c.loop-query-test.true c.loop-query.invariant.number c.block-block.ensures in
    (ask-wide c.args.head.now asks i ask.0 ask.1 says due.0 due.1).1

pub returns-in_err-write_ask-clause-talk : goal.returns-in_err-write_ask-clause-talk
returns-in_err-write_ask-clause-talk g c = λ asks says.
    let i = c.loop-query.query-index in
    let ask : Ask = (slice_index_or c.as_slice-query-items.result.now i (queries.Sub 0 0), c.block-block.result.now) in
    let due = ask-due c.args.head.now asks i _ c.as_slice-query-items.result.now (queries.Sub 0 0) ask.1 says c.as_slice-query-items.ensures.value c.loop-query-test.true c.loop-query.invariant.number c.block-block.ensures in
    let front = front_text c.args.self c.args.head.now.depth (length asks) in
    let sent = front ++ numbered (ask_text c.args.self) 1 (take i asks) in
    let (n, fewer, part) = rw c.loop-query.invariant.number at c.in_err-write_ask.ensures.talk in
    let (rest, split) = asks-split front (ask_text c.args.self) asks i ask (omega (arith, due.0, asks-long c.args.head.now asks says)) due.1 in
    at_err _ c.from_residual-in_err-write_ask.result c.from_residual-in_err-write_ask.ensures.0
    (front_sent _ _ _ sent (ask_text c.args.self (i + 1) ask) rest (head_text c.args.self c.args.head.now.depth asks) n (c.loop-query.invariant.talk asks says) fewer part split)

pub loop-query-preserved : goal.loop-query-preserved
loop-query-preserved g c = record {
  number = search rules;
  talk = λ asks says.
      let i = c.loop-query.query-index in
      let ask : Ask = (slice_index_or c.as_slice-query-items.result.now i (queries.Sub 0 0), c.block-block.result.now) in
      let due = ask-due c.args.head.now asks i _ c.as_slice-query-items.result.now (queries.Sub 0 0) ask.1 says c.as_slice-query-items.ensures.value c.loop-query-test.true c.loop-query.invariant.number c.block-block.ensures in
      let front = front_text c.args.self c.args.head.now.depth (length asks) in
      let sent = front ++ numbered (ask_text c.args.self) 1 (take i asks) in
      let wrote = rw c.loop-query.invariant.number at c.in_ok-write_ask.ensures.talk in
      subst (λ (l : List ℕ). GoesOn (g.K.Sink.talk c.args.sink.now) (g.K.Sink.talk c.write_ask.new.sink) (outs l)) (asks-more front (ask_text c.args.self) asks i ask (omega (arith, due.0, asks-long c.args.head.now asks says)) due.1)
      (sent_more _ _ _ sent (ask_text c.args.self (i + 1) ask) (c.loop-query.invariant.talk asks says) wrote);
  lasts = search rules;
}
