-- What is written of the front, and of the queries so far.
use Rattle.std.proofs.Common.{◌≡◌, List, ◌++◌, length, take}
use Rattle.sip_ports.specs.Ports.{GoesOn, Lasts, outs}
use Rattle.sip_transcript.specs.Heads.{Ask, Says}
use Rattle.sip_transcript.specs.Listings.{numbered}
use Rattle.sip_transcript.specs.Renderings.{ask_text, front_text}
use Rattle.sip_transcript.proofs.rendering.Rendering.write_head.Given as goal

abbrev pub invariant-loop-query : goal.invariant-loop-query
invariant-loop-query g l = record {
  number : l.number ≡ l.query-index;
  talk : (asks : List Ask) → Says l.head asks → GoesOn (g.K.Sink.talk l.fn.sink) (g.K.Sink.talk l.sink)
      (outs (front_text l.self l.head.depth (length asks) ++ numbered (ask_text l.self) 1 (take l.query-index asks)));
  lasts : Lasts g.K.Sink.faults g.K.Sink.wants g.K.Sink.is_sure l.fn.sink l.sink;
}
