-- What is said of the questions that are left, from here on, is said of all of them from the start.
use Rattle.std.proofs.Common.{◌≡◌, ℕ, ◌+◌, Result, Option, List, drop, length}
use Rattle.sip_ports.specs.Ports.{Lasts}
use Rattle.sip_ports.specs.declared.port.TalkEvent.{TalkEvent}
use Rattle.sip_vector.specs.declared.update.Update.{Update}
use Rattle.sip_questions.specs.Questions.{asking}
use Rattle.sip_questions.specs.Sittings.{StandsOn, remaining_of}
use Rattle.sip_ask.specs.Asking.{AsksAll, StoresFirst}
use Rattle.sip_ask.specs.Turns.{block_at}
use Rattle.sip_ask.specs.declared.status.AskStatus.{AskStatus}
use Rattle.sip_ask.specs.inside.Steps.{IsLive, asks_at}
use Rattle.sip_ask.proofs.asking.Asking.ask_all.Given as goal

abbrev pub invariant-loop-index : goal.invariant-loop-index
invariant-loop-index g l = record {
  version : l.self.asker.version ≡ l.fn.self.asker.version;
  depth : l.self.asker.depth ≡ l.fn.self.asker.depth;
  left : (remaining_of l.self.asker).left ≡ asks_at l.fn.self.sketch (drop l.index l.questions) (drop l.index l.places);
  live : IsLive l.self;
  count : length l.self.sketch.seats ≡ length l.fn.self.sketch.seats;
  blocks : (k : ℕ) → block_at k l.self.sketch.seats ≡ block_at k l.fn.self.sketch.seats;
  stands : (stream : List Update) → StandsOn stream l.fn.self.asker → StandsOn stream l.self.asker;
  asks : (stream : List Update) → StandsOn stream l.fn.self.asker → (new full : Option (List TalkEvent)) (result : Result (Unit {0}) AskStatus)
      → AsksAll l.fn.self.asker.version (asking l.fn.self.asker.version l.fn.self.sketch.depth stream) l.self.sketch (l.index + 1) (drop l.index l.questions) (drop l.index l.places)
      (g.D.Sink.talk l.desk) new (g.K.Sink.talk l.report) full result
      → AsksAll l.fn.self.asker.version (asking l.fn.self.asker.version l.fn.self.sketch.depth stream) l.fn.self.sketch 1 l.questions l.places
      (g.D.Sink.talk l.fn.desk) new (g.K.Sink.talk l.fn.report) full result;
  stores : (new : Option (List TalkEvent)) → StoresFirst l.fn.self.asker.version l.self.sketch (drop l.index l.places) (g.D.Sink.talk l.desk) new
      → StoresFirst l.fn.self.asker.version l.fn.self.sketch l.places (g.D.Sink.talk l.fn.desk) new;
  desk : Lasts g.D.Sink.faults g.D.Sink.wants g.D.Sink.is_sure l.fn.desk l.desk;
  report : Lasts g.K.Sink.faults g.K.Sink.wants g.K.Sink.is_sure l.fn.report l.report;
}
