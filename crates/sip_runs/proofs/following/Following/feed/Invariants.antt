-- The updates so far came.
use Rattle.std.proofs.Common.{◌++◌, List, take}
use Rattle.sip_ports.specs.declared.port.TalkEvent.{TalkEvent}
use Rattle.sip_vector.specs.declared.update.Update.{Update}
use Rattle.sip_runs.specs.Plans.{Plan}
use Rattle.sip_runs.specs.Runs.{HasBegun, IsFollowed}
use Rattle.sip_runs.proofs.following.Following.feed.Given as goal

abbrev pub invariant-loop-index : goal.invariant-loop-index
invariant-loop-index l = record {
  begun : HasBegun l.self;
  came : (p : Plan) (stream : List Update) (events : List TalkEvent) → IsFollowed p stream events l.fn.self → IsFollowed p (stream ++ take l.index l.updates) events l.self;
}
