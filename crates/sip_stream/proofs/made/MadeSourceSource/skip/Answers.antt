-- The bytes that are dropped are of the records that were made.
use Rattle.std.proofs.Common.{◌++◌, take, drop, sym, ap, ◌∙◌}
use Rattle.sip_stream.specs.Made.{made_bytes}
use Rattle.sip_stream.proofs.Filling.{dropped_more}
use Rattle.sip_stream.proofs.made.MadeSourceSource.skip.Goals as goal

pub returns : goal.returns
returns c =
    let source = c.args.self.now in
    record {
      bytes = dropped_more source.at c.args.count (take source.end source.block) (made_bytes source.state source.more source.depth)
          ∙ ap (λ left. take c.args.count (drop source.at (take source.end source.block)) ++ left) (sym c.go_on.ensures.same);
    }
