-- The updates that wait are a frame.
use Rattle.std.proofs.Common.{rules, ◌≤◌, length, take, ap, arith}
use Rattle.std.proofs.lemmas.List.{length-take-le}
use Rattle.sip_verifier.specs.Feeding.{Waiting}
use Rattle.sip_verifier.proofs.FramesFit.{frame_fits}
use Rattle.sip_verifier.proofs.feed.Feed.send.Goals as goal

pub encode_updates-sent-requires-clause-fits : goal.encode_updates-sent-requires-clause-fits
encode_updates-sent-requires-clause-fits g c =
    let count = c.self.inside.count in
    let rows = c.self.inside.rows in
    let whole : count ≤ length rows = search rules in
    let same = ap (λ (w : Waiting). length w.waiting) c.self.view_is in
    let len = length-take-le count rows whole in
    frame_fits c.self.inside.version (take count rows) (omega (arith, same, c.requires.some)) (omega (arith, len, c.self.invariant.0)) c.self.invariant.1
