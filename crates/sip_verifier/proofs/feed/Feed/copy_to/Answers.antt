-- The updates that wait are a frame.
use Rattle.std.proofs.Common.{length, take, ap, arith}
use Rattle.std.proofs.lemmas.List.{length-take}
use Rattle.sip_verifier.specs.Feeding.{Waiting}
use Rattle.sip_verifier.proofs.FramesFit.{frame_fits}
use Rattle.sip_verifier.proofs.feed.Feed.copy_to.Goals as goal

pub encode_updates-requires-clause-fits : goal.encode_updates-requires-clause-fits
encode_updates-requires-clause-fits g c =
    let count = c.self.inside.count in
    let rows = c.self.inside.rows in
    let same = ap (λ (w : Waiting). length w.waiting) c.self.view_is in
    let len = length-take count rows in
    frame_fits c.self.inside.version (take count rows) (omega (arith, same, c.requires.some)) (omega (arith, len, c.self.invariant.0)) c.self.invariant.1
