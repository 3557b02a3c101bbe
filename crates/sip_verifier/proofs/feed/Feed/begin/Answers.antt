-- The depth of a stream is one that an opening may have.
use Rattle.std.proofs.Common.{◌≡◌, ◌≤◌, ap, sym, subst, arith}
use Rattle.sip_wire.specs.declared.version.Version.{Version}
use Rattle.sip_wire.specs.Versions.{deepest}
use Rattle.sip_verifier.specs.Feeding.{Waiting}
use Rattle.sip_verifier.proofs.FramesFit.{open_fits}
use Rattle.sip_verifier.proofs.feed.Feed.begin.Goals as goal

pub encode-sent-requires : goal.encode-sent-requires
encode-sent-requires g c =
    let same : c.self.inside.version ≡ c.args.self.now.version = ap (λ (w : Waiting). w.version) c.self.view_is in
    let shallow = subst (λ (v : Version). c.args.depth ≤ deepest v) (sym same) c.requires.shallow in
    rw c.number.ensures (open_fits c.self.inside.version c.get.result (omega arith) (omega (arith, shallow, c.get.ensures.same)))
