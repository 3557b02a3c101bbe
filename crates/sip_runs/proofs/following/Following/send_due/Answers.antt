-- The depth is one that an opening may have.
use Rattle.std.proofs.Common.{◌≤◌, ℕ, sym, subst, arith}
use Rattle.sip_wire.specs.Versions.{deepest}
use Rattle.sip_wire.specs.declared.version.Version.{Version}
use Rattle.sip_verifier.proofs.FramesFit.{open_fits}
use Rattle.sip_runs.proofs.following.Following.send_due.Goals as goal

pub encode-requires : goal.encode-requires
encode-requires g c =
    let (p, stream, events, is) = c.requires.begun in
    let shallow : c.args.self.now.measure.depth ≤ deepest c.args.self.now.version =
    subst (λ (v : Version). c.args.self.now.measure.depth ≤ deepest v) (sym is.version) (subst (λ (d : ℕ). d ≤ deepest p.version) (sym is.depth) is.shallow) in
    rw c.number.ensures (open_fits c.args.self.now.version c.get.result (omega (arith, c.get.ensures.some)) (omega (arith, shallow, c.get.ensures.same, c.depth.ensures)))
