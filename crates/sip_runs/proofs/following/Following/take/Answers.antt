-- An item of the stream has room in a frame of its version.
use Rattle.std.proofs.Common.{◌<◌, ◌^◌, ℕ, sym, ap, subst, ◌∙◌}
use Rattle.sip_wire.specs.Versions.{index_width}
use Rattle.sip_wire.specs.declared.version.Version.{Version}
use Rattle.sip_verifier.specs.Feeding.{Waiting}
use Rattle.sip_verifier.proofs.FramesFit.{item_below}
use Rattle.sip_runs.proofs.following.Following.take.Goals as goal

pub push-requires-clause-item : goal.push-requires-clause-item
push-requires-clause-item c =
    let (p, stream, events, is) = c.requires.begun in
    let item = c.args.update.now.item in
    let below : item < 2 ^ p.depth = subst (λ (d : ℕ). item < 2 ^ d) is.depth c.in_default.ensures.room.item in
    let own = ap (λ (w : Waiting). w.version) c.deref_mut.ensures.value ∙ is.in_version in
    subst (λ (v : Version). item < 256 ^ index_width v) (sym own) (item_below p.version p.depth item is.shallow below)
