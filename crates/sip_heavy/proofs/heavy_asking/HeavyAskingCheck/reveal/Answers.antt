use Rattle.std.proofs.Common.{◌≡◌, ◌∙◌, sym, subst}
use Rattle.sip_replies.specs.Protocols.{Reveals}
use Rattle.sip_heavy.specs.Asking.{HeavyStands, phase_of}
use Rattle.sip_heavy.specs.Checking.{Kept}
use Rattle.sip_heavy.proofs.AskingSteps.{stands_revealed}
use Rattle.sip_heavy.proofs.heavy_asking.HeavyAskingCheck.reveal.Goals as goal

pub returns-clause-learns : goal.returns-clause-learns
returns-clause-learns c asked s places stands =
    let check : Kept = c.self.inside.check in
    let same : check ≡ c.args.self.now = c.self.view_is in
    let held = subst (λ k. HeavyStands asked s k places) (sym same) stands in
    let phase = subst (λ k. Reveals (phase_of k)) (sym same) c.requires.phase in
    stands_revealed asked s check c.reveal.new.self places c.number.result held phase c.reveal.ensures.revealed (c.number.ensures ∙ c.reveal.ensures.challenge)
    (c.reveal.ensures.taken asked.query asked.root check.challenges held.given held.taken)
