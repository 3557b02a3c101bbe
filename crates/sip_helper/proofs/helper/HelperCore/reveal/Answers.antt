use Rattle.std.proofs.Common.{subst, sym}
use Rattle.sip_helper.specs.inside.Answering.{CanReply}
use Rattle.sip_helper.proofs.Hearing.{kept_with}
use Rattle.sip_helper.proofs.helper.HelperCore.reveal.Goals as goal
use Rattle.sip_helper.proofs.helper.HelperCore.reveal.Goals.{in-Some, in-None}

pub invariant_of-self : goal.invariant_of-self
invariant_of-self c = elim c.match-self.branch [
  | in-Some w ↦
      let depth = c.depth-depth.ensures.same in
      rw w.self-inside-is (kept_with c.self.inside.version c.self.inside.heard c.self.inside.weights c.self.inside.vectors c.self.inside.queries c.self.inside.asked w.in-Some.asked w.reveal.new.self c.self.invariant w.in-Some.is
      (λ stands. subst (λ d. CanReply d c.self.inside.vectors w.reveal.new.self) depth (w.reveal.ensures.stands c.self.inside.vectors (subst (λ d. CanReply d c.self.inside.vectors w.in-Some.asked) (sym depth) stands))))
  | in-None w ↦ rw w.self-inside-is c.self.invariant
]
