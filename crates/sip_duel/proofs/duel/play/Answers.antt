use Rattle.std.proofs.Common.{arith, refl, subst, sym}
use Rattle.sip_duel.specs.Story.{IsHonestTalk}
use Rattle.sip_duel.proofs.AcceptLemmas.{played}
use Rattle.sip_duel.proofs.CauseLemmas.{no_peer_fault}
use Rattle.sip_duel.proofs.KeepsLemmas.{kept_is_honest}
use Rattle.sip_duel.proofs.duel.play.Goals as goal

pub returns-clause-honest : goal.returns-clause-honest
returns-clause-honest g c = λ p. subst (λ t. IsHonestTalk t.items) (sym c.close_and_drop.ensures.talk) (kept_is_honest _ c.check_stream-status.new.peer.kept (c.check_stream-status.ensures.peer.sure p))

pub returns-clause-keeps : goal.returns-clause-keeps
returns-clause-keeps g c = rw c.close_and_drop.ensures.talk c.check_stream-status.ensures.keeps

pub returns-clause-peer : goal.returns-clause-peer
returns-clause-peer g c = λ e. no_peer_fault _ _ _ _ c.check_stream-status.ensures.keeps refl e

pub returns-clause-accepts : goal.returns-clause-accepts
returns-clause-accepts g c = λ p none x tells.
    played c.args.task.now (omega (arith, c.get-levels.ensures.same, c.get-levels.ensures.some)) (omega (arith, c.get-levels.ensures.same, c.get-levels.ensures.most)) (omega (arith, c.len-asked.ensures.value, c.len-asked.ensures.fits)) c.requires
    _ _ _ c.args.link.now.kept.talk.items c.close_and_drop.new.self.kept.talk.items (rw c.close_and_drop.ensures.talk c.check_stream-status.ensures.keeps) refl refl
    (subst (λ t. IsHonestTalk t.items) (sym c.close_and_drop.ensures.talk) (kept_is_honest _ c.check_stream-status.new.peer.kept (c.check_stream-status.ensures.peer.sure p))) none x tells

pub returns-clause-wants : goal.returns-clause-wants
returns-clause-wants g c = rw c.close_and_drop.ensures.wants c.check_stream-status.ensures.peer.wants_later
