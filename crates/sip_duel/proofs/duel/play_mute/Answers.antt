use Rattle.std.proofs.Common.{arith, refl}
use Rattle.sip_duel.proofs.CauseLemmas.{no_peer_fault}
use Rattle.sip_duel.proofs.MuteLemmas.{played_mute, quiet_link}
use Rattle.sip_duel.proofs.duel.play_mute.Goals as goal

pub returns-clause-silent : goal.returns-clause-silent
returns-clause-silent g c = λ silent. quiet_link c.check_stream-status.new.peer.link.kept c.close_and_drop.new.self.link.kept c.close_and_drop.ensures.talk (c.check_stream-status.ensures.peer.sure silent).1

pub returns-clause-keeps : goal.returns-clause-keeps
returns-clause-keeps g c = rw c.close_and_drop.ensures.talk c.check_stream-status.ensures.keeps

pub returns-clause-peer : goal.returns-clause-peer
returns-clause-peer g c = λ e. no_peer_fault _ _ _ _ c.check_stream-status.ensures.keeps refl e

pub returns-clause-closes : goal.returns-clause-closes
returns-clause-closes g c = λ silent x tells.
    played_mute c.args.task.now (omega (arith, c.get-levels.ensures.same, c.get-levels.ensures.some)) _ _ _ c.close_and_drop.new.self.link.kept.talk.items (rw c.close_and_drop.ensures.talk c.check_stream-status.ensures.keeps) refl
    (quiet_link c.check_stream-status.new.peer.link.kept c.close_and_drop.new.self.link.kept c.close_and_drop.ensures.talk (c.check_stream-status.ensures.peer.sure silent).1) x tells

pub returns-clause-wants : goal.returns-clause-wants
returns-clause-wants g c = rw c.close_and_drop.ensures.wants c.check_stream-status.ensures.peer.wants_later
