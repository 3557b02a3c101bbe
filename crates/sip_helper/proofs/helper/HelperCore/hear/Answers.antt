-- Each kind of message is heard by a call of its own.
use Rattle.std.proofs.Common.{subst, refl}
use Rattle.std.specs.Prelude.{IsTrue}
use Rattle.std.proofs.lemmas.Bool.{both_ways}
use Rattle.sip_wire.specs.declared.message.Message.{Message}
use Rattle.sip_wire.specs.declared.version.Version.TheVariants.{Two}
use Rattle.sip_wire.specs.Spelling.{fits}
use Rattle.sip_helper.proofs.Hearing.{element_fits, others_out}
use Rattle.sip_helper.proofs.helper.HelperCore.hear.Goals as goal

pub reveal-requires : goal.reveal-requires
reveal-requires c = element_fits Two c.in-Reveal.challenge (subst (λ (m : Message). IsTrue (fits Two m)) c.in-Reveal.is c.requires.fits)

pub returns-in_default : goal.returns-in_default
returns-in_default c =
    let out = others_out c.args.self.now c.args.message.now c.in_default.not-Open c.in_default.not-Updates c.in_default.not-EndStream c.in_default.not-Query c.in_default.not-Reveal c.in_default.not-Bye in
    record { turn = (λ e. absurd cc, λ e. absurd (both_ways _ out e)); heard = tt; same = refl }
