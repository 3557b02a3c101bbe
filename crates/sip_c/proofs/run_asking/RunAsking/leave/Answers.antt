use Rattle.std.proofs.Common.{Ok, refl, sym, subst}
use Rattle.sip_wire.specs.Spelling.{spelling}
use Rattle.sip_wire.specs.declared.message.Message.TheVariants as messages
use Rattle.sip_c.specs.RunAsking.{DueAt}
use Rattle.sip_c.specs.Rooms.{bytes_in}
use Rattle.sip_c.specs.declared.run_asking.RunStep.{RunStep}
use Rattle.sip_c.specs.declared.run_asking.RunStep.TheVariants as at
use Rattle.sip_c.proofs.Handed.{handed}
use Rattle.sip_c.proofs.run_asking.RunAsking.leave.Goals as goal

pub returns-in-Ok-clause-due : goal.returns-in-Ok-clause-due
returns-in-Ok-clause-due c =
    let version = c.args.self.now.left.version in
    let to = c.args.to.now in
    let to' = c.hand_out.new.to in
    let count = c.hand_out.new.count in (
      refl,
      subst (λ (s : RunStep). DueAt version to to' count s (Ok tt) at.Left) (sym c.requires.leaving)
          (handed (bytes_in c.new-out.result) (bytes_in c.say_farewell.new.out) (spelling version messages.Bye) to to' count c.new-out.ensures c.in-Ok.ensures.talk c.hand_out.ensures),
    )
