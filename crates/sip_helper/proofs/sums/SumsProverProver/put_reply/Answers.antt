-- The polynomial is sent behind the claim, if that is due.
use Rattle.std.proofs.Common.{◌≡◌, ℕ, ◌<◌, List, ◌++◌, length, Result, Err, rules, sym, ap, subst, ◌∙◌, arith}
use Rattle.std.specs.declared.option.Option.{Option}
use Rattle.std.proofs.lemmas.List.{nil_from_length}
use Rattle.std.proofs.lemmas.Result.{err_from_is_err_and}
use Rattle.sip_ports.specs.declared.port.PortStop.{PortStop}
use Rattle.sip_ports.specs.declared.port.TalkEvent.{TalkEvent}
use Rattle.sip_ports.specs.Ports.{GoesOn, SendsWhole, outs}
use Rattle.sip_wire.specs.declared.message.Message.{Message}
use Rattle.sip_wire.specs.declared.message.Message.TheVariants as messages
use Rattle.sip_wire.specs.Spelling.{spelling}
use Rattle.sip_helper.specs.Sums.{HasFolded}
use Rattle.sip_helper.proofs.SubVectors.{tall}
use Rattle.sip_helper.proofs.SumReplies.{its_message, replies, reply_first, reply_behind}
use Rattle.sip_helper.proofs.Sending.{sends_after, stopped_in}
use Rattle.sip_helper.proofs.sums.SumsProverProver.put_reply.Goals as goal
use Rattle.sip_helper.proofs.sums.SumsProverProver.put_reply.Goals.{then-is_first+in_ok-encode, else-is_first}

pub polynomial-requires : goal.polynomial-requires
polynomial-requires g c = tall c.requires.stands.0 (length c.args.revealed.now) c.args.self.now.prover.first c.requires.stands.4.height c.requires.stands.3

pub returns-in_err-encode-clause-talk : goal.returns-in_err-encode-clause-talk
returns-in_err-encode-clause-talk g c =
    let version = c.args.version in
    let s = c.args.self.now in
    let v = c.args._vectors.now in
    let stands = c.requires.stands in
    let before = g.K.Sink.talk c.args.out.now in
    let now = g.K.Sink.talk c.encode.new.sink in
    let len : length c.args.revealed.now ≡ 0 = search rules in
    let none = nil_from_length c.args.revealed.now len in
    let p = err_from_is_err_and c.from_residual.result c.from_residual.ensures.1 in
    let all = replies version v s c.args.revealed.now in
    let reply : all ≡ spelling version (messages.Claim s.prover.claim) ++ spelling version (its_message s.prover) =
    ap (replies version v s) none ∙ reply_first version stands.0 v s stands.2 (subst (λ (l : List ℕ). HasFolded stands.0 v l s) none stands.4) (omega (arith, stands.3)) in
    let cut = subst (λ (m : Message). SendsWhole {T = Unit {0}} before now (Err c.in_err-encode.field-0.0) (spelling version m)) c.claim.ensures.message c.in_err-encode.ensures.talk in
    subst (λ (r : Result (Unit {0}) PortStop). SendsWhole before now r all) (sym p.1)
    (subst (SendsWhole {T = Unit {0}} before now (Err p.0)) (sym reply)
    (stopped_in before now c.in_err-encode.field-0.0 p.0 (spelling version (messages.Claim s.prover.claim)) (spelling version (its_message s.prover)) cut))

pub returns-clause-talk : goal.returns-clause-talk
returns-clause-talk g c =
    let version = c.args.version in
    let s = c.args.self.now in
    let v = c.args._vectors.now in
    let stands = c.requires.stands in
    let revealed = c.args.revealed.now in
    let before = g.K.Sink.talk c.args.out.now in
    let now = g.K.Sink.talk c.if-is_first.out in
    let after = g.K.Sink.talk c.encode-2.new.sink in
    let all = replies version v s revealed in
    let sent : SendsWhole now after c.encode-2.result (spelling version (its_message s.prover)) =
    subst (λ (m : Message). SendsWhole now after c.encode-2.result (spelling version m)) c.polynomial.ensures.message c.encode-2.ensures.talk in
    elim c.if-is_first.branch [
      | then-is_first+in_ok-encode w ↦
          let len : length revealed ≡ 0 = search rules in
          let none = nil_from_length revealed len in
          let reply : all ≡ spelling version (messages.Claim s.prover.claim) ++ spelling version (its_message s.prover) =
          ap (replies version v s) none ∙ reply_first version stands.0 v s stands.2 (subst (λ (l : List ℕ). HasFolded stands.0 v l s) none stands.4) (omega (arith, stands.3)) in
          let claim = subst (λ (t : Option (List TalkEvent)). GoesOn before t (outs (spelling version (messages.Claim s.prover.claim)))) (sym (ap g.K.Sink.talk w.out-is))
          (subst (λ (m : Message). GoesOn before (g.K.Sink.talk w.encode.new.sink) (outs (spelling version m))) w.claim.ensures.message w.in_ok-encode.ensures.talk) in
          subst (SendsWhole before after c.encode-2.result) (sym reply)
          (sends_after before now after c.encode-2.result (spelling version (messages.Claim s.prover.claim)) (spelling version (its_message s.prover)) claim sent)
      | else-is_first w ↦
          let some : 0 < length revealed = search rules in
          subst (λ (t : Option (List TalkEvent)). SendsWhole t after c.encode-2.result all) (ap g.K.Sink.talk w.out-is)
          (subst (SendsWhole now after c.encode-2.result) (sym (reply_behind version stands.0 v revealed s stands.2 stands.4 stands.3 some)) sent)
    ]
