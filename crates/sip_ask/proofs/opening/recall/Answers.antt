-- The opening stopped, or the count was sent behind it.
use Rattle.std.proofs.Common.{◌++◌, [], sym, subst, append-nil}
use Rattle.std.specs.Prelude.{flat_map, ◌∷◌}
use Rattle.std.proofs.lemmas.Result.{err_from_is_err_and}
use Rattle.sip_ports.specs.Ports.{SendsWhole}
use Rattle.sip_wire.specs.Spelling.{spelling}
use Rattle.sip_wire.specs.Versions.{number_of}
use Rattle.sip_wire.specs.declared.message.Message.TheVariants as messages
use Rattle.sip_verifier.proofs.Sends.{sends_more, sends_short}
use Rattle.sip_ask.proofs.opening.recall.Goals as goal

pub returns-in_err-send_opening-clause-talk : goal.returns-in_err-send_opening-clause-talk
returns-in_err-send_opening-clause-talk g c =
    let v = c.args.version in
    let p = err_from_is_err_and c.from_residual.result c.from_residual.ensures.1 in
    let said = c.in_err-send_opening.ensures.talk in
    sends_short _ _ c.from_residual.result p.0 (spelling v (messages.Open (number_of v) c.args.depth)) (flat_map (spelling v) (messages.Recall c.args.count ∷ [])) p.1 said.0 said.1 said.2

pub returns-clause-talk : goal.returns-clause-talk
returns-clause-talk g c =
    let v = c.args.version in
    let count = spelling v (messages.Recall c.args.count) in
    let said = subst (SendsWhole (g.K.Sink.talk c.send_opening.new.sink) (g.K.Sink.talk c.send_count.new.sink) c.send_count.result) (sym (append-nil count)) c.send_count.ensures.talk in
    sends_more _ _ _ c.send_count.result (spelling v (messages.Open (number_of v) c.args.depth)) (count ++ []) c.in_ok-send_opening.ensures.talk said
