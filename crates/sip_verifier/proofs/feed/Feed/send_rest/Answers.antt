-- What went out is a frame of those that waited, where there were any, and the end.
use Rattle.std.proofs.Common.{arith, take, ◌≡◌, ◌<◌, ◌≤◌, [], ◌∙◌, ℕ, List, length, sym, ap, subst, rules}
use Rattle.std.proofs.lemmas.Result.{err_from_is_err_and}
use Rattle.std.proofs.lemmas.List.{length-take-le, nil_from_length}
use Rattle.sip_ports.specs.Ports.{SendsWhole}
use Rattle.sip_verifier.specs.Feeding.{Waiting, due_at_end}
use Rattle.sip_verifier.proofs.DueFrames.{due-none, due-some}
use Rattle.sip_verifier.proofs.FramesFit.{end_fits}
use Rattle.sip_verifier.proofs.Sends.{sends_more, sends_short}
use Rattle.sip_verifier.proofs.feed.Feed.send_rest.Goals as goal
use Rattle.sip_verifier.proofs.feed.Feed.send_rest.Goals.{then-self-gt0+in_ok-send, else-self-gt0}

pub encode-requires : goal.encode-requires
encode-requires g c = end_fits c.self-2.inside.version

pub returns-in_err-send-clause-talk : goal.returns-in_err-send-clause-talk
returns-in_err-send-clause-talk g c =
    let waiting = c.args.self.now.waiting in
    let same : take c.self.inside.count c.self.inside.rows ≡ waiting = ap (λ (w : Waiting). w.waiting) c.self.view_is in
    let whole : c.self.inside.count ≤ length c.self.inside.rows = search rules in
    let len : length waiting ≡ c.self.inside.count = ap length (sym same) ∙ length-take-le c.self.inside.count c.self.inside.rows whole in
    let some : 0 < length waiting = omega (arith, len, c.if-self-gt0.true) in
    let few : length waiting ≤ 512 = omega (arith, len, c.self.invariant.0) in
    let said = c.in_err-send.ensures.talk in
    let p = err_from_is_err_and c.from_residual.result c.from_residual.ensures.1 in
    subst (SendsWhole (g.K.Sink.talk c.args.sink.now) (g.K.Sink.talk c.send.new.sink) c.from_residual.result) (sym (due-some c.args.self.now.version waiting some few))
    (sends_short _ _ c.from_residual.result p.0 _ _ p.1 said.0 said.1 said.2)

pub returns-clause-talk : goal.returns-clause-talk
returns-clause-talk g c =
    let waiting = c.args.self.now.waiting in
    let same : take c.self.inside.count c.self.inside.rows ≡ waiting = ap (λ (w : Waiting). w.waiting) c.self.view_is in
    let whole : c.self.inside.count ≤ length c.self.inside.rows = search rules in
    let len : length waiting ≡ c.self.inside.count = ap length (sym same) ∙ length-take-le c.self.inside.count c.self.inside.rows whole in
    let few : length waiting ≤ 512 = omega (arith, len, c.self.invariant.0) in
    let own : c.self-2.inside.version ≡ c.if-self-gt0.self.version = ap (λ (w : Waiting). w.version) c.self-2.view_is in
    let Sent : List ℕ → Type 0 = λ bytes. SendsWhole (g.K.Sink.talk c.args.sink.now) (g.K.Sink.talk c.encode.new.sink) c.encode.result bytes in
    elim c.if-self-gt0.branch [
      | then-self-gt0+in_ok-send w ↦
          let some : 0 < length waiting = omega (arith, len, w.if-self-gt0.true) in
          let version : c.self-2.inside.version ≡ c.args.self.now.version = own ∙ search rules in
          subst Sent (sym (due-some c.args.self.now.version waiting some few)) (sends_more _ _ _ c.encode.result _ _ w.in_ok-send.ensures.talk (rw (w.sink-is, version) at c.encode.ensures.talk))
      | else-self-gt0 w ↦
          let none : waiting ≡ [] = nil_from_length waiting (omega (arith, len, w.if-self-gt0.false)) in
          let version : c.self-2.inside.version ≡ c.args.self.now.version = own ∙ search rules in
          let due = ap (due_at_end c.args.self.now.version) none ∙ due-none c.args.self.now.version in
          subst Sent (sym due) (rw (w.sink-is, version) at c.encode.ensures.talk)
    ]
