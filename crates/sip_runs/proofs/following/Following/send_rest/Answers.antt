-- What went out is a frame of those that wait, where there are any, and the end.
use Rattle.std.proofs.Common.{arith, ◌≡◌, ◌<◌, ◌≤◌, ◌∙◌, ℕ, List, length, sym, ap, subst, rules}
use Rattle.std.proofs.lemmas.Result.{err_from_is_err_and}
use Rattle.std.proofs.lemmas.List.{nil_from_length}
use Rattle.sip_ports.specs.Ports.{SendsWhole}
use Rattle.sip_verifier.specs.Feeding.{due_at_end}
use Rattle.sip_verifier.proofs.DueFrames.{due-none, due-some}
use Rattle.sip_verifier.proofs.FramesFit.{end_fits}
use Rattle.sip_verifier.proofs.Sends.{sends_more, sends_short}
use Rattle.sip_runs.proofs.following.Following.send_rest.Goals as goal
use Rattle.sip_runs.proofs.following.Following.send_rest.Goals.{then-not-is_empty+in_ok-copy_to, else-not-is_empty}

pub encode-requires : goal.encode-requires
encode-requires g c = end_fits c.args.self.now.version

pub returns-in_err-copy_to-clause-talk : goal.returns-in_err-copy_to-clause-talk
returns-in_err-copy_to-clause-talk g c =
    let waiting = c.args.self.now.feed.value.waiting in
    let some : 0 < length waiting = search rules in
    let few : length waiting ≤ 512 = omega (arith, c.requires.few) in
    let same : c.deref-then-not-is_empty.result.now ≡ c.args.self.now.feed.value = search rules in
    let said = rw (same, c.requires.version) at c.in_err-copy_to.ensures.talk in
    let p = err_from_is_err_and c.from_residual.result c.from_residual.ensures.1 in
    subst (SendsWhole (g.K.Sink.talk c.args.out.now) (g.K.Sink.talk c.copy_to.new.sink) c.from_residual.result) (sym (due-some c.args.self.now.version waiting some few))
    (sends_short _ _ c.from_residual.result p.0 _ _ p.1 said.0 said.1 said.2)

pub returns-clause-talk : goal.returns-clause-talk
returns-clause-talk g c =
    let waiting = c.args.self.now.feed.value.waiting in
    let few : length waiting ≤ 512 = omega (arith, c.requires.few) in
    let Sent : List ℕ → Type 0 = λ bytes. SendsWhole (g.K.Sink.talk c.args.out.now) (g.K.Sink.talk c.encode.new.sink) c.encode.result bytes in
    elim c.if-not-is_empty.branch [
      | then-not-is_empty+in_ok-copy_to w ↦
          let some : 0 < length waiting = search rules in
          let same : w.deref-then-not-is_empty.result.now ≡ c.args.self.now.feed.value = search rules in
          subst Sent (sym (due-some c.args.self.now.version waiting some few))
          (sends_more _ _ _ c.encode.result _ _ (rw (same, c.requires.version) at w.in_ok-copy_to.ensures.talk) (rw w.out-is at c.encode.ensures.talk))
      | else-not-is_empty w ↦
          let nothing : length waiting ≡ 0 = search rules in
          let due = ap (due_at_end c.args.self.now.version) (nil_from_length waiting nothing) ∙ due-none c.args.self.now.version in
          subst Sent (sym due) (rw w.out-is at c.encode.ensures.talk)
    ]
