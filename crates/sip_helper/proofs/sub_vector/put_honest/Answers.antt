-- The siblings are sent behind the entries, if those are due.
use Rattle.std.proofs.Common.{◌≡◌, List, ◌<◌, length, ℕ, rules, sym, ap, subst, ◌∙◌}
use Rattle.std.specs.declared.option.Option.{Option}
use Rattle.std.proofs.lemmas.List.{nil_from_length}
use Rattle.std.proofs.lemmas.Result.{err_from_is_err_and}
use Rattle.sip_field.specs.Moduli.{m61_modulus}
use Rattle.sip_ports.specs.declared.port.TalkEvent.{TalkEvent}
use Rattle.sip_ports.specs.Ports.{GoesOn, SendsWhole, outs}
use Rattle.sip_vector.specs.Vectors.{nonzero_within}
use Rattle.sip_wire.specs.Spelling.{spelling}
use Rattle.sip_subvec.specs.Honest.{Proving, honest_reply, its_siblings, proving, siblings_message}
use Rattle.sip_helper.proofs.SubVectors.{reply_first, reply_behind}
use Rattle.sip_helper.proofs.Rows.{framed}
use Rattle.sip_helper.proofs.Sending.{sends_after, stopped_in}
use Rattle.sip_helper.proofs.sub_vector.put_honest.Goals as goal
use Rattle.sip_helper.proofs.sub_vector.put_honest.Goals.{then-is_empty+in_ok-put_entries, else-is_empty}

pub returns-in_err-put_entries-clause-talk : goal.returns-in_err-put_entries-clause-talk
returns-in_err-put_entries-clause-talk g c =
    let numbers = c.args.vector.now.numbers in
    let len : length c.args.revealed.now ≡ 0 = search rules in
    let none = nil_from_length c.args.revealed.now len in
    let p = err_from_is_err_and c.from_residual.result c.from_residual.ensures.1 in
    rw (p.1, none, reply_first c.args.version m61_modulus numbers c.args.lo c.args.hi)
    (stopped_in (g.K.Sink.talk c.args.out.now) (g.K.Sink.talk c.put_entries.new.out) c.in_err-put_entries.field-0.0 p.0 (framed c.args.version (nonzero_within c.args.lo c.args.hi numbers)) _ c.in_err-put_entries.ensures.talk)

pub returns-clause-talk : goal.returns-clause-talk
returns-clause-talk g c =
    let numbers = c.args.vector.now.numbers in
    let lo = c.args.lo in
    let hi = c.args.hi in
    let revealed = c.args.revealed.now in
    let before = g.K.Sink.talk c.args.out.now in
    let now = g.K.Sink.talk c.if-is_empty.out in
    let after = g.K.Sink.talk c.put_siblings.new.out in
    let sent : SendsWhole now after c.put_siblings.result (spelling c.args.version (siblings_message (its_siblings (proving m61_modulus numbers lo hi revealed)))) =
    subst (λ (x : Proving). SendsWhole now after c.put_siblings.result (spelling c.args.version (siblings_message (its_siblings x)))) c.requires.proving c.put_siblings.ensures.talk in
    elim c.if-is_empty.branch [
      | then-is_empty+in_ok-put_entries w ↦
          let len : length c.args.revealed.now ≡ 0 = search rules in
          let none = nil_from_length c.args.revealed.now len in
          let entries = subst (λ (t : Option (List TalkEvent)). GoesOn before t (outs (framed c.args.version (nonzero_within lo hi numbers)))) (sym (ap g.K.Sink.talk w.out-is)) w.in_ok-put_entries.ensures.talk in
          subst (SendsWhole before after c.put_siblings.result) (sym (ap (honest_reply c.args.version m61_modulus numbers lo hi) none ∙ reply_first c.args.version m61_modulus numbers lo hi))
          (sends_after before now after c.put_siblings.result (framed c.args.version (nonzero_within lo hi numbers)) _ entries
          (subst (λ (l : List ℕ). SendsWhole now after c.put_siblings.result (spelling c.args.version (siblings_message (its_siblings (proving m61_modulus numbers lo hi l))))) none sent))
      | else-is_empty w ↦
          let some : 0 < length revealed = search rules in
          subst (λ (t : Option (List TalkEvent)). SendsWhole t after c.put_siblings.result (honest_reply c.args.version m61_modulus numbers lo hi revealed)) (ap g.K.Sink.talk w.out-is)
          (subst (SendsWhole now after c.put_siblings.result) (sym (reply_behind c.args.version m61_modulus numbers lo hi revealed some)) sent)
    ]
