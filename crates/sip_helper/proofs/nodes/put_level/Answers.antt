-- What opens a reply is frames of leaves, of marks or of nodes.
use Rattle.std.proofs.Common.{◌≡◌, true, false, List, All, sym, subst, ◌∙◌, rules}
use Rattle.std.specs.Prelude.{IsTrue}
use Rattle.std.specs.List.{flat_map}
use Rattle.sip_ports.specs.Ports.{SendsWhole}
use Rattle.sip_wire.specs.declared.message.Message.{Message}
use Rattle.sip_wire.specs.Spelling.{fits, spelling}
use Rattle.sip_helper.proofs.ShownFrames.{leaves_open, marks_open, nodes_open}
use Rattle.sip_helper.proofs.nodes.put_level.Goals as goal

pub put_nodes-requires : goal.put_nodes-requires
put_nodes-requires g c =
    let upper : c.args.is_lowest ≡ false = search rules in
    let same = nodes_open c.args.prover.now (c.requires.lowest ∙ upper) in
    record { fit = subst (λ (ms : List Message). All (λ m. IsTrue (fits c.args.version m)) ms) same c.requires.fit }

pub returns-then-not-is_lowest-clause-talk : goal.returns-then-not-is_lowest-clause-talk
returns-then-not-is_lowest-clause-talk g c =
    let upper : c.args.is_lowest ≡ false = search rules in
    let same = nodes_open c.args.prover.now (c.requires.lowest ∙ upper) in
    subst (λ (ms : List Message). SendsWhole (g.K.Sink.talk c.args.out.now) (g.K.Sink.talk c.put_nodes.new.out) c.put_nodes.result (flat_map (spelling c.args.version) ms)) (sym same) c.put_nodes.ensures.talk

pub put_leaves-requires : goal.put_leaves-requires
put_leaves-requires g c =
    let lowest : c.args.is_lowest ≡ true = search rules in
    let same = leaves_open c.args.prover.now (c.requires.lowest ∙ lowest) (sym c.form.ensures ∙ c.in-Count.is) in
    record { fit = subst (λ (ms : List Message). All (λ m. IsTrue (fits c.args.version m)) ms) same c.requires.fit }

pub returns-in-Count-clause-talk : goal.returns-in-Count-clause-talk
returns-in-Count-clause-talk g c =
    let lowest : c.args.is_lowest ≡ true = search rules in
    let same = leaves_open c.args.prover.now (c.requires.lowest ∙ lowest) (sym c.form.ensures ∙ c.in-Count.is) in
    subst (λ (ms : List Message). SendsWhole (g.K.Sink.talk c.args.out.now) (g.K.Sink.talk c.put_leaves.new.out) c.put_leaves.result (flat_map (spelling c.args.version) ms)) (sym same) c.put_leaves.ensures.talk

pub put_marks-requires : goal.put_marks-requires
put_marks-requires g c =
    let lowest : c.args.is_lowest ≡ true = search rules in
    let same = marks_open c.args.prover.now (c.requires.lowest ∙ lowest) (sym c.form.ensures ∙ c.in-Mark.is) in
    record { fit = subst (λ (ms : List Message). All (λ m. IsTrue (fits c.args.version m)) ms) same c.requires.fit }

pub returns-in-Mark-clause-talk : goal.returns-in-Mark-clause-talk
returns-in-Mark-clause-talk g c =
    let lowest : c.args.is_lowest ≡ true = search rules in
    let same = marks_open c.args.prover.now (c.requires.lowest ∙ lowest) (sym c.form.ensures ∙ c.in-Mark.is) in
    subst (λ (ms : List Message). SendsWhole (g.K.Sink.talk c.args.out.now) (g.K.Sink.talk c.put_marks.new.out) c.put_marks.result (flat_map (spelling c.args.version) ms)) (sym same) c.put_marks.ensures.talk
