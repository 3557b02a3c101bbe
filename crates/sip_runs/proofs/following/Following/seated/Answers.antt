-- Nothing came, nothing was said, and the seats stand for the stream of no update.
use Rattle.std.proofs.Common.{◌≡◌, ◌≤◌, [], map, refl, sym, ap, ◌∙◌, arith, rules}
use Rattle.sip_field.specs.Elements.{m61_number}
use Rattle.sip_vector.specs.Limits.{most_depth}
use Rattle.sip_verifier.specs.Feeding.{Waiting}
use Rattle.sip_verifier.proofs.SeatsHead.{depth-shallow}
use Rattle.sip_questions.specs.Questions.{queries_among, version_for}
use Rattle.sip_runs.specs.Measures.{Measuring}
use Rattle.sip_runs.specs.Plans.{plan_of}
use Rattle.sip_runs.proofs.following.Following.seated.Goals as goal

pub returns-clause-given : goal.returns-clause-given
returns-clause-given c =
    let made : c.in-Ok-new.feed.value ≡ c.new.result = search rules in
    let own = made ∙ c.new.ensures in
    let deep : c.args.depth ≤ most_depth = omega (arith, c.get-levels.ensures.same, c.get-levels.ensures.most) in
    record {
      version = c.requires.version;
      depth = ap (λ (m : Measuring). m.depth) c.new-3.ensures.nothing;
      shallow = depth-shallow c.args.depth (queries_among c.args.questions.now) deep;
      questions = c.in-Ok.ensures.questions;
      at_blocks = c.in-Ok.ensures.blocks;
      few = c.requires.can.some.1;
      measured = c.new-3.ensures.measured;
      sent = [];
      order = sym (ap (λ (w : Waiting). w.waiting) own);
      in_version = ap (λ (w : Waiting). w.version) own ∙ c.requires.version;
      seated = c.in-Ok.ensures.seated (version_for c.args.depth c.args.questions.now) c.requires.can.fit;
      said = (refl, refl, ap (λ (w : Waiting). w.waiting) own);
    }

pub returns-clause-begun : goal.returns-clause-begun
returns-clause-begun c = (plan_of c.args.depth c.args.questions.now (map m61_number c.args.challenges.now), [], [], returns-clause-given c)
