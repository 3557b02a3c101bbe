-- The seats stand for the stream, and refuse what it refuses.
use Rattle.std.proofs.Common.{◌∙◌, All, sym, ap, subst}
use Rattle.sip_verifier.specs.Weights.{weight_in}
use Rattle.sip_questions.specs.Questions.{first_by}
use Rattle.sip_runs.specs.Seats.{IsSeated, blocks_of, questions_of, refusal_at}
use Rattle.sip_runs.proofs.AtEnd.{legal_at_end, refused_at_end, seated_at_end}
use Rattle.sip_runs.proofs.following.Following.into_questions.Goals as goal

pub first_refusal-requires-clause-seated : goal.first_refusal-requires-clause-seated
first_refusal-requires-clause-seated c =
    let (p, stream, events, is) = c.requires.begun in
    (p.version, p.depth, is.sent, subst (All (IsSeated p.version p.depth is.sent)) (sym c.deref.ensures.value) is.seated)

pub returns-in-Some : goal.returns-in-Some
returns-in-Some c = λ p stream events is.
    let refuses = first_by (refusal_at (weight_in c.weights.result)) 1 in
    sym (refused_at_end p stream events c.args.self is c.requires.ended c.weights.result (c.weights.ensures p stream events is))
    ∙ ap refuses (sym c.deref.ensures.value) ∙ sym c.first_refusal.ensures ∙ c.in-Some.is

pub returns : goal.returns
returns c = λ p stream events is.
    let refuses = first_by (refusal_at (weight_in c.weights.result)) 1 in (
      record {
        version = c.new.ensures.version ∙ is.version;
        depth = c.new.ensures.depth ∙ c.depth.ensures ∙ is.depth;
        shallow = is.shallow;
        questions = ap questions_of c.new.ensures.seats ∙ is.questions;
        at_blocks = ap blocks_of c.new.ensures.seats ∙ is.at_blocks;
        legal = legal_at_end p stream events c.args.self is c.requires.ended;
        seated = subst (All (IsSeated p.version p.depth stream)) (sym c.new.ensures.seats) (seated_at_end p stream events c.args.self is c.requires.ended);
      },
      sym (refused_at_end p stream events c.args.self is c.requires.ended c.weights.result (c.weights.ensures p stream events is))
          ∙ ap refuses (sym c.deref.ensures.value) ∙ sym c.first_refusal.ensures ∙ c.in_default.is,
    )
