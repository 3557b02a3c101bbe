-- One more challenge, or none.
use Rattle.std.proofs.Common.{◌≡◌, ℕ, subst, rules}
use Rattle.std.specs.Prelude.{IsTrue}
use Rattle.std.proofs.lemmas.Result.{err_from_is_err_and}
use Rattle.sip_wire.specs.Spelling.{in_bytes}
use Rattle.sip_wire.specs.Table.{is_element}
use Rattle.sip_transcript.specs.Fields.{element_field}
use Rattle.sip_transcript.specs.Parts.{TakesBlock}
use Rattle.sip_transcript.proofs.Growing.{block-nil, block-more}
use Rattle.sip_transcript.proofs.Failing.{block-stops}
use Rattle.sip_transcript.proofs.There.{there-ok, there-err}
use Rattle.sip_transcript.proofs.head.read_block.Goals as goal

pub loop-level-init : goal.loop-level-init
loop-level-init g c = record { took = block-nil _ _; lasts = search rules }

pub loop-level-preserved : goal.loop-level-preserved
loop-level-preserved g c =
    let kept = c.loop-level.invariant in
    let is = there-ok c.read_challenge.result _ c.in_ok-challenge.challenge c.in_ok-challenge.ensures in
    let read = rw is at c.read_challenge.ensures.reads in
    record {
      took = block-more c.loop-level.level c.in_ok-challenge.challenge _ _ _ _ _ _ kept.took read.0 read.1 c.push.ensures.items;
      lasts = search rules;
    }

pub returns-in_err-challenge-clause-bad : goal.returns-in_err-challenge-clause-bad
returns-in_err-challenge-clause-bad g c =
    let p = err_from_is_err_and c.from_residual.result c.from_residual.ensures.1 in
    let not = there-err element_field (in_bytes 8) (λ x. IsTrue (is_element x)) _ _ c.read_challenge.result _ _ c.in_err-challenge.ensures c.read_challenge.ensures.reads in
    rw (p.1, p.2) (block-stops c.loop-level.level c.args.levels c.args.at _ _ _ _ _ _ c.loop-level.invariant.took (search rules) not)

pub returns-clause-took : goal.returns-clause-took
returns-clause-took g c =
    let end : c.loop-level.level ≡ c.args.levels = search rules in
    subst (λ (k : ℕ). TakesBlock k (g.S.Source.left c.args.source.now) (g.S.Source.left c.loop-level.source) c.args.challenges.now.items c.loop-level.challenges.items) end c.loop-level.invariant.took
