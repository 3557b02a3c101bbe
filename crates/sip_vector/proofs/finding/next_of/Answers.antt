use Rattle.std.proofs.Common.{◌≤◌, pos, get_or, take, subst, ap, ◌≡◌, ◌∙◌, refl, arith}
use Rattle.std.proofs.lemmas.List.{take_all}
use Rattle.sip_vector.specs.inside.Gathered.{IsBare}
use Rattle.sip_vector.specs.declared.update.Entry.{Entry}
use Rattle.sip_vector.proofs.Finds.{get_or-any, bare-more, bare-less}
use Rattle.sip_vector.proofs.finding.next_of.Goals as goal
use Rattle.sip_vector.proofs.finding.next_of.Goals.{then-index-from-via-then-index-from, then-index-from-via-else-index-from+then-next-index}

pub loop-waiting-init : goal.loop-waiting-init
loop-waiting-init c = record { from = c.requires; end = omega arith; bare = λ k le lt. refl }

pub loop-waiting-preserved-then-index-from : goal.loop-waiting-preserved-then-index-from
loop-waiting-preserved-then-index-from c =
    let es = c.args.entries.now in
    let i = c.loop-waiting.waiting-index in
    let d : Entry = record { index = 0; value = pos 0 } in
    let there = get_or-any es i c.waiting-item.result d c.loop-waiting-test.true in
    let here : c.index-index.result ≡ (get_or es i d).index =
    c.index-index.ensures ∙ ap (λ e. e.index) (c.waiting-item.is ∙ there) in
    let outside : c.args.from ≤ (get_or es i d).index → c.loop-waiting.next ≤ (get_or es i d).index = λ le.
    elim c.then-index-from.branch [
      | then-index-from-via-then-index-from w ↦ absurd (omega (arith, w.if-index-from.true, le, here))
      | then-index-from-via-else-index-from+then-next-index w ↦ omega (arith, w.if-next-index.true, here)
    ] in
    record {
      from = c.loop-waiting.invariant.from;
      end = c.loop-waiting.invariant.end;
      bare = bare-more es i d c.loop-waiting-test.true c.args.from c.loop-waiting.next c.loop-waiting.invariant.bare outside;
    }

pub loop-waiting-preserved : goal.loop-waiting-preserved
loop-waiting-preserved c =
    let es = c.args.entries.now in
    let i = c.loop-waiting.waiting-index in
    let d : Entry = record { index = 0; value = pos 0 } in
    let there = get_or-any es i c.waiting-item.result d c.loop-waiting-test.true in
    let here : c.index-index.result ≡ (get_or es i d).index =
    c.index-index.ensures ∙ ap (λ e. e.index) (c.waiting-item.is ∙ there) in
    rw here (record {
      from = rw here at c.if-index-from.false;
      end = omega (arith, c.if-next-index.false, c.loop-waiting.invariant.end, here);
      bare = bare-more es i d c.loop-waiting-test.true c.args.from (get_or es i d).index
          (bare-less (take i es) c.args.from c.loop-waiting.next (get_or es i d).index c.loop-waiting.invariant.bare (omega (arith, c.if-next-index.false, here)))
          (λ le. omega arith);
    })

pub returns-clause-from : goal.returns-clause-from
returns-clause-from c = c.loop-waiting.invariant.from

pub returns-clause-end : goal.returns-clause-end
returns-clause-end c = c.loop-waiting.invariant.end

pub returns-clause-bare : goal.returns-clause-bare
returns-clause-bare c =
    subst (λ es. IsBare es c.args.from c.loop-waiting.next) (take_all c.loop-waiting.waiting-index c.args.entries.now (omega (arith, c.loop-waiting-test.false))) c.loop-waiting.invariant.bare
