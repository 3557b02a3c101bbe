use Rattle.std.proofs.Common.{◌≡◌, length, drop, ap, ◌∙◌, arith, length-drop, drop-drop}
use Rattle.sip_session.proofs.panel_asking.skip_seats.Goals as goal

pub skip-requires : goal.skip-requires
skip-requires c = record { left = omega (arith, ap length c.loop-passed.invariant.next, length-drop c.loop-passed._passed c.args.session.now.left) }

pub loop-passed-preserved : goal.loop-passed-preserved
loop-passed-preserved c = record {
  next = c.skip.ensures.next ∙ ap (λ l. drop 1 l) c.loop-passed.invariant.next ∙ drop-drop 1 c.loop-passed._passed c.args.session.now.left;
  version = c.skip.ensures.version ∙ c.loop-passed.invariant.version;
  depth = c.skip.ensures.depth ∙ c.loop-passed.invariant.depth;
  spent = c.skip.ensures.spent ∙ c.loop-passed.invariant.spent;
}

pub returns-clause-next : goal.returns-clause-next
returns-clause-next c = let all : c.loop-passed._passed ≡ c.args.count = omega arith in c.loop-passed.invariant.next ∙ ap (λ n. drop n c.args.session.now.left) all
