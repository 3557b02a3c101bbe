-- Updates that concern the query raise its running numbers.
use Rattle.std.proofs.Common.{subst}
use Rattle.sip_verifier.specs.declared.running.Running.{Running}
use Rattle.sip_verifier.specs.Running.{RunsFor}
use Rattle.sip_verifier.proofs.Seating.{root_further, point_further, points_further, aug_root_further, split_root_further}
use Rattle.sip_verifier.proofs.running.Running.update_all.Goals as goal

pub returns-in-Root-clause-runs : goal.returns-in-Root-clause-runs
returns-in-Root-clause-runs c = λ depth stream query concerned stands.
    let own = subst (λ (r : Running). RunsFor depth stream query r) c.in-Root.is stands in
    record { runs = root_further depth stream c.args.updates.now _ c.args.side query _ _ _ c.requires.sides concerned c.update_all.ensures.stands own.runs }

pub returns-in-Point-clause-runs : goal.returns-in-Point-clause-runs
returns-in-Point-clause-runs c = λ depth stream query concerned stands.
    let own = subst (λ (r : Running). RunsFor depth stream query r) c.in-Point.is stands in
    record { runs = point_further depth stream c.args.updates.now _ c.args.side query _ _ _ c.requires.sides concerned c.update_all-in-Point.ensures.stands own.runs }

pub returns-in-Points-clause-runs : goal.returns-in-Points-clause-runs
returns-in-Points-clause-runs c = λ depth stream query concerned stands.
    let own = subst (λ (r : Running). RunsFor depth stream query r) c.in-Points.is stands in
    record { runs = points_further depth stream c.args.updates.now _ query _ _ _ _ _ c.update_all-in-Points.ensures.first c.update_all-in-Points.ensures.second own.runs }

pub returns-in-AugRoot-clause-runs : goal.returns-in-AugRoot-clause-runs
returns-in-AugRoot-clause-runs c = λ depth stream query concerned stands.
    let own = subst (λ (r : Running). RunsFor depth stream query r) c.in-AugRoot.is stands in
    record { runs = aug_root_further depth stream c.args.updates.now _ c.args.side query _ _ _ _ _ c.requires.sides concerned c.update_all-in-AugRoot.ensures.stands own.runs }

pub returns-in-SplitRoot-clause-runs : goal.returns-in-SplitRoot-clause-runs
returns-in-SplitRoot-clause-runs c = λ depth stream query concerned stands.
    let own = subst (λ (r : Running). RunsFor depth stream query r) c.in-SplitRoot.is stands in
    record { runs = split_root_further depth stream c.args.updates.now _ c.args.side query _ _ _ _ _ c.requires.sides concerned c.update_all-in-SplitRoot.ensures.stands own.runs }
