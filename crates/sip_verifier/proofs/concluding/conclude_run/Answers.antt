-- What came of each query is added to what came of those before. What came of all is handed to the lemmas of its end: one of them stopped, or all were accepted and the farewell was sent.
use Rattle.std.proofs.Common.{◌≡◌, Err, Ok, ℕ, List, [], length, refl, ap, drop, rules, arith, sym, subst, ◌∙◌, inl}
use Rattle.std.proofs.lemmas.List.{drop-drop, length-map}
use Rattle.std.proofs.lemmas.Result.{err_from_is_err_and}
use Rattle.sip_ports.proofs.FaultLemmas.{Rose-since}
use Rattle.sip_verifier.specs.runs.Askers.{Remaining, blocks_in, queries_in}
use Rattle.sip_verifier.specs.runs.Progress.{PassedBy}
use Rattle.sip_verifier.specs.runs.Runs.{updates}
use Rattle.sip_verifier.specs.Snapshots.{sink}
use Rattle.sip_verifier.proofs.KeptChecks.{checked_then, link_wanted}
use Rattle.sip_verifier.proofs.KeptQueries.{bye_kept, none_kept, whole_then}
use Rattle.sip_verifier.proofs.QueriesChecked.{all_checked, next_block, next_of, next_query, none_passed, passed_more, ends_with}
use Rattle.sip_verifier.proofs.QueryPromises.{after_queries, at_bye, bye_stops}
use Rattle.sip_verifier.proofs.RunTalks.{ends_moves, passed_moves}
use Rattle.sip_verifier.proofs.concluding.conclude_run.Goals as goal

pub loop-asked-init : goal.loop-asked-init
loop-asked-init g c =
    let s = g.Q.Asker.remaining c.args.asker.now in
    record {
      version = refl;
      depth = refl;
      left = refl;
      live = c.requires.live;
      within = omega arith;
      stands = λ stream stands. stands;
      passed = λ stream stands. none_passed (g.Q.Asker.asking s.version s.depth stream) _ _ _ _;
      peer = search rules;
      report = search rules;
      keep = search rules;
      kept = none_kept s.version _ _;
    }

pub returns-in_err-check_next-clause-ends : goal.returns-in_err-check_next-clause-ends
returns-in_err-check_next-clause-ends g c =
    let asking = g.Q.Asker.asking in
    let s = g.Q.Asker.remaining c.args.asker.now in
    let i = c.loop-asked.invariant in
    let n = next_of c.loop-asked.asked s.left (omega arith) in
    let p = err_from_is_err_and c.from_residual.result c.from_residual.ensures.1 in
    rw (p.1, p.2)
    (λ r x before now b stands fault.
    let stream = updates r x in
    let checks = c.check_next.ensures.checks stream n.0 (i.stands stream stands) (record { more = n.1; first = i.left ∙ n.2 }) in
    let ends = ends_with (asking s.version s.depth stream) _ _ _ _ _ _ _ _ c.loop-asked.asked n.0.0 _ n.0.1 _ _ c.check_next.result _ c.in_err-check_next.was (omega arith) (i.passed stream stands)
    (next_query s.left n.1 n.0 c.loop-asked.asked n.2) (next_block s.left n.1 n.0 c.loop-asked.asked n.2)
    (rw (i.version, i.depth) at checks) in
    let all = all_checked asking r x s _ _ _ _ _ _ {came = Err c.in_err-check_next.field-0.0} refl b ends in
    after_queries asking r x b.challenges _ _ _ _ b.drawn b.legal b.may b.talk b.report (g.met.Q.Asker.lawful r.version r.depth stream) before now c.in_err-check_next.field-0.0 all fault)

pub returns-in_err-check_next-clause-wrote : goal.returns-in_err-check_next-clause-wrote
returns-in_err-check_next-clause-wrote g c = λ stream stands.
    let s = g.Q.Asker.remaining c.args.asker.now in
    let i = c.loop-asked.invariant in
    let m = g.Q.Asker.asking s.version s.depth stream in
    let n = next_of c.loop-asked.asked s.left (omega arith) in
    let checks = c.check_next.ensures.checks stream n.0 (i.stands stream stands) (record { more = n.1; first = i.left ∙ n.2 }) in
    (ends_moves m _ _ _ _ _ _ c.in_err-check_next.field-0.0
    (ends_with m _ _ _ _ _ _ _ _ c.loop-asked.asked n.0.0 _ n.0.1 _ _ c.check_next.result _ c.in_err-check_next.was (omega arith) (i.passed stream stands)
    (next_query s.left n.1 n.0 c.loop-asked.asked n.2) (next_block s.left n.1 n.0 c.loop-asked.asked n.2)
    (rw (i.version, i.depth) at checks))).1

pub returns-in_err-check_next-clause-keeps : goal.returns-in_err-check_next-clause-keeps
returns-in_err-check_next-clause-keeps g c =
    let s = g.Q.Asker.remaining c.args.asker.now in
    let i = c.loop-asked.invariant in
    let p = err_from_is_err_and c.from_residual.result c.from_residual.ensures.1 in
    let stop = Err c.in_err-check_next.field-0.0 in
    let next = rw (c.in_err-check_next.was, i.version) at c.check_next.ensures.keeps in
    rw (p.1, p.2) (checked_then s.version
    _ (sink g.L.Sink.talk g.L.Sink.faults g.L.Sink.wants c.loop-asked.peer) _
    _ (sink g.K.Sink.talk g.K.Sink.faults g.K.Sink.wants c.loop-asked.report) _
    _ (sink g.C.Sink.talk g.C.Sink.faults g.C.Sink.wants c.loop-asked.keep) _ i.kept
    (record { later = i.peer.later; wants_later = i.peer.wants_later })
    (record { later = i.report.later; wants_later = i.report.wants_later })
    (record { later = i.keep.later; wants_later = i.keep.wants_later }) stop next)

pub loop-asked-preserved : goal.loop-asked-preserved
loop-asked-preserved g c =
    let s = g.Q.Asker.remaining c.args.asker.now in
    let n = next_of c.loop-asked.asked s.left (omega arith) in
    let same = rw c.in_ok-check_next.was at c.check_next.ensures.remaining in
    record {
      version = ap (λ (x : Remaining g.Q.Asker.Query). x.version) same ∙ c.loop-asked.invariant.version;
      depth = ap (λ (x : Remaining g.Q.Asker.Query). x.depth) same ∙ c.loop-asked.invariant.depth;
      left = ap (λ (x : Remaining g.Q.Asker.Query). x.left) same ∙ ap (λ (l : List (g.Q.Asker.Query × List ℕ)). drop 1 l) c.loop-asked.invariant.left ∙ drop-drop 1 c.loop-asked.asked s.left;
      live = ap (λ (x : Remaining g.Q.Asker.Query). x.spent) same;
      within = omega arith;
      stands = λ stream stands. c.check_next.ensures.stands stream (c.loop-asked.invariant.stands stream stands);
      passed = λ stream stands.
          let checks = c.check_next.ensures.checks stream n.0 (c.loop-asked.invariant.stands stream stands) (record { more = n.1; first = c.loop-asked.invariant.left ∙ n.2 }) in
          passed_more (g.Q.Asker.asking s.version s.depth stream) _ _ _ _ _ _ _ _ c.loop-asked.asked n.0.0 _ n.0.1 _ _ c.check_next.result _ c.in_ok-check_next.was (c.loop-asked.invariant.passed stream stands)
          (next_query s.left n.1 n.0 c.loop-asked.asked n.2) (next_block s.left n.1 n.0 c.loop-asked.asked n.2)
          (rw (c.loop-asked.invariant.version, c.loop-asked.invariant.depth) at checks);
      peer = search rules;
      report = search rules;
      keep = search rules;
      kept = whole_then s.version _ _ _ _ _ _ c.loop-asked.invariant.kept (rw (c.in_ok-check_next.was, c.loop-asked.invariant.version) at c.check_next.ensures.keeps).kept;
    }

pub returns-clause-ends : goal.returns-clause-ends
returns-clause-ends g c = λ r x before now b stands fault.
    let asking = g.Q.Asker.asking in
    let s = g.Q.Asker.remaining c.args.asker.now in
    let i = c.loop-asked.invariant in
    let end : c.loop-asked.asked ≡ length s.left = omega arith in
    let count : c.loop-asked.asked ≡ length (queries_in s.left) = end ∙ sym (length-map s.left (λ (a : g.Q.Asker.Query × List ℕ). a.0)) in
    let passed = subst (λ (k : ℕ). PassedBy (asking s.version s.depth (updates r x)) (queries_in s.left) (blocks_in s.left) (g.L.Sink.talk c.args.peer.now) (g.L.Sink.talk c.loop-asked.peer) (g.K.Sink.talk c.args.report.now) (g.K.Sink.talk c.loop-asked.report) k) count (i.passed (updates r x) stands) in
    let all = all_checked asking r x s _ _ _ _ _ _ {came = Ok tt} refl b passed in
    let said = c.say_farewell.ensures.talk (updates r x) in
    let talk = rw (i.version, b.version, i.depth, b.depth) at said in
    at_bye asking r x b.challenges _ _ _ _ b.drawn b.legal b.may b.talk b.report (g.met.Q.Asker.lawful r.version r.depth (updates r x)) before now _ c.say_farewell.result c.on_link.result all talk c.on_link.ensures fault b.read

pub returns-clause-wrote : goal.returns-clause-wrote
returns-clause-wrote g c = λ stream stands.
    let s = g.Q.Asker.remaining c.args.asker.now in
    (passed_moves (g.Q.Asker.asking s.version s.depth stream) _ _ _ _ _ _ _ (c.loop-asked.invariant.passed stream stands)).1

pub returns-clause-keeps : goal.returns-clause-keeps
returns-clause-keeps g c =
    let cause = c.say_farewell.ensures.cause in
    let i = c.loop-asked.invariant in
    let peer = i.peer in
    record {
      kept = bye_kept (g.Q.Asker.remaining c.args.asker.now).version _ _ _ _ _ i.kept c.say_farewell.result c.on_link.result _ (c.say_farewell.ensures.talk []) c.on_link.ensures;
      fault = λ first firsts second seconds. bye_stops _ _ c.say_farewell.result c.on_link.result c.on_link.ensures (λ e. Rose-since _ _ _ peer.later (cause.failed e));
      memory = λ is. inl (Rose-since _ _ _ peer.wants_later (cause.wanted (link_wanted c.say_farewell.result c.on_link.result c.on_link.ensures is)));
    }
