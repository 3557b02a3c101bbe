-- Each attempt leads on, until all queries were answered or the panel halts.
use Rattle.std.proofs.Common.{◌≡◌, ◌<◌, ◌+◌, ◌-◌, ◌*◌, ◌≤◌, ℕ, None, Ok, Err, List, length, drop, refl, ap, sym, ◌∙◌, subst, arith, rules, drop-drop}
use Rattle.std.proofs.lemmas.List.{length-map}
use Rattle.std.proofs.lemmas.Result.{err_from_is_err_and}
use Rattle.sip_duel.specs.Story.{IsHonestTalk}
use Rattle.sip_duel.proofs.KeepsLemmas.{kept_is_honest}
use Rattle.sip_vector.specs.declared.query.Query.{Query}
use Rattle.sip_wire.specs.Table.{most_queries}
use Rattle.sip_verifier.specs.Sittings.{asks_left}
use Rattle.sip_session.specs.Links.{talks_of}
use Rattle.sip_session.specs.inside.Trying.{TrailsTo, turn_at}
use Rattle.sip_session.proofs.Asked.{further, led_on, left_enough, next_asks, passed_sum}
use Rattle.sip_session.proofs.Attempts.{no_attempt}
use Rattle.sip_verifier.specs.declared.status.Status.TheVariants as statuses
use Rattle.sip_session.proofs.AskedLinks.{all_before, all_last, all_out, all_tell}
use Rattle.sip_session.proofs.AskedOn.{stopped_on}
use Rattle.sip_session.proofs.LinkLemmas.{links_stay}
use Rattle.sip_session.proofs.panel_asking.ask_all.Goals as goal

pub loop-at-init : goal.loop-at-init
loop-at-init g c = record {
  trail = λ stream stand. no_attempt _ _ stream _ _ _ _ _;
  passed = (0, omega arith, refl);
  stands = λ stream stand. stand;
  version = refl;
  depth = refl;
  live = c.requires.live;
  gone = c.requires.some;
  asked = omega arith;
  count = refl;
  honest = links_stay _ c.args.links.now (λ place l k. kept_is_honest _ l.kept k);
  sure = links_stay _ c.args.links.now (λ place l most k. k);
  dropped = links_stay _ c.args.links.now (λ place l less. absurd (omega (arith, less)));
  report = search rules;
}

pub ask_at-requires : goal.ask_at-requires
ask_at-requires g c =
    let i = c.loop-at.invariant in
    record {
      gone = omega arith;
      asked = omega arith;
      few = subst (λ (n : ℕ). c.args.queries * n ≤ most_queries) (sym i.count) c.requires.few;
      left = subst (λ (n : ℕ). (c.args.queries - c.loop-at.at.asked) * n - c.loop-at.at.gone ≤ length c.loop-at.session.left) (sym i.count)
          (left_enough c.args.session.now.left c.loop-at.session.left c.args.queries c.loop-at.at.asked c.loop-at.at.gone (length c.args.links.now) i.passed.0 i.asked c.requires.left i.passed.1 i.passed.2);
      live = i.live;
    }

pub loop-at-smaller : goal.loop-at-smaller
loop-at-smaller g c =
    let nearer = rw c.in_ok-at.was at c.ask_at.ensures.nearer in
    omega (arith, nearer.0, nearer.1, nearer.2, nearer.3, nearer.4, c.loop-at.invariant.gone, c.loop-at.invariant.asked)

pub loop-at-preserved : goal.loop-at-preserved
loop-at-preserved g c =
    let i = c.loop-at.invariant in
    let all = c.args.session.now in
    let h = length c.args.links.now in
    let left = c.loop-at.session.left in
    let at = c.loop-at.at in
    let nearer = rw (c.in_ok-at.was, i.count) at c.ask_at.ensures.nearer in
    let more : at.asked < c.args.queries = omega arith in
    let early = length left - ((c.args.queries - at.asked) * h - at.gone) in
    let sum = passed_sum all.left left c.args.queries at.asked at.gone h i.passed.0 i.asked c.requires.left i.passed.1 i.passed.2 i.gone more in
    let next = rw i.count at c.ask_at.ensures.next in
    let keeps = rw c.in_ok-at.was at c.ask_at.ensures.keeps in
    record {
      trail = λ stream stand.
          led_on all.version c.loop-at.session.version all.depth c.loop-at.session.depth stream h (length c.loop-at.links) c.args.queries (asks_left all.left) (talks_of c.args.links.now) (talks_of c.loop-at.links) (talks_of c.ask_at.new.links) (g.K.Sink.talk c.args.report.now) (g.K.Sink.talk c.loop-at.report) (g.K.Sink.talk c.ask_at.new.report) at.gone at.asked (Ok c.in_ok-at.at) i.version i.depth i.count (i.trail stream stand)
          (rw c.in_ok-at.was at (c.ask_at.ensures.leads stream (asks_left all.left) (talks_of c.args.links.now) (g.K.Sink.talk c.args.report.now) (i.stands stream stand)
          (rw i.count (next_asks all.left left c.args.queries at.asked at.gone h i.passed.0 i.asked c.requires.left i.passed.1 i.passed.2 i.gone more))
          (length-map c.args.links.now (λ l. l.kept.talk.items) ∙ sym i.count)));
      passed = (
        i.passed.0 + (early + 1),
        omega (arith, sum, further at.asked at.gone c.in_ok-at.at.asked c.in_ok-at.at.gone h c.requires.some nearer.2 nearer.3 nearer.4),
        next ∙ ap (λ (l : List (Query × List ℕ)). drop (early + 1) l) i.passed.2 ∙ drop-drop (early + 1) i.passed.0 (asks_left all.left),
      );
      stands = λ stream stand. keeps.stands stream (i.stands stream stand);
      version = keeps.version ∙ i.version;
      depth = keeps.depth ∙ i.depth;
      live = keeps.live;
      gone = nearer.0;
      asked = nearer.1;
      count = c.ask_at.ensures.count ∙ i.count;
      honest = all_tell _ (λ m. IsHonestTalk m.kept.talk.items) c.args.links.now c.loop-at.links
          c.ask_at.new.links at.gone c.ask_at.ensures.count i.honest i.sure
          c.ask_at.ensures.others c.ask_at.ensures.honest;
      sure = all_last _ c.args.links.now c.loop-at.links c.ask_at.new.links at.gone
          c.in_ok-at.at.gone c.ask_at.ensures.count nearer.4 i.sure
          (rw c.in_ok-at.was at c.ask_at.ensures.sure);
      dropped = all_before (λ m. m.helper ≡ None) c.args.links.now c.loop-at.links
          c.ask_at.new.links at.gone c.in_ok-at.at.gone c.ask_at.ensures.count
          (omega (arith, nearer.2, nearer.3)) i.dropped c.ask_at.ensures.others
          (rw c.in_ok-at.was at c.ask_at.ensures.dropped);
      report = search rules;
    }

pub returns-in_err-at-clause-trails : goal.returns-in_err-at-clause-trails
returns-in_err-at-clause-trails g c = λ stream stand.
    let i = c.loop-at.invariant in
    let all = c.args.session.now in
    let h = length c.args.links.now in
    let left = c.loop-at.session.left in
    let at = c.loop-at.at in
    let more : at.asked < c.args.queries = omega arith in
    let p = err_from_is_err_and c.from_residual.result c.from_residual.ensures.1 in
    rw (p.1, p.2)
    (led_on all.version c.loop-at.session.version all.depth c.loop-at.session.depth stream h (length c.loop-at.links) c.args.queries (asks_left all.left) (talks_of c.args.links.now) (talks_of c.loop-at.links) (talks_of c.ask_at.new.links) (g.K.Sink.talk c.args.report.now) (g.K.Sink.talk c.loop-at.report) (g.K.Sink.talk c.ask_at.new.report) at.gone at.asked (Err c.in_err-at.field-0.0) i.version i.depth i.count (i.trail stream stand)
    (rw c.in_err-at.was at (c.ask_at.ensures.leads stream (asks_left all.left) (talks_of c.args.links.now) (g.K.Sink.talk c.args.report.now) (i.stands stream stand)
    (rw i.count (next_asks all.left left c.args.queries at.asked at.gone h i.passed.0 i.asked c.requires.left i.passed.1 i.passed.2 i.gone more))
    (length-map c.args.links.now (λ l. l.kept.talk.items) ∙ sym i.count))))

pub returns-clause-trails : goal.returns-clause-trails
returns-clause-trails g c = λ stream stand.
    let i = c.loop-at.invariant in
    let all = c.args.session.now in
    let end : c.loop-at.at.asked ≡ c.args.queries = omega (arith, i.asked) in
    subst (λ (n : ℕ). TrailsTo all.version all.depth stream (length c.args.links.now) c.args.queries (asks_left all.left) (talks_of c.args.links.now) (talks_of c.loop-at.links) (g.K.Sink.talk c.args.report.now) (g.K.Sink.talk c.loop-at.report) (turn_at c.loop-at.at.gone n)) end (i.trail stream stand)

pub returns-in_err-at-clause-honest : goal.returns-in_err-at-clause-honest
returns-in_err-at-clause-honest g c =
    let i = c.loop-at.invariant in
    all_tell _ (λ m. IsHonestTalk m.kept.talk.items) c.args.links.now c.loop-at.links
    c.ask_at.new.links c.loop-at.at.gone c.ask_at.ensures.count i.honest i.sure
    c.ask_at.ensures.others c.ask_at.ensures.honest

pub returns-in_err-at-clause-keeps : goal.returns-in_err-at-clause-keeps
returns-in_err-at-clause-keeps g c =
    let i = c.loop-at.invariant in
    let p = err_from_is_err_and c.from_residual.result c.from_residual.ensures.1 in
    rw (p.1, p.2) (stopped_on _ _ _ i.stands i.version i.depth _ _ _ i.report.later c.in_err-at.field-0.0 (rw c.in_err-at.was at c.ask_at.ensures.keeps))

pub returns-clause-keeps : goal.returns-clause-keeps
returns-clause-keeps g c =
    let i = c.loop-at.invariant in
    record { stands = i.stands; version = i.version; depth = i.depth; live = i.live; fault = tt }

pub returns-in_err-at-clause-out : goal.returns-in_err-at-clause-out
returns-in_err-at-clause-out g c = λ query round reason is.
    let i = c.loop-at.invariant in
    let p = err_from_is_err_and c.from_residual.result c.from_residual.ensures.1 in
    let first = p.1 in
    let second = p.2 in
    let was = c.in_err-at.was in
    let other : c.ask_at.result ≡ Err (statuses.Rejected query round reason) = cc in
    let out = c.ask_at.ensures.out query round reason other in
    all_out (λ m. m.helper ≡ None) c.args.links.now c.ask_at.new.links (length c.loop-at.links) c.ask_at.ensures.count
    (all_before (λ m. m.helper ≡ None) c.args.links.now c.loop-at.links c.ask_at.new.links c.loop-at.at.gone (length c.loop-at.links)
    c.ask_at.ensures.count (omega (arith, out.0)) i.dropped c.ask_at.ensures.others
    (λ place l m was now same less. out.1 place l m was now same))
