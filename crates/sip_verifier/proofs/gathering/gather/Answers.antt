-- Where it stopped: at the draw, at the head of the transcript, at the stream, or behind all.
use Rattle.std.proofs.Common.{◌≡◌, ◌⊎◌, ℕ, List, Some, Err, Result, refl, sym, ap, subst, inl, inr, ◌∙◌}
use Rattle.sip_verifier.specs.declared.status.Status.{Status}
use Rattle.sip_verifier.specs.declared.status.Status.TheVariants as statuses
use Rattle.sip_verifier.specs.declared.task.Task.{Task}
use Rattle.sip_verifier.specs.declared.weights.Weights.{Weights}
use Rattle.sip_verifier.specs.Draws.{blocks}
use Rattle.sip_verifier.specs.GatherClause.{GatherClause}
use Rattle.sip_verifier.specs.inside.Drawing.{HasDrawn}
use Rattle.sip_verifier.specs.Seats.{Seating}
use Rattle.sip_verifier.specs.Snapshots.{Counts, Snapshot}
use Rattle.sip_verifier.specs.Weights.{none}
use Rattle.sip_verifier.proofs.Gathered.{gathered, refuses, undrawn}
use Rattle.sip_verifier.proofs.KeptHead.{following_gathers, head_followed, head_kept, head_stopped, keep_stops, keep_wanted, undrawn_head, unheaded}
use Rattle.sip_verifier.proofs.gathering.gather.Goals as goal

-- the first port or the third wanted memory, of four
wanted_of : {A B C D : Type 0} → A ⊎ C → A ⊎ B ⊎ C ⊎ D
wanted_of (inl a) = inl a
wanted_of (inr c) = inr (inr (inl c))

-- what is left where it stopped
stopped_so : {task : Task} {before now : Snapshot} {wants wanted : Counts} {place left : Result Seating Status} {given weights : Weights}
    → place ≡ left → given ≡ weights → GatherClause task before now wants wanted left weights → GatherClause task before now wants wanted place given
stopped_so {task = task} {before = before} {now = now} {wants = wants} {wanted = wanted} {left = left} {given = given} is also keeps =
    subst (λ l. GatherClause task before now wants wanted l given) (sym is) (subst (GatherClause task before now wants wanted left) (sym also) keeps)

pub returns-in-Err-clause-keeps : goal.returns-in-Err-clause-keeps
returns-in-Err-clause-keeps g c = λ report reports.
    let task = c.args.task.now in
    let status = c.in-Err.status in
    stopped_so c.stopped.ensures.place c.stopped.ensures.weights (record {
      gathers = λ bytes seed all told. undrawn task bytes seed (g.L.Sink.talk c.args.peer.now) status (c.in-Err.ensures.draws seed told);
      kept = λ seed told. undrawn_head task seed (g.C.Sink.talk c.args.keep.now) status (c.in-Err.ensures.draws seed told);
      seated = tt;
      weights = λ bytes all. tt;
      unweighed = refl;
      fault = c.in-Err.ensures.fault _ _ _ _ _ _ _ _;
      memory = λ is. inr (inl (c.in-Err.ensures.memory is));
      told = λ is. is;
      also_told = c.in-Err.ensures.told;
      seed = c.in-Err.ensures.seed;
    })

pub returns-in-Err-gathered-clause-keeps : goal.returns-in-Err-gathered-clause-keeps
returns-in-Err-gathered-clause-keeps g c = λ report reports.
    let task = c.args.task.now in
    let was = c.in-Err-gathered.is in
    let zeros = c.default.ensures in
    let same : c.default.result ≡ none = ap (λ n. record c.default.result { first = n }) zeros.0 ∙ ap (λ n. record none { second = n }) zeros.1 in
    stopped_so was same (record {
      gathers = λ bytes seed all told. undrawn task bytes seed (g.L.Sink.talk c.args.peer.now) _ (rw was at c.in-Ok.ensures.draws seed told);
      kept = λ seed told. undrawn_head task seed (g.C.Sink.talk c.args.keep.now) _ (rw was at c.in-Ok.ensures.draws seed told);
      seated = tt;
      weights = λ bytes all. tt;
      unweighed = refl;
      fault = rw was at c.in-Ok.ensures.fault _ _ _ _ _ _ _ _;
      memory = λ is. inr (inl (c.in-Ok.ensures.memory (was ∙ is)));
      told = λ is. is;
      also_told = c.in-Ok.ensures.told;
      seed = c.in-Ok.ensures.seed;
    })

pub returns-in-Err-on_keep-clause-keeps : goal.returns-in-Err-on_keep-clause-keeps
returns-in-Err-on_keep-clause-keeps g c = λ report reports.
    let task = c.args.task.now in
    let seats = c.keep.new.seats in
    let (port, stop, is) = c.in-Err-on_keep.ensures in
    stopped_so c.stopped-in-Err-on_keep.ensures.place c.stopped-in-Err-on_keep.ensures.weights (record {
      gathers = λ bytes seed all told.
          let has = subst (HasDrawn task seed) (sym c.keep.ensures) (rw c.in-Ok-gathered.is at c.in-Ok.ensures.draws seed told) in
          rw is (unheaded task bytes seed seats (g.L.Sink.talk c.args.peer.now) port has);
      kept = λ seed told.
          let has = subst (HasDrawn task seed) (sym c.keep.ensures) (rw c.in-Ok-gathered.is at c.in-Ok.ensures.draws seed told) in
          head_stopped task seed seats _ _ has c.put_transcript_head.result port _ c.put_transcript_head.ensures.talk stop is;
      seated = tt;
      weights = λ bytes all. tt;
      unweighed = refl;
      fault = rw is (keep_stops _ _ port (λ failed. c.put_transcript_head.ensures.cause.failed (stop ∙ ap Err failed)));
      memory = rw is (keep_wanted _ port refl (λ wanted. inr (inr (inr (c.put_transcript_head.ensures.cause.wanted (stop ∙ ap Err wanted))))));
      told = λ is. is;
      also_told = c.in-Ok.ensures.told;
      seed = c.in-Ok.ensures.seed;
    })

pub returns-in-Err-follow-clause-keeps : goal.returns-in-Err-follow-clause-keeps
returns-in-Err-follow-clause-keeps g c = λ report reports.
    let task = c.args.task.now in
    let seats = c.keep.new.seats in
    let status = c.in-Err-follow.status in
    let e = c.in-Err-follow.ensures in
    let stops = e.fault _ _ _ _ _ _ in
    let drawn : (seed : List ℕ) → g.B.Source.left c.args.second.now ≡ Some seed → HasDrawn task seed seats =
    λ seed told. subst (HasDrawn task seed) (sym c.keep.ensures) (rw c.in-Ok-gathered.is at c.in-Ok.ensures.draws seed told) in
    stopped_so c.stopped-in-Err-follow.ensures.place c.stopped-in-Err-follow.ensures.weights (record {
      gathers = λ bytes seed all told.
          let has = drawn seed told in
          refuses task bytes seed seats has _ _ status (e.passes_on bytes (blocks task has.challenges) all has.stand);
      kept = λ seed told.
          let has = drawn seed told in
          head_followed task seed seats _ _ has status (head_kept task seed seats _ _ has (rw c.in-Ok-on_keep.ensures at c.put_transcript_head.ensures.talk)) stops.0;
      seated = tt;
      weights = λ bytes all. tt;
      unweighed = refl;
      fault = (following_gathers status stops.0, stops.1);
      memory = λ is. let same : status ≡ statuses.OutOfMemory = cc in wanted_of (e.memory (ap Err same));
      told = c.follow.ensures.told;
      also_told = c.in-Ok.ensures.told;
      seed = c.in-Ok.ensures.seed;
    })

pub returns-in-Ok-follow-clause-keeps : goal.returns-in-Ok-follow-clause-keeps
returns-in-Ok-follow-clause-keeps g c = λ report reports.
    let task = c.args.task.now in
    let seats = c.keep.new.seats in
    let e = c.in-Ok-follow.ensures in
    let drawn : (seed : List ℕ) → g.B.Source.left c.args.second.now ≡ Some seed → HasDrawn task seed seats =
    λ seed told. subst (HasDrawn task seed) (sym c.keep.ensures) (rw c.in-Ok-gathered.is at c.in-Ok.ensures.draws seed told) in
    let stand = e.seats.1.stand in
    record {
      gathers = λ bytes seed all told.
          let has = drawn seed told in
          gathered task bytes seed seats has (e.passes_on bytes (blocks task has.challenges) all has.stand);
      kept = λ seed told. head_kept task seed seats _ _ (drawn seed told) (rw c.in-Ok-on_keep.ensures at c.put_transcript_head.ensures.talk);
      seated = (stand.levels, stand.asked);
      weights = λ bytes all. e.weights bytes all;
      unweighed = tt;
      fault = tt;
      memory = λ is. absurd cc;
      told = c.follow.ensures.told;
      also_told = c.in-Ok.ensures.told;
      seed = c.in-Ok.ensures.seed;
    }
