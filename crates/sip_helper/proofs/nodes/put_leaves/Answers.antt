-- One frame after another is sent.
use Rattle.std.proofs.Common.{ℕ, ◌<◌, ◌≤◌, [], length, map, refl, rules, ap, arith}
use Rattle.std.proofs.lemmas.Result.{err_from_is_err_and}
use Rattle.sip_ports.proofs.FaultLemmas.{Lasts-refl, Lasts-trans, Lasts-of_HasCause}
use Rattle.sip_heavy.specs.Honest.{its_nodes, leaf_of}
use Rattle.sip_heavy.specs.Spots.{from_on}
use Rattle.sip_heavy.proofs.ShownWalks.{all_found}
use Rattle.sip_helper.proofs.Frames.{begins, ends, frame_fits, goes_on, stops}
use Rattle.sip_helper.proofs.ShownFrames.{leaves}
use Rattle.sip_helper.proofs.nodes.put_leaves.Goals as goal

pub loop-version-init : goal.loop-version-init
loop-version-init g c = record {
  partly = begins leaves 512 c.args.version (g.K.Sink.talk c.args.out.now) (map leaf_of (its_nodes c.args.prover.now)) _ (ap (map leaf_of) (all_found c.args.prover.now)) c.requires.fit;
  lasts = Lasts-refl g.K.Sink.faults g.K.Sink.wants g.K.Sink.is_sure c.args.out.now;
}

pub encode-requires : goal.encode-requires
encode-requires g c =
    let rows = c.next_rows-rows.result.0.items in
    let some : 0 < length rows = search rules in
    let most : length rows ≤ 512 = search rules in
    frame_fits leaves 512 c.args.version _ _ _ _ _ _ c.loop-version.invariant.partly c.next_rows-rows.ensures.split c.next_rows-rows.ensures.last some most

pub returns-in_err-encode-clause-talk : goal.returns-in_err-encode-clause-talk
returns-in_err-encode-clause-talk g c =
    let rows = c.next_rows-rows.result.0.items in
    let some : 0 < length rows = search rules in
    let most : length rows ≤ 512 = search rules in
    let p = err_from_is_err_and c.from_residual.result c.from_residual.ensures.1 in
    rw p.1 (stops leaves 512 c.args.version _ _ _ _ _ _ c.loop-version.invariant.partly c.next_rows-rows.ensures.split c.next_rows-rows.ensures.last some most _ c.in_err-encode.field-0.0 p.0 c.in_err-encode.ensures.talk)

pub loop-version-preserved : goal.loop-version-preserved
loop-version-preserved g c =
    let rows = c.next_rows-rows.result.0.items in
    let some : 0 < length rows = search rules in
    let most : length rows ≤ 512 = search rules in
    let faults = g.K.Sink.faults in
    let wants = g.K.Sink.wants in
    let is_sure = g.K.Sink.is_sure in
    record {
      partly = goes_on leaves 512 c.args.version _ _ _ _ _ _ c.loop-version.invariant.partly c.next_rows-rows.ensures.split c.next_rows-rows.ensures.last some most _ c.in_ok-encode.ensures.talk;
      lasts = Lasts-trans faults wants is_sure c.args.out.now c.loop-version.out c.encode.new.sink c.loop-version.invariant.lasts (Lasts-of_HasCause faults wants is_sure c.loop-version.out c.encode.new.sink c.encode.result c.encode.ensures.cause);
    }

-- a frame that is not full is the last one
pub returns-then-is_last-clause-talk : goal.returns-then-is_last-clause-talk
returns-then-is_last-clause-talk g c =
    let rows = c.next_rows-rows.result.0.items in
    let some : 0 < length rows = search rules in
    let short : length rows < 512 = search rules in
    let sent = goes_on leaves 512 c.args.version _ _ _ _ _ _ c.loop-version.invariant.partly c.next_rows-rows.ensures.split c.next_rows-rows.ensures.last some (omega (arith, short)) _ c.in_ok-encode.ensures.talk in
    ends leaves 512 c.args.version (g.K.Sink.talk c.args.out.now) (g.K.Sink.talk c.encode.new.sink) (map leaf_of (its_nodes c.args.prover.now)) (map leaf_of (from_on c.next_rows-rows.result.1 (its_nodes c.args.prover.now))) [] [] sent
    (c.next_rows-rows.ensures.last short) (λ _. refl) ℕ (omega arith) refl
