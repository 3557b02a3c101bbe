-- One frame after another is sent.
use Rattle.std.proofs.Common.{◌<◌, ◌≤◌, ◌++◌, length, All, rules, refl, subst, arith}
use Rattle.std.proofs.lemmas.List.{take_at}
use Rattle.std.proofs.lemmas.List.Elements.{All-take}
use Rattle.std.proofs.lemmas.Result.{err_from_is_err_and}
use Rattle.sip_ports.proofs.FaultLemmas.{Lasts-trans, Lasts-of_HasCause}
use Rattle.sip_vector.specs.Vectors.{nonzero_within}
use Rattle.sip_subvec.proofs.HonestFrames.{IsRow, entries_fit}
use Rattle.sip_helper.proofs.EntryFrames.{goes_on, stops}
use Rattle.sip_helper.proofs.Hearing.{index_room}
use Rattle.sip_helper.proofs.Rows.{nonzero_rows}
use Rattle.sip_helper.proofs.entries.put_entries.Goals as goal

pub encode-requires : goal.encode-requires
encode-requires g c =
    let rows = c.next_rows-behind.new.rows.items in
    let more = nonzero_within c.next_rows-behind.result c.args.hi c.args.vector.now.numbers in
    let some : 0 < length rows = search rules in
    let most : length rows ≤ 512 = c.next_rows-behind.ensures.few in
    let room = index_room c.args.version c.args.vector.now.depth c.args.hi c.requires.deep c.requires.within in
    let all = nonzero_rows c.args.version c.loop-version.next c.args.hi c.args.vector.now.numbers room (omega (arith, c.weight-weight.ensures.light, c.weight-weight.ensures.most)) in
    entries_fit c.args.version rows some most
    (subst (All (IsRow c.args.version)) (take_at rows more (length rows) refl) (All-take (IsRow c.args.version) (length rows) (rows ++ more) (subst (All (IsRow c.args.version)) c.next_rows-behind.ensures.split all)))

pub returns-in_err-encode-clause-talk : goal.returns-in_err-encode-clause-talk
returns-in_err-encode-clause-talk g c =
    let rows = c.next_rows-behind.new.rows.items in
    let some : 0 < length rows = search rules in
    let most : length rows ≤ 512 = c.next_rows-behind.ensures.few in
    let p = err_from_is_err_and c.from_residual.result c.from_residual.ensures.1 in
    rw p.1 (stops _ _ _ _ _ _ _ _ c.loop-version.invariant.partly c.next_rows-behind.ensures.split some most c.next_rows-behind.ensures.last c.in_err-encode.field-0.0 p.0 c.in_err-encode.ensures.talk)

pub loop-version-preserved : goal.loop-version-preserved
loop-version-preserved g c =
    let rows = c.next_rows-behind.new.rows.items in
    let some : 0 < length rows = search rules in
    let most : length rows ≤ 512 = c.next_rows-behind.ensures.few in
    let faults = g.K.Sink.faults in
    let wants = g.K.Sink.wants in
    let is_sure = g.K.Sink.is_sure in
    record {
      partly = goes_on _ _ _ _ _ _ _ _ c.loop-version.invariant.partly c.next_rows-behind.ensures.split some most c.next_rows-behind.ensures.last c.in_ok-encode.ensures.talk;
      lasts = Lasts-trans faults wants is_sure c.args.out.now c.loop-version.out c.encode.new.sink c.loop-version.invariant.lasts (Lasts-of_HasCause faults wants is_sure c.loop-version.out c.encode.new.sink c.encode.result c.encode.ensures.cause);
    }
