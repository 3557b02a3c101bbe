use Rattle.std.proofs.Common.{◌≡◌, ◌+◌, ◌++◌, ◌∷◌, [], ◌∙◌, arith, ap, sym, length, take, drop, slice_set}
use Rattle.std.specs.List.{flat_map, refill}
use Rattle.std.proofs.lemmas.List.{length-set, take_all, take_at, take_more_set}
use Rattle.std.proofs.lemmas.List.Elements.{All-push, All-same}
use Rattle.sip_wire.proofs.Repeated.{none_from, has_row, goes_on_to, stops, all_said, all_held}
use Rattle.sip_wire.proofs.rows.fill_rows.Goals as goal

pub take-requires : goal.take-requires
take-requires g c = has_row g.T.Row.said (g.T.Row.layout c.args.version) c.args.count c.args.bytes.now c.loop-index.index (take c.loop-index.index c.loop-index.rows.items) c.loop-index.rest.now c.loop-index.invariant.so_far (omega arith)

pub returns-clause-said : goal.returns-clause-said
returns-clause-said g c =
    let items = c.loop-index.rows.items in
    let index = c.loop-index.index in
    let whole : take index items ≡ items = take_all index items (omega (arith, c.loop-index.invariant.len, c.loop-index-test.false)) in
    ap (flat_map g.T.Row.said) (sym whole) ∙ all_said g.T.Row.said (g.T.Row.layout c.args.version) c.args.count c.args.bytes.now index (take index items) c.loop-index.rest.now c.loop-index.invariant.so_far (omega arith)

pub returns-clause-in_range : goal.returns-clause-in_range
returns-clause-in_range g c =
    let items = c.loop-index.rows.items in
    let index = c.loop-index.index in
    All-same g.T.Row.in_range items (take index items) (sym (take_all index items (omega (arith, c.loop-index.invariant.len, c.loop-index-test.false)))) c.loop-index.invariant.in_range

pub returns-clause-some : goal.returns-clause-some
returns-clause-some g c = all_held g.T.Row.said (g.T.Row.layout c.args.version) c.args.count c.args.bytes.now c.loop-index.index (take c.loop-index.index c.loop-index.rows.items) c.loop-index.rest.now c.loop-index.invariant.so_far (omega arith)

pub returns-in_err-row-clause-none : goal.returns-in_err-row-clause-none
returns-in_err-row-clause-none g c =
    none_from _ (stops g.T.Row.said (g.T.Row.layout c.args.version) c.args.count c.args.bytes.now c.loop-index.index (take c.loop-index.index c.loop-index.rows.items) c.loop-index.rest.now c.loop-index.invariant.so_far (omega arith) c.in_err-row.ensures.none)

pub loop-index-preserved : goal.loop-index-preserved
loop-index-preserved g c =
    let items = c.loop-index.rows.items in
    let index = c.loop-index.index in
    let row = c.in_ok-row.row in
    let lent = c.as_mut_slice.result.now in
    let value : lent ≡ items = c.as_mut_slice.ensures.value in
    let long : length (slice_set lent index row) ≡ length items = length-set lent index row ∙ ap length value in
    let written : refill (length items) items (slice_set lent index row) ≡ slice_set items index row =
    take_at (slice_set lent index row) (drop (length (slice_set lent index row)) items) (length items) long ∙ ap (λ l. slice_set l index row) value in
    let more : take (index + 1) (refill (length items) items (slice_set lent index row)) ≡ take index items ++ row ∷ [] =
    ap (take (index + 1)) written ∙ take_more_set items index row (omega (arith, c.loop-index.invariant.len, c.loop-index-test.true)) in
    record {
      so_far = goes_on_to g.T.Row.said (g.T.Row.layout c.args.version) c.args.count c.args.bytes.now index (take index items) c.loop-index.rest.now row c.in_ok-row.after.now (take (index + 1) (refill (length items) items (slice_set lent index row))) c.loop-index.invariant.so_far (omega arith) c.in_ok-row.ensures.said c.in_ok-row.ensures.rest c.in_ok-row.ensures.some more;
      in_range = All-same g.T.Row.in_range (take (index + 1) (refill (length items) items (slice_set lent index row))) (take index items ++ row ∷ []) more (All-push g.T.Row.in_range (take index items) row c.loop-index.invariant.in_range c.in_ok-row.ensures.in_range);
      len = ap length written ∙ length-set items index row ∙ c.loop-index.invariant.len;
    }
