-- What holds at each exit of each helper follows from how far the stream was read, sent and added
-- to the seats.
use Rattle.std.proofs.Common.{List, Option, Ok, length, arith, All, ◌≡◌, ◌<◌, ◌≤◌, ◌^◌, ◌∙◌, ◌++◌, [], rules, ap, subst, sym, false}
use Rattle.std.proofs.lemmas.List.{length-map}
use Rattle.std.proofs.lemmas.List.Elements.{All-append, All-nil}
use Rattle.std.proofs.lemmas.Result.{err_from_is_err_and}
use Rattle.sip_stream.specs.Reading.{IsAfter}
use Rattle.sip_vector.specs.Limits.{most_depth}
use Rattle.sip_vector.specs.declared.update.Side.{Side}
use Rattle.sip_vector.specs.declared.update.Update.{Update}
use Rattle.sip_wire.specs.declared.version.Version.{Version}
use Rattle.sip_wire.specs.Table.{most_rows}
use Rattle.sip_wire.specs.Versions.{deepest, index_width}
use Rattle.sip_verifier.specs.Feeding.{Waiting}
use Rattle.sip_verifier.specs.QuerySeats.{HaveRoom}
use Rattle.sip_verifier.specs.Tasks.{version_of}
use Rattle.sip_verifier.proofs.FramesFit.{item_below, open_fits}
use Rattle.sip_verifier.proofs.Gathered.{IsFollowed, followed_many, followed_on, followed_one, followed_room, fair_items, weighed}
use Rattle.sip_verifier.proofs.SeatsHead.{depth-shallow}
use Rattle.sip_session.specs.Links.{talks_of}
use Rattle.sip_session.proofs.Heard.{heard_first, heard_more, link_listed, link_stops, on_end, part_after, part_at_end, part_first, reads_on, stream_stops}
use Rattle.sip_session.proofs.LinkLemmas.{links_then}
use Rattle.sip_session.proofs.Places.{within}
use Rattle.sip_session.proofs.hearing.follow_all.Goals as goal

pub open_all-requires : goal.open_all-requires
open_all-requires g c =
    let task = c.args.task.now in
    let most : task.depth ≤ most_depth =
    omega (arith, c.get-levels.ensures.same, c.get-levels.ensures.most) in
    let shallow = subst (λ (v : Version). task.depth ≤ deepest v) (sym c.version-version.ensures)
    (depth-shallow task.depth task.queries.items most) in
    open_fits c.version-version.result c.get-levels.result (omega arith)
    (omega (arith, shallow, c.get-levels.ensures.same))

pub returns-in_err-on_link-clause-hears : goal.returns-in_err-on_link-clause-hears
returns-in_err-on_link-clause-hears g c = λ bytes at_blocks all has.
    let task = c.args.task.now in
    let p = err_from_is_err_and c.from_residual.result c.from_residual.ensures.1 in
    let (port, stop, is) = c.in_err-on_link.ensures in
    let deep : c.get-levels.result ≡ task.depth = omega (arith, c.get-levels.ensures.same) in
    let said = rw (stop, c.version-version.ensures, deep) at c.open_all.ensures.talks in
    rw (p.1, p.2, is) (λ k less. link_stops task bytes at_blocks (g.A.Source.left c.args.first.now)
    c.args.seats.now _ _ c.open_all.result port stop c.open_all.ensures.cause
    (part_first task bytes _ _ at_blocks has _ port (said k less)))

pub loop-update-init : goal.loop-update-init
loop-update-init g c =
    let task = c.args.task.now in
    let deep : c.get-levels.result ≡ task.depth = omega (arith, c.get-levels.ensures.same) in
    let none : c.new_in-feed.result.now.waiting ≡ [] = ap (λ (w : Waiting). w.waiting) c.new_in-feed.ensures
    in
    let few : length c.new_in-feed.result.now.waiting < most_rows = omega (arith, ap length none) in
    record {
      underway = λ bytes at_blocks all has.
          let said = rw (c.in_ok-on_link.ensures, c.version-version.ensures, deep)
          at c.open_all.ensures.talks in
          λ k less. heard_first task bytes _ _ at_blocks has _ _ _ c.new_in-feed.result.now.waiting all
          c.new-reader.ensures.after none (said k less);
      count = c.open_all.ensures.count;
      sure = c.open_all.ensures.sure;
      version = ap (λ (w : Waiting). w.version) c.new_in-feed.ensures ∙ c.version-version.ensures;
      few = few;
      items = subst (All (λ (u : Update). u.item < 2 ^ task.depth)) (sym none)
          (All-nil (λ (u : Update). u.item < 2 ^ task.depth));
      seats = record {
        sent = [];
        after = subst (IsAfter c.new-reader.result) (sym none) c.new-reader.ensures.after;
        stand = c.requires;
      };
      levels = c.requires.stand.levels;
      depth = search rules;
      form = search rules;
      ready = search rules;
      told = search rules;
      first = search rules;
    }

pub returns-in_err-update-clause-hears : goal.returns-in_err-update-clause-hears
returns-in_err-update-clause-hears g c = λ bytes at_blocks all has.
    let p = err_from_is_err_and c.from_residual-in_err-update.result
    c.from_residual-in_err-update.ensures.1 in
    let (fault, stop, is) = c.in_err-update.ensures in
    rw (p.1, p.2, is) (λ k less.
    let so = c.loop-update.invariant.underway bytes at_blocks all has k less in
    let reads = reads_on c.args.task.now bytes at_blocks _ (g.A.Source.left c.next.new.source) _ _ _ _ _ so _ _
    c.loop-update.invariant.depth c.loop-update.invariant.form
    stop c.next.ensures.reads in
    stream_stops c.args.task.now bytes _ _ at_blocks has _ _ _ _ _ c.loop-update.seats _ fault so
    reads)

pub pass_on_all-requires-clause-fits : goal.pass_on_all-requires-clause-fits
pass_on_all-requires-clause-fits g c =
    let task = c.args.task.now in
    let most : task.depth ≤ most_depth = search rules in
    let item : c.in-Some.update.item < 2 ^ task.depth = search rules in
    let small = item_below (version_of task) task.depth c.in-Some.update.item
    (depth-shallow task.depth task.queries.items most) item in
    subst (λ (v : Version). c.in-Some.update.item < 256 ^ index_width v)
    (sym c.loop-update.invariant.version) small

pub pass_on_all-requires-clause-room : goal.pass_on_all-requires-clause-room
pass_on_all-requires-clause-room g c =
    let had = c.loop-update.invariant.seats in
    let after = rw (c.in_ok-update.ensures, c.in-Some.is) at (c.next.ensures.after
    (had.sent ++ c.loop-update.feed.waiting) had.after) in
    let depth : c.next.new.self.depth ≡ c.args.task.now.depth = search rules in
    followed_room c.args.task.now c.next.new.self c.loop-update.seats _
    (followed_one c.args.task.now c.loop-update.reader c.next.new.self c.loop-update.seats
    c.loop-update.feed.waiting c.in-Some.update had after) depth

pub take_held-requires-clause-shallow : goal.take_held-requires-clause-shallow
take_held-requires-clause-shallow g c =
    let task = c.args.task.now in
    let most : task.depth ≤ most_depth = search rules in
    let version : c.pass_on_all.new.feed.version ≡ version_of task = c.pass_on_all.ensures.version
    ∙ c.loop-update.invariant.version in
    let depth : c.next.new.self.depth ≡ task.depth = c.next.ensures.depth
    ∙ c.loop-update.invariant.depth in
    subst (λ (v : Version). c.next.new.self.depth ≤ deepest v) (sym version)
    (subst (λ n. n ≤ deepest (version_of task)) (sym depth)
    (depth-shallow task.depth task.queries.items most))

pub loop-update-smaller : goal.loop-update-smaller
loop-update-smaller g c =
    let nearer = rw (c.in_ok-update.ensures, c.in-Some.is) at c.next.ensures.nearer in
    omega (arith, c.take_held.ensures.took.3.nearer, nearer)

pub loop-update-preserved : goal.loop-update-preserved
loop-update-preserved g c =
    let task = c.args.task.now in
    let took = c.take_held.ensures.took in
    let depth : c.next.new.self.depth ≡ task.depth = c.next.ensures.depth
    ∙ c.loop-update.invariant.depth in
    let form : c.next.new.self.form ≡ task.form = c.next.ensures.form
    ∙ c.loop-update.invariant.form in
    let passed : All (λ (u : Update). u.item < 2 ^ task.depth) c.pass_on_all.new.feed.waiting =
    subst (λ n. All (λ (u : Update). u.item < 2 ^ n) c.pass_on_all.new.feed.waiting)
    c.loop-update.invariant.levels (rw c.in_ok-on_link-2.ensures at c.pass_on_all.ensures.items)
    in
    let more : All (λ (u : Update). u.item < 2 ^ task.depth) took.0 =
    subst (λ n. All (λ (u : Update). u.item < 2 ^ n) took.0) depth
    (fair_items c.next.new.self.depth took.0 took.3.fair) in
    let ready : c.next.new.self.is_spent ≡ false = search rules in
    let waiting = rw c.in_ok-on_link-2.ensures at c.pass_on_all.ensures.waiting in
    record {
      underway = λ bytes at_blocks all has.
          let said = rw (
            c.in_ok-on_link-2.ensures,
            c.loop-update.invariant.version,
          ) at c.pass_on_all.ensures.talks in
          λ k less.
          let so = c.loop-update.invariant.underway bytes at_blocks all has k less in
          let reads = reads_on c.args.task.now bytes at_blocks _ (g.A.Source.left c.next.new.source) _ _ _ _ _ so _ _
          c.loop-update.invariant.depth c.loop-update.invariant.form
          (c.in_ok-update.ensures ∙ ap (λ (n : Option Update). Ok n) c.in-Some.is) c.next.ensures.reads in
          let after = rw (c.in_ok-update.ensures, c.in-Some.is) at (c.next.ensures.after so.stream
          so.after) in
          heard_more task bytes _ _ at_blocks has _ _ _ _ _ _ _ _ _ _ _ _ _ _ c.in-Some.update _ so
          reads after (said k (within (λ x. x.kept.talk.items) c.args.links.now
          c.loop-update.links k c.loop-update.invariant.count less))
          (c.pass_on_all.ensures.stands _ _ _ so.said.sent so.stand) waiting depth form took.3
          took.4 took.2 c.take_held.ensures.few;
      count = c.pass_on_all.ensures.count ∙ c.loop-update.invariant.count;
      sure = links_then _ _ _ c.args.links.now c.loop-update.links c.pass_on_all.new.links
          c.pass_on_all.ensures.count (λ place l m n p q k. q (p k))
          c.loop-update.invariant.sure c.pass_on_all.ensures.sure;
      version = c.take_held.ensures.version ∙ c.pass_on_all.ensures.version
          ∙ c.loop-update.invariant.version;
      few = c.take_held.ensures.few;
      items = subst (All (λ (u : Update). u.item < 2 ^ task.depth)) (sym took.2)
          (All-append (λ (u : Update). u.item < 2 ^ task.depth) c.pass_on_all.new.feed.waiting
          took.0 passed more);
      seats = (let had = c.loop-update.invariant.seats in
          let after = rw (c.in_ok-update.ensures, c.in-Some.is) at (c.next.ensures.after
          (had.sent ++ c.loop-update.feed.waiting) had.after) in
          let on = subst (IsFollowed c.args.task.now c.next.new.self c.pass_on_all.new.seats)
          (sym waiting)
          (followed_on c.args.task.now c.loop-update.reader c.next.new.self c.loop-update.seats
          c.pass_on_all.new.seats c.loop-update.feed.waiting c.in-Some.update had after
          (c.pass_on_all.ensures.stands _ _ _ had.sent had.stand.stand)) in
          followed_many c.args.task.now c.next.new.self _ c.pass_on_all.new.seats
          c.pass_on_all.new.feed.waiting _ took.0 took.1 on took.3 took.2);
      levels = c.pass_on_all.ensures.depth ∙ c.loop-update.invariant.levels;
      depth = took.3.depth ∙ depth;
      form = took.3.form ∙ form;
      ready = took.3.spent ∙ ready;
      told = search rules;
      first = search rules;
    }

pub returns-in_err-on_link-2-clause-hears : goal.returns-in_err-on_link-2-clause-hears
returns-in_err-on_link-2-clause-hears g c = λ bytes at_blocks all has.
    let p = err_from_is_err_and c.from_residual-in_err-on_link-2.result
    c.from_residual-in_err-on_link-2.ensures.1 in
    let (port, stop, is) = c.in_err-on_link-2.ensures in
    let said = rw (stop, c.loop-update.invariant.version) at c.pass_on_all.ensures.talks in
    rw (p.1, p.2, is) (λ k less.
    let so = c.loop-update.invariant.underway bytes at_blocks all has k less in
    let reads = reads_on c.args.task.now bytes at_blocks _ (g.A.Source.left c.next.new.source) _ _ _ _ _ so _ _
    c.loop-update.invariant.depth c.loop-update.invariant.form
    (c.in_ok-update.ensures ∙ ap (λ (n : Option Update). Ok n) c.in-Some.is) c.next.ensures.reads in
    link_stops c.args.task.now bytes at_blocks (g.A.Source.left c.next.new.source)
    c.pass_on_all.new.seats _ _ c.pass_on_all.result port stop c.pass_on_all.ensures.cause
    (part_after c.args.task.now bytes _ _ at_blocks has _ _ _ _ _ _ _ so c.in-Some.update port reads
    (said k (within (λ x. x.kept.talk.items) c.args.links.now c.loop-update.links k
    c.loop-update.invariant.count less))))

pub update_all-requires-clause-room : goal.update_all-requires-clause-room
update_all-requires-clause-room g c =
    subst (λ (l : List Update). (side : Side)
    → HaveRoom c.loop-update.seats.seats l side) (sym c.waiting.ensures)
    (followed_room c.args.task.now c.loop-update.reader c.loop-update.seats
    c.loop-update.feed.waiting c.loop-update.invariant.seats c.loop-update.invariant.depth)

pub returns-clause-hears : goal.returns-clause-hears
returns-clause-hears g c = λ bytes at_blocks all has.
    let said = rw (c.version-version.ensures, c.in_ok-on_link-3.ensures)
    at c.finish_all.ensures.talks in
    λ k less.
    let so = c.loop-update.invariant.underway bytes at_blocks all has k less in
    let reads = reads_on c.args.task.now bytes at_blocks _ (g.A.Source.left c.next.new.source) _ _ _ _ _ so _ _
    c.loop-update.invariant.depth c.loop-update.invariant.form
    (c.in_ok-update.ensures ∙ ap (λ (n : Option Update). Ok n) c.in_default.is) c.next.ensures.reads in
    let stand = rw c.waiting.ensures at (c.update_all.ensures.stands _ _ _ so.said.sent so.stand) in
    on_end c.args.task.now bytes _ _ at_blocks has _ _ _ _ _ _ _ so _ reads
    (said k (within (λ x. x.kept.talk.items) c.args.links.now c.loop-update.links k
    c.loop-update.invariant.count less)) stand

pub returns-in_err-on_link-3-clause-hears : goal.returns-in_err-on_link-3-clause-hears
returns-in_err-on_link-3-clause-hears g c = λ bytes at_blocks all has.
    let p = err_from_is_err_and c.from_residual-in_err-on_link-3.result
    c.from_residual-in_err-on_link-3.ensures.1 in
    let (port, stop, is) = c.in_err-on_link-3.ensures in
    let said = rw (c.version-version.ensures, stop) at c.finish_all.ensures.talks in
    rw (p.1, p.2, is) (λ k less.
    let so = c.loop-update.invariant.underway bytes at_blocks all has k less in
    let reads = reads_on c.args.task.now bytes at_blocks _ (g.A.Source.left c.next.new.source) _ _ _ _ _ so _ _
    c.loop-update.invariant.depth c.loop-update.invariant.form
    (c.in_ok-update.ensures ∙ ap (λ (n : Option Update). Ok n) c.in_default.is) c.next.ensures.reads in
    let stand = rw c.waiting.ensures at (c.update_all.ensures.stands _ _ _ so.said.sent so.stand) in
    link_stops c.args.task.now bytes at_blocks (g.A.Source.left c.next.new.source)
    c.update_all.new.self _ _ c.finish_all.result port stop c.finish_all.ensures.cause
    (part_at_end c.args.task.now bytes _ _ at_blocks has _ _ _ _ _ _ _ so c.update_all.new.self
    port reads (said k (within (λ x. x.kept.talk.items) c.args.links.now c.loop-update.links k
    c.loop-update.invariant.count less)) stand))

pub returns-clause-seats : goal.returns-clause-seats
returns-clause-seats g c =
    let had = c.loop-update.invariant.seats in (
      had.sent ++ c.waiting.result.now,
      record {
        at_blocks = had.stand.at_blocks;
        stand = c.update_all.ensures.stands _ _ _ had.sent had.stand.stand;
      },
    )

pub returns-clause-weights : goal.returns-clause-weights
returns-clause-weights g c = λ some bytes all.
    let at = c.requires.at_blocks in
    let has = c.requires.stand in
    let heard : 0 < length (talks_of c.args.links.now) =
    omega (arith, length-map c.args.links.now (λ l. l.kept.talk.items), some) in
    let so = c.loop-update.invariant.underway bytes at all has 0 heard in
    let reads = reads_on c.args.task.now bytes at _ (g.A.Source.left c.next.new.source) _ _ _ _ _ so _ _
    c.loop-update.invariant.depth c.loop-update.invariant.form
    (c.in_ok-update.ensures ∙ ap (λ (n : Option Update). Ok n) c.in_default.is) c.next.ensures.reads in
    let after = rw (c.in_ok-update.ensures, c.in_default.is) at (c.next.ensures.after so.stream
    so.after) in
    weighed c.args.task.now bytes _ _ at has _ _ _ _ _ _ so reads c.next.new.self after _
    c.weight.ensures.same c.weight-2.ensures.same

pub returns-in_err-on_link-clause-fault : goal.returns-in_err-on_link-clause-fault
returns-in_err-on_link-clause-fault g c =
    let p = err_from_is_err_and c.from_residual.result c.from_residual.ensures.1 in
    let (port, stop, is) = c.in_err-on_link.ensures in
    rw (p.1, p.2, is) (link_listed _ _ c.open_all.result port stop c.open_all.ensures.cause)

pub returns-in_err-on_link-2-clause-fault : goal.returns-in_err-on_link-2-clause-fault
returns-in_err-on_link-2-clause-fault g c =
    let p = err_from_is_err_and c.from_residual-in_err-on_link-2.result
    c.from_residual-in_err-on_link-2.ensures.1 in
    let (port, stop, is) = c.in_err-on_link-2.ensures in
    rw (p.1, p.2, is) (link_listed _ _ c.pass_on_all.result port stop c.pass_on_all.ensures.cause)

pub returns-in_err-on_link-3-clause-fault : goal.returns-in_err-on_link-3-clause-fault
returns-in_err-on_link-3-clause-fault g c =
    let p = err_from_is_err_and c.from_residual-in_err-on_link-3.result
    c.from_residual-in_err-on_link-3.ensures.1 in
    let (port, stop, is) = c.in_err-on_link-3.ensures in
    rw (p.1, p.2, is) (link_listed _ _ c.finish_all.result port stop c.finish_all.ensures.cause)

pub returns-in_err-on_link-2-clause-sure : goal.returns-in_err-on_link-2-clause-sure
returns-in_err-on_link-2-clause-sure g c =
    links_then _ _ _ c.args.links.now c.loop-update.links c.pass_on_all.new.links
    c.pass_on_all.ensures.count (λ place l m n p q k. q (p k)) c.loop-update.invariant.sure
    c.pass_on_all.ensures.sure

pub returns-clause-sure : goal.returns-clause-sure
returns-clause-sure g c =
    links_then _ _ _ c.args.links.now c.loop-update.links c.finish_all.new.links
    c.finish_all.ensures.count (λ place l m n p q k. q (p k)) c.loop-update.invariant.sure
    c.finish_all.ensures.sure

pub returns-in_err-on_link-3-clause-sure : goal.returns-in_err-on_link-3-clause-sure
returns-in_err-on_link-3-clause-sure g c =
    links_then _ _ _ c.args.links.now c.loop-update.links c.finish_all.new.links
    c.finish_all.ensures.count (λ place l m n p q k. q (p k)) c.loop-update.invariant.sure
    c.finish_all.ensures.sure

pub returns-in_err-on_link-clause-sure : goal.returns-in_err-on_link-clause-sure
returns-in_err-on_link-clause-sure g c = c.open_all.ensures.sure

pub returns-in_err-update-clause-sure : goal.returns-in_err-update-clause-sure
returns-in_err-update-clause-sure g c = c.loop-update.invariant.sure
