-- What holds at each exit follows from how far the stream was read, sent and added to the seats.
use Rattle.std.proofs.Common.{List, length, arith, All, ◌≡◌, ◌<◌, ◌≤◌, ◌^◌, ◌∙◌, ◌++◌, [], rules, ap, subst, sym, false}
use Rattle.std.proofs.lemmas.List.Elements.{All-append, All-nil}
use Rattle.std.proofs.lemmas.Result.{err_from_is_err_and}
use Rattle.sip_wire.specs.Table.{most_rows}
use Rattle.sip_verifier.specs.inside.Sending.{IsSentBut}
use Rattle.sip_verifier.specs.Tasks.{version_of}
use Rattle.sip_vector.specs.Limits.{most_depth}
use Rattle.sip_stream.specs.Reading.{IsAfter}
use Rattle.sip_vector.specs.declared.update.Side.{Side}
use Rattle.sip_vector.specs.declared.update.Update.{Update}
use Rattle.sip_wire.specs.declared.version.Version.{Version}
use Rattle.sip_wire.specs.Versions.{deepest, index_width}
use Rattle.sip_verifier.specs.Feeding.{Waiting}
use Rattle.sip_verifier.proofs.FramesFit.{item_below}
use Rattle.sip_verifier.proofs.SeatsHead.{depth-shallow}
use Rattle.sip_verifier.specs.QuerySeats.{HaveRoom}
use Rattle.sip_verifier.specs.Seats.{AreSeats}
use Rattle.sip_verifier.proofs.Gathered.{IsFollowed, followed_many, followed_on, followed_one, followed_room, IsUnderway, begins, fair_items, goes_on, goes_on_many, stops_first, stops_after, stops_at_end, passed_on, link_stops, reading_stops, weighed}
use Rattle.sip_verifier.proofs.StreamSending.{opened, stopped_in_opening, one_more, at_end}
use Rattle.sip_verifier.proofs.gathering.follow.Goals as goal

pub begin-requires-clause-shallow : goal.begin-requires-clause-shallow
begin-requires-clause-shallow g c =
    let task = c.args.task.now in
    let most : task.depth ≤ most_depth = omega (arith, c.get-levels.ensures.same, c.get-levels.ensures.most) in
    let own : c.new_in-feed.result.now.version ≡ version_of task = ap (λ (w : Waiting). w.version) c.new_in-feed.ensures ∙ c.version.ensures in
    subst (λ (v : Version). task.depth ≤ deepest v) (sym own) (depth-shallow task.depth task.queries.items most)

pub returns-in_err-on_link-clause-passes_on : goal.returns-in_err-on_link-clause-passes_on
returns-in_err-on_link-clause-passes_on g c = λ bytes at_blocks all has.
    let p = err_from_is_err_and c.from_residual.result c.from_residual.ensures.1 in
    let (port, stop, is) = c.in_err-on_link.ensures in
    let own : c.new_in-feed.result.now.version ≡ version_of c.args.task.now = ap (λ (w : Waiting). w.version) c.new_in-feed.ensures ∙ c.version.ensures in
    let said = rw (stop, own) at c.begin.ensures.talk in
    rw (p.1, p.2, is) (link_stops _ bytes _ _ at_blocks has _ port (stops_first _ bytes _ _ at_blocks has _ (stopped_in_opening (version_of c.args.task.now) _ _ _ said.0 said.2)))

pub loop-update-init : goal.loop-update-init
loop-update-init g c =
    let task = c.args.task.now in
    let own : c.new_in-feed.result.now.version ≡ version_of task = ap (λ (w : Waiting). w.version) c.new_in-feed.ensures ∙ c.version.ensures in
    let none : c.begin.new.self.waiting ≡ [] = c.begin.ensures.waiting ∙ ap (λ (w : Waiting). w.waiting) c.new_in-feed.ensures in
    let few : length c.begin.new.self.waiting < most_rows = omega (arith, ap length none) in
    record {
      underway = λ bytes at_blocks all has.
          let opening = opened (version_of task) task.depth _ _ (rw (c.in_ok-on_link.ensures, own) at c.begin.ensures.talk) in
          begins task bytes _ _ at_blocks has _ _ _ c.begin.new.self.waiting all c.new-reader.ensures.after (subst (IsSentBut (version_of task) task.depth _ _ []) (sym none) opening);
      version = c.begin.ensures.version ∙ own;
      few = few;
      items = subst (All (λ (u : Update). u.item < 2 ^ task.depth)) (sym none) (All-nil (λ (u : Update). u.item < 2 ^ task.depth));
      seats = record {
        sent = [];
        after = subst (IsAfter c.new-reader.result) (sym none) c.new-reader.ensures.after;
        stand = c.requires;
      };
      levels = c.requires.stand.levels;
      depth = search rules;
      form = search rules;
      ready = search rules;
      unspent = search rules;
      told = search rules;
      first = search rules;
      peer = search rules;
    }

pub returns-in_err-update-clause-passes_on : goal.returns-in_err-update-clause-passes_on
returns-in_err-update-clause-passes_on g c = λ bytes at_blocks all has.
    let so = c.loop-update.invariant.underway bytes at_blocks all has in
    let p = err_from_is_err_and c.from_residual-in_err-update.result c.from_residual-in_err-update.ensures.1 in
    let (fault, stop, is) = c.in_err-update.ensures in
    let reads = rw (c.loop-update.invariant.depth, c.loop-update.invariant.form, stop) at (c.next.ensures.reads so.stream so.rest so.after so.to_come) in
    rw (p.1, p.2, is) (reading_stops _ bytes _ _ at_blocks has _ _ _ _ _ _ fault so reads)

pub pass_on-requires-clause-next : goal.pass_on-requires-clause-next
pass_on-requires-clause-next g c =
    let task = c.args.task.now in
    let most : task.depth ≤ most_depth = search rules in
    let item : c.in-Some.update.item < 2 ^ task.depth = search rules in
    let small = item_below (version_of task) task.depth c.in-Some.update.item (depth-shallow task.depth task.queries.items most) item in
    let had = c.loop-update.invariant.seats in
    let after = rw (c.in_ok-update.ensures, c.in-Some.is) at (c.next.ensures.after (had.sent ++ c.loop-update.feed.waiting) had.after) in
    let depth : c.next.new.self.depth ≡ task.depth = search rules in
    record {
      few = search rules;
      fits = subst (λ (v : Version). c.in-Some.update.item < 256 ^ index_width v) (sym c.loop-update.invariant.version) small;
      delta = search rules;
      item = search rules;
      items = search rules;
      room = followed_room task c.next.new.self c.loop-update.seats _
          (followed_one task c.loop-update.reader c.next.new.self c.loop-update.seats c.loop-update.feed.waiting c.in-Some.update had after) depth;
    }

pub take_held-requires-clause-shallow : goal.take_held-requires-clause-shallow
take_held-requires-clause-shallow g c =
    let task = c.args.task.now in
    let most : task.depth ≤ most_depth = search rules in
    let version : c.pass_on.new.feed.version ≡ version_of task = c.pass_on.ensures.takes.version ∙ c.loop-update.invariant.version in
    let depth : c.next.new.self.depth ≡ task.depth = c.next.ensures.depth ∙ c.loop-update.invariant.depth in
    subst (λ (v : Version). c.next.new.self.depth ≤ deepest v) (sym version) (subst (λ n. n ≤ deepest (version_of task)) (sym depth) (depth-shallow task.depth task.queries.items most))

pub loop-update-smaller : goal.loop-update-smaller
loop-update-smaller g c =
    let nearer = rw (c.in_ok-update.ensures, c.in-Some.is) at c.next.ensures.nearer in
    omega (arith, c.take_held.ensures.took.3.nearer, nearer)

pub loop-update-preserved : goal.loop-update-preserved
loop-update-preserved g c =
    let task = c.args.task.now in
    let took = c.take_held.ensures.took in
    let depth : c.next.new.self.depth ≡ task.depth = c.next.ensures.depth ∙ c.loop-update.invariant.depth in
    let form : c.next.new.self.form ≡ task.form = c.next.ensures.form ∙ c.loop-update.invariant.form in
    let passed : All (λ (u : Update). u.item < 2 ^ task.depth) c.pass_on.new.feed.waiting =
    subst (λ n. All (λ (u : Update). u.item < 2 ^ n) c.pass_on.new.feed.waiting) c.loop-update.invariant.levels (rw c.in_ok-on_link-2.ensures at c.pass_on.ensures.takes.items) in
    let more : All (λ (u : Update). u.item < 2 ^ task.depth) took.0 = subst (λ n. All (λ (u : Update). u.item < 2 ^ n) took.0) depth (fair_items c.next.new.self.depth took.0 took.3.fair) in
    let ready : c.next.new.self.is_spent ≡ false = search rules in
    let unspent : c.pass_on.new.feed.is_spent ≡ false = search rules in
    record {
      underway = λ bytes at_blocks all has.
          let so = c.loop-update.invariant.underway bytes at_blocks all has in
          let reads = rw (c.loop-update.invariant.depth, c.loop-update.invariant.form, c.in_ok-update.ensures, c.in-Some.is) at (c.next.ensures.reads so.stream so.rest so.after so.to_come) in
          let after = rw (c.in_ok-update.ensures, c.in-Some.is) at (c.next.ensures.after so.stream so.after) in
          let moved = rw c.in_ok-on_link-2.ensures at (one_more (version_of c.args.task.now) _ _ _ _ so.stream _ c.in-Some.update so.said c.pass_on.result (rw c.loop-update.invariant.version at c.pass_on.ensures.talk)) in
          let waiting = rw c.in_ok-on_link-2.ensures at c.pass_on.ensures.takes.waiting in
          let stand = subst (λ l. AreSeats c.args.task.now.depth c.args.task.now.queries.items at_blocks l c.pass_on.new.seats) (sym moved.longer) (c.pass_on.ensures.takes.stands _ _ _ so.said.sent so.stand) in
          let next = subst (IsUnderway c.args.task.now bytes at_blocks _ _ _ _ _) (sym waiting)
          (goes_on _ bytes _ _ at_blocks has _ _ _ _ _ _ _ _ _ _ c.in-Some.update so reads after moved.said stand) in
          goes_on_many _ bytes _ _ at_blocks has _ _ _ _ _ _ _ _ _ _ next depth form took.3 took.4 took.2 c.take_held.ensures.few;
      seats = (let had = c.loop-update.invariant.seats in
          let after = rw (c.in_ok-update.ensures, c.in-Some.is) at (c.next.ensures.after (had.sent ++ c.loop-update.feed.waiting) had.after) in
          let waiting = rw c.in_ok-on_link-2.ensures at c.pass_on.ensures.takes.waiting in
          let on = subst (IsFollowed c.args.task.now c.next.new.self c.pass_on.new.seats) (sym waiting)
          (followed_on c.args.task.now c.loop-update.reader c.next.new.self c.loop-update.seats c.pass_on.new.seats c.loop-update.feed.waiting c.in-Some.update had after
          (c.pass_on.ensures.takes.stands _ _ _ had.sent had.stand.stand)) in
          followed_many c.args.task.now c.next.new.self _ c.pass_on.new.seats c.pass_on.new.feed.waiting _ took.0 took.1 on took.3 took.2);
      version = c.take_held.ensures.version ∙ c.pass_on.ensures.takes.version ∙ c.loop-update.invariant.version;
      few = c.take_held.ensures.few;
      items = subst (All (λ (u : Update). u.item < 2 ^ task.depth)) (sym took.2) (All-append (λ (u : Update). u.item < 2 ^ task.depth) c.pass_on.new.feed.waiting took.0 passed more);
      levels = c.pass_on.ensures.takes.depth ∙ c.loop-update.invariant.levels;
      depth = took.3.depth ∙ depth;
      form = took.3.form ∙ form;
      ready = took.3.spent ∙ ready;
      unspent = c.take_held.ensures.spent ∙ unspent;
      told = search rules;
      first = search rules;
      peer = search rules;
    }

pub returns-in_err-on_link-2-clause-passes_on : goal.returns-in_err-on_link-2-clause-passes_on
returns-in_err-on_link-2-clause-passes_on g c = λ bytes at_blocks all has.
    let so = c.loop-update.invariant.underway bytes at_blocks all has in
    let reads = rw (c.loop-update.invariant.depth, c.loop-update.invariant.form, c.in_ok-update.ensures, c.in-Some.is) at (c.next.ensures.reads so.stream so.rest so.after so.to_come) in
    let p = err_from_is_err_and c.from_residual-in_err-on_link-2.result c.from_residual-in_err-on_link-2.ensures.1 in
    let (port, stop, is) = c.in_err-on_link-2.ensures in
    let moved = rw stop at (one_more (version_of c.args.task.now) _ _ _ _ so.stream _ c.in-Some.update so.said c.pass_on.result (rw c.loop-update.invariant.version at c.pass_on.ensures.talk)) in
    rw (p.1, p.2, is) (link_stops _ bytes _ _ at_blocks has _ port (stops_after _ bytes _ _ at_blocks has _ _ _ _ _ _ _ c.in-Some.update so reads moved))

pub returns-in_err-on_link-3-clause-passes_on : goal.returns-in_err-on_link-3-clause-passes_on
returns-in_err-on_link-3-clause-passes_on g c = λ bytes at_blocks all has.
    let so = c.loop-update.invariant.underway bytes at_blocks all has in
    let reads = rw (c.loop-update.invariant.depth, c.loop-update.invariant.form, c.in_ok-update.ensures, c.in_default.is) at (c.next.ensures.reads so.stream so.rest so.after so.to_come) in
    let p = err_from_is_err_and c.from_residual-in_err-on_link-3.result c.from_residual-in_err-on_link-3.ensures.1 in
    let (port, stop, is) = c.in_err-on_link-3.ensures in
    let moved = rw stop at (at_end (version_of c.args.task.now) _ _ _ _ so.stream _ c.finish.result so.said (rw c.loop-update.invariant.version at c.finish.ensures.talk)) in
    rw (p.1, p.2, is) (link_stops _ bytes _ _ at_blocks has _ port (stops_at_end _ bytes _ _ at_blocks has _ _ _ _ _ _ _ so reads moved))

pub update_all-requires-clause-room : goal.update_all-requires-clause-room
update_all-requires-clause-room g c =
    subst (λ (l : List Update). (side : Side) → HaveRoom c.loop-update.seats.seats l side) (sym c.waiting-rest.ensures)
    (followed_room c.args.task.now c.loop-update.reader c.loop-update.seats c.loop-update.feed.waiting c.loop-update.invariant.seats c.loop-update.invariant.depth)

pub returns-clause-seats : goal.returns-clause-seats
returns-clause-seats g c =
    let had = c.loop-update.invariant.seats in
    (had.sent ++ c.waiting-rest.result.now, record { at_blocks = had.stand.at_blocks; stand = c.update_all.ensures.stands _ _ _ had.sent had.stand.stand })

pub returns-clause-passes_on : goal.returns-clause-passes_on
returns-clause-passes_on g c = λ bytes at_blocks all has.
    let so = c.loop-update.invariant.underway bytes at_blocks all has in
    let reads = rw (c.loop-update.invariant.depth, c.loop-update.invariant.form, c.in_ok-update.ensures, c.in_default.is) at (c.next.ensures.reads so.stream so.rest so.after so.to_come) in
    let moved = rw c.in_ok-on_link-3.ensures at (at_end (version_of c.args.task.now) _ _ _ _ so.stream _ c.finish.result so.said (rw c.loop-update.invariant.version at c.finish.ensures.talk)) in
    let stand = c.update_all.ensures.stands _ _ _ so.said.sent so.stand in
    passed_on _ bytes _ _ at_blocks has _ _ _ _ _ _ _ _ so reads moved (rw c.waiting-rest.ensures at stand)

pub returns-clause-weights : goal.returns-clause-weights
returns-clause-weights g c = λ bytes all.
    let at = c.requires.at_blocks in
    let has = c.requires.stand in
    let so = c.loop-update.invariant.underway bytes at all has in
    let reads = rw (c.loop-update.invariant.depth, c.loop-update.invariant.form, c.in_ok-update.ensures, c.in_default.is) at (c.next.ensures.reads so.stream so.rest so.after so.to_come) in
    let after = rw (c.in_ok-update.ensures, c.in_default.is) at (c.next.ensures.after so.stream so.after) in
    weighed c.args.task.now bytes _ _ at has _ _ _ _ _ _ so reads c.next.new.self after _ c.weight.ensures.same c.weight-2.ensures.same
