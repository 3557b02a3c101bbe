-- What was written is the head, or a front of it.
use Rattle.std.proofs.Common.{◌≡◌, ◌∙◌, ◌<◌, ◌≤◌, ◌+◌, ◌++◌, length, map, get_or, drop, sym, ap, subst, rules}
use Rattle.std.proofs.lemmas.Result.{err_from_is_err_and}
use Rattle.sip_ports.specs.Ports.{GoesOn, SendsWhole, outs}
use Rattle.std.specs.Prelude.{IsTrue}
use Rattle.std.specs.List.{zip}
use Rattle.sip_wire.specs.declared.version.Version.{Version}
use Rattle.sip_wire.specs.Versions.{Speaks, deepest, needed}
use Rattle.sip_vector.specs.declared.query.Query.{Query}
use Rattle.sip_verifier.specs.QuerySeats.{Seated, is_seat}
use Rattle.sip_verifier.specs.Seats.{AreSeats, Seating}
use Rattle.sip_verifier.specs.Transcripts.{head_of}
use Rattle.sip_verifier.proofs.Sends.{sends_more, sends_short}
use Rattle.sip_verifier.proofs.SeatsHead.{ask, asks, head_up_to, version_of, version-asked, head-whole, head-split, head-done, seat-at, seat-long, seat-speaks, seats-shallow}
use Rattle.sip_verifier.proofs.seats.Seats.put_transcript_head.Goals as goal

pub put_head-requires-clause-shallow : goal.put_head-requires-clause-shallow
put_head-requires-clause-shallow g c =
    subst (λ (v : Version). c.self.inside.depth ≤ deepest v) (sym c.self.inside.least)
    (seats-shallow c.self.inside.depth c.self.inside.seats.items c.self.inside.deep c.self.inside.some)

pub put_ask-requires-clause-speaks : goal.put_ask-requires-clause-speaks
put_ask-requires-clause-speaks g c =
    let below : c.loop-seat.seat-index < length c.self.inside.seats.items = search rules in
    let here : get_or c.self.inside.seats.items c.loop-seat.seat-index c.seat-item.result ≡ c.seat-item.result = search rules in
    let is = subst (λ (s : Seated). IsTrue (is_seat c.self.inside.depth s)) here (seat-at c.self.inside.depth c.loop-seat.seat-index c.self.inside.seats.items c.seat-item.result c.self.inside.each below) in
    let levels : length c.block.result.now ≡ c.self.inside.depth = ap length c.block.ensures ∙ seat-long c.self.inside.depth c.seat-item.result is in
    let speaks = subst (λ (s : Seated). Speaks (needed c.self.inside.depth (map (λ (x : Seated). x.query) c.self.inside.seats.items)) c.self.inside.depth s.query) here
    (seat-speaks c.self.inside.depth c.loop-seat.seat-index c.self.inside.seats.items c.seat-item.result c.self.inside.deep below) in
    let own = ap (λ (s : Seated). s.query) c.seat.view_is in
    let needs = needed c.self.inside.depth (map (λ (x : Seated). x.query) c.self.inside.seats.items) in
    let at_query = subst (λ (q : Query). Speaks needs c.self.inside.depth q) (sym own) speaks in
    subst (λ (v : Version). Speaks v (length c.block.result.now) c.seat.inside.query) (sym c.self.inside.least)
    (subst (λ n. Speaks needs n c.seat.inside.query) (sym levels) at_query)

pub returns-in_err-put_head-clause-talk : goal.returns-in_err-put_head-clause-talk
returns-in_err-put_head-clause-talk g c = λ depth queries blocks stream seen.
    let are = subst (AreSeats depth queries blocks stream) (sym c.self.view_is) seen in
    let said = rw c.len.ensures.value at c.in_err-put_head.ensures.talk in
    let p = err_from_is_err_and c.from_residual.result c.from_residual.ensures.1 in
    let same = c.self.inside.least ∙ ap version_of c.self.view_is ∙ version-asked depth queries blocks stream c.args.self.now seen in
    let whole = head-whole c.self.inside.version depth queries blocks stream _ are in
    subst (SendsWhole (g.K.Sink.talk c.args.sink.now) (g.K.Sink.talk c.put_head.new.sink) c.from_residual.result)
    (sym whole ∙ ap (λ (v : Version). head_of v depth (zip queries blocks)) same)
    (sends_short _ _ c.from_residual.result p.0 _ (asks c.self.inside.version c.self.inside.seats.items) p.1 said.0 said.1 said.2)

pub returns-in_err-put_ask-clause-talk : goal.returns-in_err-put_ask-clause-talk
returns-in_err-put_ask-clause-talk g c = λ depth queries blocks stream are.
    let version = version_of c.args.self.now in
    let same : c.self.inside.version ≡ version = c.self.inside.least ∙ ap version_of c.self.view_is in
    let needs = version-asked depth queries blocks stream c.args.self.now are in
    let items = ap (λ (s : Seating). s.seats) c.self.view_is in
    let seats = c.args.self.now.seats in
    let lt : c.loop-seat.seat-index < length seats = subst (λ l. c.loop-seat.seat-index < length l) items (search rules) in
    let p = err_from_is_err_and c.from_residual-in_err-put_ask.result c.from_residual-in_err-put_ask.ensures.1 in
    let own = ap (λ (s : Seated). s.query) c.seat.view_is in
    let asked = rw same at (rw own at (rw c.block.ensures at c.put_ask.ensures.talk)) in
    let front = rw c.in_err-put_ask.was at (sends_more (g.K.Sink.talk c.args.sink.now) (g.K.Sink.talk c.loop-seat.sink) (g.K.Sink.talk c.put_ask.new.sink) c.put_ask.result (head_up_to version c.args.self.now c.loop-seat.seat-index) (ask version c.seat-item.result) c.loop-seat.invariant.talk asked) in
    let here : get_or c.self.inside.seats.items c.loop-seat.seat-index c.seat-item.result ≡ c.seat-item.result = search rules in
    let one : get_or seats c.loop-seat.seat-index c.seat-item.result ≡ c.seat-item.result = subst (λ l. get_or l c.loop-seat.seat-index c.seat-item.result ≡ c.seat-item.result) items here in
    let whole = head-whole version depth queries blocks stream c.args.self.now are ∙ head-split version c.args.self.now c.loop-seat.seat-index c.seat-item.result lt
    ∙ ap (λ (s : Seated). (head_up_to version c.args.self.now c.loop-seat.seat-index ++ ask version s) ++ asks version (drop (c.loop-seat.seat-index + 1) seats)) one in
    subst (SendsWhole (g.K.Sink.talk c.args.sink.now) (g.K.Sink.talk c.put_ask.new.sink) c.from_residual-in_err-put_ask.result) (sym whole ∙ ap (λ (v : Version). head_of v depth (zip queries blocks)) needs)
    (sends_short _ _ c.from_residual-in_err-put_ask.result p.0 _ (asks version (drop (c.loop-seat.seat-index + 1) seats)) p.1 front.0 front.1 front.2)

pub returns-clause-talk : goal.returns-clause-talk
returns-clause-talk g c = λ depth queries blocks stream are.
    let version = version_of c.args.self.now in
    let needs = version-asked depth queries blocks stream c.args.self.now are in
    let items = ap (λ (s : Seating). s.seats) c.self.view_is in
    let end : length c.args.self.now.seats ≤ c.loop-seat.seat-index = subst (λ l. length l ≤ c.loop-seat.seat-index) items (search rules) in
    let whole = head-done version c.args.self.now c.loop-seat.seat-index end ∙ sym (head-whole version depth queries blocks stream c.args.self.now are) ∙ ap (λ (v : Version). head_of v depth (zip queries blocks)) needs in
    subst (λ bytes. GoesOn (g.K.Sink.talk c.args.sink.now) (g.K.Sink.talk c.loop-seat.sink) (outs bytes)) whole c.loop-seat.invariant.talk
