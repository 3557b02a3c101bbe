-- Bytes came that are too few for a look at the frame.
use Rattle.std.proofs.Common.{◌≡◌, ◌-◌, ◌<◌, ◌≤◌, ◌++◌, List, ℕ, length, sym, subst}
use Rattle.sip_wire.specs.Frames.{frame_bytes}
use Rattle.sip_wire.specs.Spelling.{asked as asked_length}
use Rattle.sip_wire.specs.Taking.{room_for}
use Rattle.sip_wire.specs.declared.kind.Place.{Place}
use Rattle.sip_wire.specs.declared.version.Version.{Version}
use Rattle.sip_replies.proofs.Stepping.{open_hearing}
use Rattle.sip_steps.proofs.Lacking.{lacking_less, lacking_room, lacking_short}
use Rattle.sip_steps.proofs.OneQuestion.{IsFed-more, stood}
use Rattle.sip_steps.proofs.OneTalk.{at_state}
use Rattle.sip_steps.proofs.asking.Asking.gather.Goals as goal

pub put-requires : goal.put-requires
put-requires g c =
    let b = c.requires.begun in
    let a = c.args.self.now in
    let got = frame_bytes a.frame in
    let more = c.args.bytes.now in
    let so = stood (g.C.Check.protocol b.0) b.1 b.2 b.3 (λ (s : g.C.Check.State). g.C.Check.stands b.0 s a.check a.places.items) a.places.items a.turn got b.4.fed (open_hearing a.turn.stage c.requires.hears) in
    let at = (g.C.Check.protocol b.0).rules.place so.0 in
    at_state (λ (v : Version) (p : Place). length more ≤ room_for v p got) a.turn.version c.version.result at c.place.result (sym c.version.ensures) (sym (c.place.ensures b.0 so.0 a.places.items so.1))
    (lacking_room a.turn.version at got more a.lacking (b.4.lacks c.requires.hears so.0 so.1) c.requires.few)

pub returns-clause-asked : goal.returns-clause-asked
returns-clause-asked g c asked request block events is =
    let P = g.C.Check.protocol asked in
    let a = c.args.self.now in
    let got = frame_bytes a.frame in
    let piece = c.args.bytes.now in
    let hears = c.requires.hears in
    let few = c.requires.few in
    let now = frame_bytes c.put.new.self in
    let more : now ≡ got ++ piece = c.put.ensures.takes in
    record {
      asks = is.asks;
      spelled = is.spelled;
      fed = IsFed-more P request block events (λ (s : g.C.Check.State). g.C.Check.stands asked s a.check a.places.items) a.places.items a.turn got is.fed hears piece now more
          (λ s stands. subst (λ (l : List ℕ). length l < asked_length a.turn.version (P.rules.place s) l) (sym more) (lacking_short a.turn.version (P.rules.place s) got piece a.lacking (is.lacks hears s stands) few));
      at = is.at;
      block_is = is.block_is;
      lacks = λ hearing s stands. subst (λ (l : List ℕ). a.lacking - length piece ≤ room_for a.turn.version (P.rules.place s) l) (sym more) (lacking_less a.turn.version (P.rules.place s) got piece a.lacking (is.lacks hears s stands) few);
    }
