-- Updates as numbers that come to a run, one by one.
use Rattle.std.proofs.Common.{◌≡◌, ℕ, ◌+◌, ◌<◌, List, [], ◌∷◌, ◌++◌, length, All, get_or, take, Some, Err, refl, sym, ap, subst, arith, append-nil, append_assoc, length-append}
use Rattle.std.proofs.lemmas.List.{take_more}
use Rattle.std.proofs.lemmas.List.Elements.{All-push}
use Rattle.sip_ports.specs.declared.port.TalkEvent.{TalkEvent}
use Rattle.sip_vector.specs.declared.update.Update.{Update}
use Rattle.sip_stream.specs.Records.{update_fault}
use Rattle.sip_runs.specs.Plans.{Plan}
use Rattle.sip_runs.specs.Runs.{Feeds, IsFollowed}
use Rattle.sip_runs.specs.declared.following.Following.{Following}
use Rattle.sip_runs.specs.declared.measure.BadUpdate.{BadUpdate}
use Rattle.sip_c.specs.Codes.{HasSide, update_of}
use Rattle.sip_c.specs.Runs.{Hears, IsBadBehind, refusal_for}
use Rattle.sip_c.specs.Weighing.{updates_of}
use Rattle.sip_c.specs.declared.codes.UpdateCode.{UpdateCode}
use Rattle.sip_c.specs.declared.refusal.Refusal.{Refusal}
use Rattle.sip_c.proofs.Weighed.{updates_more}

-- ---- some came, and then others, or none

hears_more : (f g h : Following) (us more : List Update) → Hears f us g → Hears g more h → Hears f (us ++ more) h
hears_more f g h us more one two p stream events is =
    subst (λ (l : List Update). IsFollowed p l events h) (append_assoc stream us more) (two p (stream ++ us) events (one p stream events is))

pub hears_still : (f g h : Following) (us : List Update) → Hears f us g → Hears g [] h → Hears f us h
hears_still f g h us one two p stream events is =
    subst (λ (l : List Update). IsFollowed p l events h) (append-nil (stream ++ us)) (two p (stream ++ us) events (one p stream events is))

pub hears_next : (codes : List UpdateCode) (k : ℕ) (c : UpdateCode) (f g h : Following) → k < length codes → ((d : UpdateCode) → c ≡ get_or codes k d)
    → Hears f (updates_of (take k codes)) g → Hears g (update_of c ∷ []) h → Hears f (updates_of (take (k + 1) codes)) h
hears_next codes k c f g h lt is one two =
    subst (λ (l : List Update). Hears f l h) (sym (updates_more codes k c lt))
    (hears_more f g h (updates_of (take k codes)) (update_of (get_or codes k c) ∷ []) one (subst (λ (x : UpdateCode). Hears g (update_of x ∷ []) h) (is c) two))

pub sides_next : (codes : List UpdateCode) (k : ℕ) (c : UpdateCode) → k < length codes → ((d : UpdateCode) → c ≡ get_or codes k d)
    → All HasSide (take k codes) → HasSide c → All HasSide (take (k + 1) codes)
sides_next codes k c lt is all side =
    subst (All HasSide) (sym (take_more codes k c lt)) (All-push HasSide (take k codes) (get_or codes k c) all (subst HasSide (is c) side))

-- one that may not come behind those that came
pub bad_behind : (f g : Following) (us : List Update) (c : UpdateCode) (why : Refusal) → Hears f us g → IsBadBehind g [] c why → IsBadBehind f us c why
bad_behind f g us c why one bad = (
  bad.0,
  λ side p stream events is.
      let found = bad.1 side p (stream ++ us) events (one p stream events is) in
      (found.0, subst (λ (l : List Update). update_fault p.depth l (update_of c) ≡ Some found.0) (append-nil (stream ++ us)) found.1, found.2),
)

-- ---- what a feed of one update says, which may not come

-- those in front of it are none
lone : (front more : List Update) (u x : Update) → x ∷ [] ≡ front ++ u ∷ more → (front ≡ []) × (u ≡ x)
lone [] more u x e = (refl, sym (ap (λ (l : List Update). get_or l 0 x) e))
lone (y ∷ front) more u x e =
    absurd (omega (arith, ap length e, length-append (y ∷ front) (u ∷ more)))

pub bad_one : (f g : Following) (u : Update) (bad : BadUpdate) → ((p : Plan) (stream : List Update) (events : List TalkEvent) → IsFollowed p stream events f → Feeds p stream events (u ∷ []) g (Err bad))
    → Hears f [] g
bad_one f g u bad fed p stream events is =
    let so = fed p stream events is in
    let none = lone so.0 so.2 so.1 u so.3 in
    subst (λ (l : List Update). IsFollowed p (stream ++ l) events g) none.0 so.4

pub why_one : (f g : Following) (c : UpdateCode) (bad : BadUpdate) → HasSide c → ((p : Plan) (stream : List Update) (events : List TalkEvent) → IsFollowed p stream events f → Feeds p stream events (update_of c ∷ []) g (Err bad))
    → IsBadBehind f [] c (refusal_for bad.why)
why_one f g c bad side fed = (
  λ no. absurd (no side),
  λ _ p stream events is.
      let so = fed p stream events is in
      let none = lone so.0 so.2 so.1 (update_of c) so.3 in (
        bad.why,
        subst (λ (x : Update). update_fault p.depth (stream ++ []) x ≡ Some bad.why) none.1
            (subst (λ (l : List Update). update_fault p.depth (stream ++ l) so.1 ≡ Some bad.why) none.0 so.6),
        refl,
      ),
)
