-- How the turn of one query ends: with an answer, by the tests behind the last reply, or where the
-- link stops.
use Rattle.std.proofs.Common.{◌≡◌, ◌≢◌, inl, inr, ℕ, ◌-◌, ◌<◌, Option, Result, Ok, Err, List, [], ◌∷◌, ◌++◌, length, take, drop, refl, sym, ap, subst, ◌∙◌, arith, append_assoc, append-nil}
use Rattle.std.specs.Prelude.{Some, None, IsErrAnd, slice_index}
use Rattle.std.proofs.lemmas.List.{map-append, take-append-drop}
use Rattle.sip_ports.specs.declared.port.PortStop.{PortStop}
use Rattle.sip_ports.specs.declared.port.PortStop.TheVariants as ports
use Rattle.sip_ports.specs.declared.port.TalkEvent.{TalkEvent}
use Rattle.sip_ports.specs.declared.port.TalkEvent.TheVariants.{Out}
use Rattle.sip_ports.specs.Ports.{GoesOn, outs}
use Rattle.sip_ports.proofs.TalkLemmas.{GoesOn-refl, GoesOn-trans, heard-outs}
use Rattle.sip_vector.specs.declared.update.Entry.{Entry}
use Rattle.sip_vector.specs.Answers.{Answer}
use Rattle.sip_vector.specs.Steps.{◌>>=◌}
use Rattle.sip_wire.specs.declared.kind.Place.TheVariants as places
use Rattle.sip_wire.specs.declared.message.Message.{Message}
use Rattle.sip_wire.specs.declared.message.Message.TheVariants as messages
use Rattle.sip_wire.specs.declared.message.Reason.{Reason}
use Rattle.sip_wire.specs.declared.message.Reason.TheVariants as reasons
use Rattle.sip_wire.specs.Spelling.{spelling}
use Rattle.sip_replies.specs.declared.check.Said.{Said}
use Rattle.sip_replies.specs.declared.asking.AskStop.{AskStop}
use Rattle.sip_replies.specs.Protocols.{Protocol}
use Rattle.sip_replies.specs.Replies.{Fault, in_round, joined, run, verdict}
use Rattle.sip_replies.specs.Checks.{answered, answer_of}
use Rattle.sip_replies.specs.Talks.{ending, sent, asked}
use Rattle.sip_replies.specs.Asking.{stop_of_port, IsAnswered, IsRejected, IsInterrupted, Answers}
use Rattle.sip_replies.proofs.Framed.{AreFrames-none}
use Rattle.sip_replies.proofs.Reading.{no_frame, read_reply-nil}
use Rattle.sip_replies.proofs.Running.{run-none, run-fault}
use Rattle.sip_replies.proofs.Hearing.{before_sent, heard-asked}
use Rattle.sip_replies.proofs.Saying.{sent-one, asked-snoc}
use Rattle.sip_replies.specs.Following.{Going}
use Rattle.sip_replies.proofs.Turns.{closed_next}

-- ---- where the link stops

module _ {S : Type 0} (P : Protocol S) (due : P.unasked ≡ None) (request : Message) (block : List ℕ) where
  -- nothing was said, or a part of what is asked
  pub IsInterrupted-request : (old new before during : Option (List TalkEvent)) (n : ℕ) → GoesOn old new (outs (take n (spelling P.rules.version request))) → GoesOn before during [] → 0 < length block → IsInterrupted P request block old new before during
  IsInterrupted-request old new before during n talk unkept some =
      let m = spelling P.rules.version request in
      record {
        due = due;
        replies = [];
        said = outs (take n m);
        talk = talk;
        order = (
          outs (drop n m),
          append-nil (sent P.rules.version (request ∷ []))
              ∙ sent-one P.rules.version request
              ∙ ap outs (sym (take-append-drop n m))
              ∙ map-append Out (take n m) (drop n m),
        );
        kept = record { whole = []; part = []; split = heard-outs (take n m); frames = AreFrames-none P.rules.version; cut = (places.Entries, no_frame P.rules.version places.Entries); kept = unkept };
        unfinished = record { few = omega arith; passes = λ fault e. absurd (let is = run-none P.rules block in cc) };
        missing = inl some;
      }

  -- a part of a challenge was said
  pub IsInterrupted-reveal : (old mid new before during : Option (List TalkEvent)) (count : ℕ) (Stands : S → Type 0) → Going P request block old mid before during count Stands → count < length block → (n : ℕ)
      → GoesOn mid new (outs (take n (spelling P.rules.version (messages.Reveal (slice_index block (count - 1)))))) → IsInterrupted P request block old new before during
  IsInterrupted-reveal old mid new before during count Stands going lt n talk =
      let version = P.rules.version in
      let m = spelling P.rules.version (messages.Reveal (slice_index block (count - 1))) in
      let so_far = asked version request block going.replies in
      let whole : outs m ≡ outs (take n m) ++ outs (drop n m) = ap outs (sym (take-append-drop n m)) ∙ map-append Out (take n m) (drop n m) in
      let state = P.rules.learn going.state (slice_index block (count - 1)) in
      let none = read_reply-nil P.rules state in
      record {
        due = due;
        replies = going.replies ++ [] ∷ [];
        said = so_far ++ outs (take n m);
        talk = GoesOn-trans old mid new so_far (outs (take n m)) going.talk talk;
        order = (
          outs (drop n m),
          asked-snoc version request going.replies block (count - 1) [] (omega (arith, going.counted, going.some)) (omega (arith, going.some))
              ∙ append-nil (so_far ++ sent version (messages.Reveal (slice_index block (count - 1)) ∷ []))
              ∙ ap (λ (l : List TalkEvent). so_far ++ l) (sent-one version (messages.Reveal (slice_index block (count - 1))) ∙ whole)
              ∙ sym (append_assoc so_far (outs (take n m)) (outs (drop n m))),
        );
        kept = record { whole = joined going.replies; part = []; split = before_sent so_far (take n m) ∙ heard-asked version request block going.replies (omega (arith, going.counted, going.within)) ∙ sym (append-nil (joined going.replies)); frames = going.frames; cut = (places.Entries, no_frame version places.Entries); kept = going.kept };
        unfinished = closed_next P block going.replies state going.passed (omega (arith, going.counted)) [] none;
        missing = inr (record { round = length going.replies; reason = reasons.Closed }, run-fault P.rules block going.replies state going.passed [] reasons.Closed none);
      }

-- the link stopped
pub Answers-port : {S : Type 0} (P : Protocol S) (request : Message) (block : List ℕ) (old new before now : Option (List TalkEvent)) (places : List Entry) (result : Result Said AskStop) (port : PortStop)
    → IsErrAnd result (λ stop. stop ≡ stop_of_port port) → IsInterrupted P request block old new before now → Answers P request block old new before now places result
Answers-port P request block old new before now places (Ok x) port is cut = absurd is
Answers-port P request block old new before now places (Err stop) ports.Failed is cut = rw is cut
Answers-port P request block old new before now places (Err stop) ports.OutOfMemory is cut = rw is cut

-- ---- the tests behind the last reply

verdict-passed : {S : Type 0} (P : Protocol S) (block : List ℕ) (replies : List (List ℕ)) (s : S) (r : Result Answer Reason) → run P.rules block replies ≡ Ok s → P.finish s ≡ r → verdict P block replies ≡ in_round (length block) r
verdict-passed P block replies s r is ends = ap (λ (x : Result _ Fault). x >>= λ t. in_round (length block) (P.finish t)) is ∙ ap (in_round (length block)) ends

module _ {S : Type 0} (P : Protocol S) (due : P.unasked ≡ None) (request : Message) (block : List ℕ) (old new before now : Option (List TalkEvent)) (count : ℕ) (Stands : S → Type 0) (going : Going P request block old new before now count Stands)
    (all : count ≡ length block) (places : List Entry) (result : Result Said Reason) (ended : answered places result ≡ P.finish (P.rules.learn going.state (slice_index block (count - 1)))) where
  -- they passed
  pub IsAnswered-end : (said : Said) → result ≡ Ok said → IsAnswered P request block old new before now (answer_of places said)
  IsAnswered-end said is = record {
    replies = going.replies;
    talk = rw due going.talk;
    kept = going.kept;
    frames = going.frames;
    accepted = rw due (record {
      all = omega (arith, going.counted, all);
      found = verdict-passed P block going.replies _ (Ok (answer_of places said)) going.passed (sym ended ∙ ap (answered places) is);
    });
  }

  -- one of them failed
  pub IsRejected-end : (reason : Reason) → reason ≢ reasons.Closed → ending reason ≡ [] → result ≡ Err reason → IsRejected P request block old new before now (length block) reason
  IsRejected-end reason other none is = record {
    replies = going.replies;
    talk = subst (GoesOn old new) (sym (append-nil (asked P.rules.version request block going.replies)) ∙ ap (λ (l : List TalkEvent). asked P.rules.version request block going.replies ++ l) (sym none)) going.talk;
    kept = going.kept;
    faulty = record {
      asked = due;
      taken = omega (arith, going.counted, all);
      found = verdict-passed P block going.replies _ (Err reason) going.passed (sym ended ∙ ap (answered places) is);
      shortest = λ earlier front byte e closed. going.shortest earlier front byte e;
    };
  }

-- ---- where nothing is asked

pub IsAnswered-unasked : {S : Type 0} (P : Protocol S) (request : Message) (block : List ℕ) (old before : Option (List TalkEvent)) (answer : Answer) → P.unasked ≡ Some answer → IsAnswered P request block old old before before answer
IsAnswered-unasked P request block old before answer known = record {
  replies = [];
  talk = rw known (GoesOn-refl old);
  kept = GoesOn-refl before;
  frames = AreFrames-none P.rules.version;
  accepted = rw known (refl, refl);
}
