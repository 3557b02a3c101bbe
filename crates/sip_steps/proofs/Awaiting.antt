-- While bytes are to come of a question, all that was due was said, and no answer is possible by it.
use Rattle.std.proofs.Common.{◌≡◌, ℕ, ◌++◌, Bool, true, false, if◌then◌else◌, Option, Result, Ok, Err, List, [], ◌∷◌, inl, inr, refl, sym, ap, ◌∙◌, append-nil, append_assoc}
use Rattle.sip_field.specs.Moduli.{m61_modulus}
use Rattle.sip_ports.specs.declared.port.TalkEvent.{TalkEvent}
use Rattle.sip_ports.specs.Ports.{ins, outs}
use Rattle.sip_tree.specs.StandsFor.{RootStandsFor}
use Rattle.sip_vector.specs.declared.query.Query.TheVariants.{Sub}
use Rattle.sip_vector.specs.declared.update.Side.TheVariants.{First}
use Rattle.sip_vector.specs.declared.update.Update.{Update}
use Rattle.sip_vector.specs.Steps.{◌>>=◌}
use Rattle.sip_vector.specs.Streams.{vector}
use Rattle.sip_wire.specs.declared.kind.Place.TheVariants as places
use Rattle.sip_wire.specs.declared.message.Message.{Message}
use Rattle.sip_wire.specs.declared.message.Message.TheVariants as messages
use Rattle.sip_wire.specs.declared.message.Reason.{Reason}
use Rattle.sip_wire.specs.declared.message.Reason.TheVariants as reasons
use Rattle.sip_wire.specs.declared.version.Version.{Version}
use Rattle.sip_wire.specs.Frames.{frame_bytes}
use Rattle.sip_wire.specs.Spelling.{spelling}
use Rattle.sip_wire.proofs.ReadingLaws.{read_frame-closed}
use Rattle.sip_replies.specs.Following.{is_hearing}
use Rattle.sip_replies.specs.Protocols.{Protocol}
use Rattle.sip_replies.specs.Replies.{reasoned}
use Rattle.sip_replies.specs.Talks.{asked as asked_talk, sent}
use Rattle.sip_replies.proofs.Fed.{Means-fed}
use Rattle.sip_subvec.specs.Asking as sub_asking
use Rattle.sip_subvec.specs.Asking.{SubStands}
use Rattle.sip_subvec.specs.AcceptsSub.{Stated}
use Rattle.sip_subvec.specs.Protocol.{sub_asked, sub_protocol}
use Rattle.sip_verifier.specs.inside.Protocols.{IsProtocol}
use Rattle.sip_verifier.specs.QuerySeats.{root_is}
use Rattle.sip_verifier.specs.runs.Asking.{question_of}
use Rattle.sip_verifier.proofs.SeatAsked.{sub_protocol_is}
use Rattle.sip_lookup.specs.declared.lookup.Lookup.{Lookup}
use Rattle.sip_lookup.specs.AcceptsLook.{parts}
use Rattle.sip_lookup.specs.Frames.{ask_message, found_message, read_found}
use Rattle.sip_lookup.specs.Lookups.{range_of}
use Rattle.sip_lookup.specs.Questions.{Question, looking, said_behind, said_for}
use Rattle.sip_lookup.proofs.FoundFrames.{found_more}
use Rattle.sip_lookup.proofs.FoundHeard.{fault_says}
use Rattle.sip_steps.specs.declared.asking.Asking.{Asking}
use Rattle.sip_steps.specs.declared.looking.LookStep.{LookStep}
use Rattle.sip_steps.specs.declared.looking.LookStep.TheVariants as steps
use Rattle.sip_steps.specs.declared.opening.Opening.{Opening}
use Rattle.sip_steps.specs.Looked.{IsLookedBy, Proves, asked_for, is_hearing_at}
use Rattle.sip_steps.specs.Posed.{Waits}
use Rattle.sip_steps.proofs.Posings.{hears_at, is_due, so_far}

-- the first of all replies, and those behind it
record Parted (xs : List (List ℕ)) (x : List ℕ) : Type 0 where
  first : List ℕ
  more : List (List ℕ)
  is : xs ++ x ∷ [] ≡ first ∷ more

parted : (xs : List (List ℕ)) (x : List ℕ) → Parted xs x
parted [] x = record { first = x; more = []; is = refl }
parted (y ∷ ys) x = record { first = y; more = ys ++ x ∷ []; is = refl }

module _ (version : Version) (depth : ℕ) (stream : List Update) (lookup : Lookup) (block : List ℕ) (value : ℕ)
    (stands : RootStandsFor m61_modulus block value (vector depth stream First)) where
  abbrev ask_sent : List TalkEvent
  ask_sent = asked_for version lookup

  ask_is : sent version (ask_message lookup ∷ []) ≡ ask_sent
  ask_is = ap outs (append-nil (spelling version (ask_message lookup)))

  abbrev asks : List ℕ → List (List ℕ) → Question
  asks first more = question_of lookup block (first ∷ more)

  -- a part of a Found is all that is said
  said_part : (part : List ℕ) → read_found version part ≡ Err reasons.Closed → ask_sent ++ ins part ≡ said_for version depth (asks part [])
  said_part part says =
      ap (λ (e : List TalkEvent). e ++ ins part) (sym ask_is)
      ∙ sym (ap (λ (r : Result (Option ℕ × List ℕ) Reason). sent version (ask_message lookup ∷ []) ++ said_behind version depth (asks part []) part [] r) says)

  -- behind a Found goes the talk about the interval
  module _ (events : List TalkEvent) (found : Option ℕ) (a : Asking sub_asking.Asking Opening) (p : Proves version depth lookup block value events found a) where
    abbrev lo : ℕ
    lo = (range_of depth lookup found).0

    abbrev hi : ℕ
    hi = (range_of depth lookup found).1

    abbrev bytes : List ℕ
    bytes = p.heard.came.bytes

    abbrev P : Protocol Stated
    P = sub_protocol (sub_asked version m61_modulus value lo hi block)

    abbrev request : Message
    request = messages.Query (Sub lo hi)

    own : IsProtocol version depth stream (Sub lo hi) block P
    own = sub_protocol_is version depth stream (record { query = Sub lo hi; block = block; running = root_is value }) block lo hi value refl refl refl stands

    read : (rest : List ℕ) → read_found version (bytes ++ rest) ≡ Ok (found, rest)
    read rest = found_more version bytes rest (found, []) p.heard.came.says

    split : (rest : List ℕ) (more : List (List ℕ)) → parts version ((bytes ++ rest) ∷ more) ≡ Ok (found, rest ∷ more)
    split rest more = ap (λ (r : Result (Option ℕ × List ℕ) Reason). r >>= λ x. Ok (x.0, x.1 ∷ more)) (read rest)

    said : (rest : List ℕ) (more : List (List ℕ)) → ask_sent ++ (ins bytes ++ asked_talk version request block (rest ∷ more)) ≡ said_for version depth (asks (bytes ++ rest) more)
    said rest more =
        let a = sent version (ask_message lookup ∷ []) in
        let q = asked_talk version request block (rest ∷ more) in
        ap (λ (e : List TalkEvent). e ++ (ins bytes ++ q)) (sym ask_is)
        ∙ sym (ap (λ (r : Result (Option ℕ × List ℕ) Reason). a ++ said_behind version depth (asks (bytes ++ rest) more) (bytes ++ rest) more r) (read rest)
        ∙ ap (λ (b : Bool). a ++ (if b then (ins (spelling version (found_message found)) ++ q) else ins (bytes ++ rest))) p.possible
        ∙ ap (λ (bs : List ℕ). a ++ (ins bs ++ q)) (sym p.heard.spelled))

    proves_due : is_hearing a.turn.stage ≡ true → Waits (looking version depth stream) lookup block events
    proves_due hears =
        let held = a.places.items in
        let means = Means-fed P request block (λ s. SubStands (sub_asked version m61_modulus value lo hi block) s a.check held) held a.turn (frame_bytes a.frame) p.inner p.talk.fed in
        let w = hears_at P request block p.inner held a.turn.stage hears means in
        let f = parted w.replies w.part in
        let due = own.waits (so_far P request block p.inner held w) (is_due P request block p.inner held w) in
        let due_parted = rw f.is at due in
        record {
          replies = (bytes ++ f.first) ∷ f.more;
          talk = p.all ∙ ap (λ (m : List TalkEvent). m ++ p.inner) p.heard.came.heard ∙ append_assoc ask_sent (ins bytes) p.inner
              ∙ ap (λ (i : List TalkEvent). ask_sent ++ (ins bytes ++ i)) (w.talk ∙ ap (asked_talk version request block) f.is) ∙ said f.first f.more;
          waits = inr (record { found = found; inner = f.first ∷ f.more; split = split f.first f.more; possible = p.possible; holds = (due_parted.1, due_parted.2) });
        }

  pub look_due : (events : List TalkEvent) (step : LookStep) → IsLookedBy version depth lookup block value events step → is_hearing_at step ≡ true → Waits (looking version depth stream) lookup block events
  look_due events (steps.Place room true) is hears =
      let part = frame_bytes room.frame in
      let says : read_found version part ≡ Err reasons.Closed = fault_says version part reasons.Closed (ap reasoned (read_frame-closed version places.Found part is.0.1)) in
      record {
        replies = part ∷ [];
        talk = is.0.0 ∙ said_part part says;
        waits = inl (inr (part, refl, says));
      }
  look_due events (steps.Place room false) is hears = absurd cc
  look_due events (steps.Refused reason) is hears = absurd cc
  look_due events (steps.Proves found a) is hears = proves_due events found a is hears
