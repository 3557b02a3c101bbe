-- What asking a lookup did where its interval was not asked for: the Ask was not sent whole, or the
-- Found did not come whole, has a fault, was not kept, or names a place that may not be found.
use Rattle.std.proofs.Common.{◌≡◌, ℕ, Bool, false, List, [], ◌∷◌, ◌++◌, Option, Result, Ok, Err, refl, sym, ap, subst, ◌∙◌, inl, inr, append_assoc, append-nil}
use Rattle.std.specs.Prelude.{if◌then◌else◌}
use Rattle.sip_ports.specs.declared.port.TalkEvent.{TalkEvent}
use Rattle.sip_ports.specs.Ports.{GoesOn, ins, outs}
use Rattle.sip_ports.proofs.TalkLemmas.{GoesOn-trans}
use Rattle.sip_vector.specs.declared.query.Query.TheVariants.{Sub}
use Rattle.sip_vector.specs.declared.update.Update.{Update}
use Rattle.sip_wire.specs.declared.message.Message.TheVariants as messages
use Rattle.sip_wire.specs.declared.message.Reason.{Reason}
use Rattle.sip_wire.specs.declared.message.Reason.TheVariants as reasons
use Rattle.sip_wire.specs.declared.version.Version.{Version}
use Rattle.sip_wire.specs.Spelling.{spelling}
use Rattle.sip_replies.specs.Asking.{Came, HasFault, IsPart, IsUnkept}
use Rattle.sip_replies.specs.Talks.{IsPrefix, asked, ending, sent}
use Rattle.sip_verifier.specs.runs.Asking.{IsRejected, IsInterrupted, IsUnrecorded, question_of}
use Rattle.sip_lookup.specs.Frames.{ask_message, found_message, read_found}
use Rattle.sip_lookup.specs.Lookups.{is_possible, range_of}
use Rattle.sip_lookup.specs.Questions.{Question, looking, said_behind, said_for}
use Rattle.sip_lookup.specs.declared.lookup.Lookup.{Lookup}

module _ (version : Version) (depth : ℕ) (stream : List Update) (l : Lookup) (block : List ℕ) where
  abbrev ask : List TalkEvent
  ask = sent version (ask_message l ∷ [])

  abbrev alone : List ℕ → Question
  alone bytes = question_of l block (bytes ∷ [])

  -- a Found that has a fault, or is not whole, is all that is said
  said_faulty : (bytes : List ℕ) (reason : Reason) → read_found version bytes ≡ Err reason → said_for version depth (alone bytes) ≡ ask ++ ins bytes
  said_faulty bytes reason says =
      ap (λ (r : Result (Option ℕ × List ℕ) Reason). ask ++ said_behind version depth (alone bytes) bytes [] r) says

  -- so is one with a place that may not be found
  said_bad : (bytes : List ℕ) (found : Option ℕ) → read_found version bytes ≡ Ok (found, []) → is_possible depth l found ≡ false
      → said_for version depth (alone bytes) ≡ ask ++ ins bytes
  said_bad bytes found says bad =
      ap (λ (r : Result (Option ℕ × List ℕ) Reason). ask ++ said_behind version depth (alone bytes) bytes [] r) says
      ∙ ap (λ (b : Bool). ask ++ (if b then (ins (spelling version (found_message found)) ++ asked version (messages.Query (Sub (range_of depth l found).0 (range_of depth l found).1)) block ([] ∷ [])) else ins bytes)) bad

  -- ---- the Ask

  pub ask_cut : (old new : Option (List TalkEvent)) (part : List ℕ) → GoesOn old new (outs part) → IsPrefix (outs part) ask
      → IsInterrupted (looking version depth stream) l block old new
  ask_cut old new part went front = record {
    replies = [];
    said = outs part;
    talk = went;
    order = (front.0, append-nil _ ∙ front.1);
    waits = inl (inl refl);
  }

  -- ---- the Found

  module _ (old mid new before now : Option (List TalkEvent)) (sent_ask : GoesOn old mid ask) where
    pub found_faulty : (reason : Reason) → HasFault version (read_found version) mid new before now reason
        → IsRejected (looking version depth stream) l block old new 0 reason
    found_faulty reason h = record {
      replies = h.bytes ∷ [];
      talk = subst (GoesOn old new)
          (sym (append_assoc ask (ins h.bytes) (ending reason)) ∙ ap (λ xs. xs ++ ending reason) (sym (said_faulty h.bytes reason h.says)))
          (GoesOn-trans old mid new ask (ins h.bytes ++ ending reason) sent_ask h.heard);
      faulty = inl (record {
        first = h.bytes;
        came = refl;
        round = refl;
        says = h.says;
        shortest = λ other front byte e. h.shortest front byte e other;
      });
    }

    pub found_bad : (found : Option ℕ) → is_possible depth l found ≡ false → Came version (read_found version) mid new before now (found, [])
        → IsRejected (looking version depth stream) l block old new 0 reasons.BadFound
    found_bad found bad c = record {
      replies = c.bytes ∷ [];
      talk = subst (GoesOn old new) (sym (append-nil _ ∙ said_bad c.bytes found c.says bad))
          (GoesOn-trans old mid new ask (ins c.bytes) sent_ask c.heard);
      faulty = inr (inl (record { first = c.bytes; came = refl; found = found; says = c.says; bad = bad; is = refl }));
    }

    pub found_cut : IsPart version (read_found version) mid new before now → IsInterrupted (looking version depth stream) l block old new
    found_cut p = record {
      replies = p.bytes ∷ [];
      said = ask ++ ins p.bytes;
      talk = GoesOn-trans old mid new ask (ins p.bytes) sent_ask p.heard;
      order = ([], said_faulty p.bytes reasons.Closed p.says ∙ sym (append-nil _));
      waits = inl (inr (p.bytes, refl, p.says));
    }

    pub found_unkept : IsUnkept version (read_found version) mid new before now → IsUnrecorded (looking version depth stream) l block old new
    found_unkept u = record {
      replies = [];
      ended = ins u.bytes ++ u.ended;
      talk = subst (GoesOn old new) (ap (λ xs. xs ++ (ins u.bytes ++ u.ended)) (sym (append-nil ask)))
          (GoesOn-trans old mid new ask (ins u.bytes ++ u.ended) sent_ask u.heard);
      unjudged = inl (record {
        none = refl;
        first = u.bytes;
        end = u.ended;
        came = refl;
        shortest = u.shortest;
        may_end = u.may_end;
      });
    }
