-- What asking a lookup did, from what hearing its Found and asking for its interval did.
use Rattle.std.proofs.Common.{◌≡◌, ℕ, zero, suc, ◌≤◌, Bool, true, false, List, [], ◌∷◌, ◌++◌, length, min, Option, Result, Ok, Err, refl, sym, ap, subst, ◌∙◌, inl, inr, arith, append_assoc, append-nil, length-append}
use Rattle.std.specs.Prelude.{if◌then◌else◌}
use Rattle.sip_ports.specs.declared.port.TalkEvent.{TalkEvent}
use Rattle.sip_ports.specs.Ports.{GoesOn, ins}
use Rattle.sip_ports.proofs.TalkLemmas.{GoesOn-trans}
use Rattle.sip_vector.specs.declared.query.Query.TheVariants.{Sub}
use Rattle.sip_vector.specs.declared.update.Entry.{Entry}
use Rattle.sip_vector.specs.declared.update.Update.{Update}
use Rattle.sip_vector.specs.Answers.{pairs}
use Rattle.sip_vector.specs.Steps.{◌>>=◌}
use Rattle.sip_wire.specs.declared.message.Message.TheVariants as messages
use Rattle.sip_wire.specs.declared.message.Reason.{Reason}
use Rattle.sip_wire.specs.declared.message.Reason.TheVariants as reasons
use Rattle.sip_wire.specs.declared.version.Version.{Version}
use Rattle.sip_wire.specs.Spelling.{spelling}
use Rattle.sip_replies.specs.Talks.{IsPrefix, asked, ending, sent}
use Rattle.sip_replies.specs.Protocols.{Rules}
use Rattle.sip_replies.specs.Replies as general
use Rattle.sip_replies.specs.Replies.{Fault, read_from, run, run_from}
use Rattle.sip_replies.proofs.Turns.{same_fault}
use Rattle.sip_verifier.specs.Asking as subs
use Rattle.sip_verifier.specs.runs.Asking.{IsAnswered, IsRejected, IsInterrupted, IsUnrecorded, question_of}
use Rattle.sip_lookup.specs.AcceptsLook.{parts}
use Rattle.sip_lookup.specs.Frames.{ask_message, found_message, read_found}
use Rattle.sip_lookup.specs.Lookups.{are_alone, is_possible, range_of, stated_answer}
use Rattle.sip_lookup.specs.Questions.{IsBehindFound, Question, looking, said_behind, said_for}
use Rattle.sip_lookup.specs.declared.lookup.Lookup.{Lookup}
use Rattle.sip_lookup.proofs.FoundFrames.{found_more}

-- a reply is taken where a fault is found
some_min : (round n : ℕ) → 1 ≤ n → 1 ≤ min (suc round) n
some_min round zero some = absurd (omega (arith, some))
some_min round (suc n) some = omega (arith)

-- where no byte of reply 0 came, it is not whole
none_read : {S : Type 0} (R : Rules S) (rs : List ℕ) → run R rs ([] ∷ []) ≡ Err (record { round = 0; reason = reasons.Closed })
unfolding run_from read_from
none_read R rs = refl

none_whole : {S : Type 0} (R : Rules S) (rs : List ℕ) → 1 ≤ length rs → general.IsUnfinished R rs ([] ∷ [])
none_whole R rs some = record {
  few = some;
  passes = λ fault is.
      let same : record { round = 0; reason = reasons.Closed } ≡ fault = same_fault _ fault (sym (none_read R rs) ∙ is) in
      (ap (λ (f : Fault). f.reason) (sym same), ap (λ (f : Fault). suc f.round) (sym same));
}

none_came : {S : Type 0} (R : Rules S) (rs : List ℕ) → general.IsMissing R rs ([] ∷ [])
none_came R rs = inr (record { round = 0; reason = reasons.Closed }, none_read R rs)

-- A Found came whole, in these bytes, and names a place that may be found.
module _ (version : Version) (depth : ℕ) (stream : List Update) (l : Lookup) (block : List ℕ) (found : Option ℕ) (bytes : List ℕ)
    (reads : read_found version bytes ≡ Ok (found, [])) (spelled : bytes ≡ spelling version (found_message found))
    (possible : is_possible depth l found ≡ true) where
  abbrev lo : ℕ
  lo = (range_of depth l found).0

  abbrev hi : ℕ
  hi = (range_of depth l found).1

  -- the replies to the lookup, from those about the interval
  abbrev outer : List ℕ → List (List ℕ) → List (List ℕ)
  outer rest more = (bytes ++ rest) ∷ more

  abbrev question : List ℕ → List (List ℕ) → Question
  question rest more = question_of l block (outer rest more)

  split : (rest : List ℕ) (more : List (List ℕ)) → parts version (outer rest more) ≡ Ok (found, rest ∷ more)
  split rest more = ap (λ (r : Result (Option ℕ × List ℕ) Reason). r >>= λ x. Ok (x.0, x.1 ∷ more)) (found_more version bytes rest (found, []) reads)

  said : (rest : List ℕ) (more : List (List ℕ))
      → said_for version depth (question rest more) ≡ sent version (ask_message l ∷ []) ++ (ins bytes ++ asked version (messages.Query (Sub lo hi)) block (rest ∷ more))
  said rest more =
      ap (λ (r : Result (Option ℕ × List ℕ) Reason). sent version (ask_message l ∷ []) ++ said_behind version depth (question rest more) (bytes ++ rest) more r) (found_more version bytes rest (found, []) reads)
      ∙ ap (λ (b : Bool). sent version (ask_message l ∷ []) ++ (if b then (ins (spelling version (found_message found)) ++ asked version (messages.Query (Sub lo hi)) block (rest ∷ more)) else ins (bytes ++ rest))) possible
      ∙ ap (λ (bs : List ℕ). sent version (ask_message l ∷ []) ++ (ins bs ++ asked version (messages.Query (Sub lo hi)) block (rest ∷ more))) (sym spelled)

  behind : {Holds : Option ℕ → List (List ℕ) → Type 0} (rest : List ℕ) (more : List (List ℕ)) → Holds found (rest ∷ more)
      → IsBehindFound version depth stream Holds (question rest more)
  behind rest more holds = record { found = found; inner = rest ∷ more; split = split rest more; possible = possible; holds = holds }

  module _ (old mid new : Option (List TalkEvent)) (before : GoesOn old mid (sent version (ask_message l ∷ []) ++ ins bytes)) where
    -- the talk about the interval is the rest of the lookup's
    talk : (rest : List ℕ) (more : List (List ℕ)) (tail : List TalkEvent)
        → GoesOn mid new (asked version (messages.Query (Sub lo hi)) block (rest ∷ more) ++ tail) → GoesOn old new (said_for version depth (question rest more) ++ tail)
    talk rest more tail went =
        let a = sent version (ask_message l ∷ []) in
        let q = asked version (messages.Query (Sub lo hi)) block (rest ∷ more) in
        subst (GoesOn old new)
        (sym (append_assoc (a ++ ins bytes) q tail) ∙ ap (λ xs. xs ++ tail) (append_assoc a (ins bytes) q ∙ sym (said rest more)))
        (GoesOn-trans old mid new (a ++ ins bytes) (q ++ tail) before went)

    whole_talk : (rest : List ℕ) (more : List (List ℕ)) → GoesOn mid new (asked version (messages.Query (Sub lo hi)) block (rest ∷ more)) → GoesOn old new (said_for version depth (question rest more))
    whole_talk rest more went =
        subst (GoesOn old new) (append-nil _) (talk rest more [] (subst (GoesOn mid new) (sym (append-nil _)) went))

    -- the entries are accepted, and stand alone
    pub answered : (entries : List Entry) → 1 ≤ length block → are_alone l found entries ≡ true
        → subs.IsAnswered version depth stream (Sub lo hi) block mid new (pairs entries)
        → IsAnswered (looking version depth stream) l block old new (stated_answer l entries)
    answered entries some alone a = by_replies a.replies refl
      where
        by_replies : (replies : List (List ℕ)) → a.replies ≡ replies → IsAnswered (looking version depth stream) l block old new (stated_answer l entries)
        by_replies [] is = absurd (omega (arith, some, a.accepted.all, ap length is))
        by_replies (rest ∷ more) is = record {
          replies = outer rest more;
          talk = whole_talk rest more (subst (λ rs. GoesOn mid new (asked version (messages.Query (Sub lo hi)) block rs)) is a.talk);
          accepted = behind rest more (entries, (rw is at a.accepted), alone, refl);
        }

    -- they are accepted, and do not stand alone
    pub not_alone : (entries : List Entry) → 1 ≤ length block → are_alone l found entries ≡ false
        → subs.IsAnswered version depth stream (Sub lo hi) block mid new (pairs entries)
        → IsRejected (looking version depth stream) l block old new depth reasons.NotAlone
    not_alone entries some alone a = by_replies a.replies refl
      where
        by_replies : (replies : List (List ℕ)) → a.replies ≡ replies → IsRejected (looking version depth stream) l block old new depth reasons.NotAlone
        by_replies [] is = absurd (omega (arith, some, a.accepted.all, ap length is))
        by_replies (rest ∷ more) is = record {
          replies = outer rest more;
          talk = talk rest more [] (subst (GoesOn mid new) (sym (append-nil _)) (subst (λ rs. GoesOn mid new (asked version (messages.Query (Sub lo hi)) block rs)) is a.talk));
          faulty = inr (inr (inr (behind rest more (entries, (rw is at a.accepted), alone, refl))));
        }

    -- they have a fault
    pub rejected : (round : ℕ) (reason : Reason) → 1 ≤ length block
        → subs.IsRejected version depth stream (Sub lo hi) block mid new round reason
        → IsRejected (looking version depth stream) l block old new round reason
    rejected round reason some r = by_replies r.replies refl
      where
        by_replies : (replies : List (List ℕ)) → r.replies ≡ replies → IsRejected (looking version depth stream) l block old new round reason
        by_replies [] is = absurd (omega (arith, some, some_min round (length block) some, r.faulty.taken, ap length is))
        by_replies (rest ∷ more) is = record {
          replies = outer rest more;
          talk = talk rest more (ending reason) (subst (λ rs. GoesOn mid new (asked version (messages.Query (Sub lo hi)) block rs ++ ending reason)) is r.talk);
          faulty = inr (inr (inl (behind rest more (rw is at r.faulty))));
        }

    -- what came of the last one was not judged
    pub unrecorded : subs.IsUnrecorded version depth stream (Sub lo hi) block mid new
        → IsUnrecorded (looking version depth stream) l block old new
    unrecorded u = by_replies u.replies refl
      where
        by_replies : (replies : List (List ℕ)) → u.replies ≡ replies → IsUnrecorded (looking version depth stream) l block old new
        by_replies [] is = absurd (omega (arith, ap length (sym is ∙ u.unjudged.taken), length-append u.unjudged.earlier (u.unjudged.last ∷ [])))
        by_replies (rest ∷ more) is = record {
          replies = outer rest more;
          ended = u.ended;
          talk = talk rest more u.ended (subst (λ rs. GoesOn mid new (asked version (messages.Query (Sub lo hi)) block rs ++ u.ended)) is u.talk);
          unjudged = inr (behind rest more (rw is at u.unjudged));
        }

    -- a front of what is said about the interval is one of what is said for the lookup
    front : (rest : List ℕ) (more : List (List ℕ)) (part : List TalkEvent) → IsPrefix part (asked version (messages.Query (Sub lo hi)) block (rest ∷ more))
        → IsPrefix ((sent version (ask_message l ∷ []) ++ ins bytes) ++ part) (said_for version depth (question rest more))
    front rest more part f =
        let a = sent version (ask_message l ∷ []) in (
          f.0,
          said rest more ∙ ap (λ (q : List TalkEvent). a ++ (ins bytes ++ q)) f.1 ∙ sym (append_assoc a (ins bytes) (part ++ f.0)) ∙ sym (append_assoc (a ++ ins bytes) part f.0),
        )

    -- the link stopped while they came
    pub interrupted : 1 ≤ length block → subs.IsInterrupted version depth stream (Sub lo hi) block mid new
        → IsInterrupted (looking version depth stream) l block old new
    interrupted some i = by_replies i.replies refl
      where
        by_replies : (replies : List (List ℕ)) → i.replies ≡ replies → IsInterrupted (looking version depth stream) l block old new
        by_replies [] is = record {
          replies = outer [] [];
          said = (sent version (ask_message l ∷ []) ++ ins bytes) ++ i.said;
          talk = GoesOn-trans old mid new (sent version (ask_message l ∷ []) ++ ins bytes) i.said before i.talk;
          order = front [] [] i.said (subst (λ (rs : List (List ℕ)). IsPrefix i.said (asked version (messages.Query (Sub lo hi)) block rs)) is i.order);
          waits = inr (behind [] [] (none_whole _ block some, none_came _ block));
        }
        by_replies (rest ∷ more) is =
            let due = rw is at i.waits in
            record {
              replies = outer rest more;
              said = (sent version (ask_message l ∷ []) ++ ins bytes) ++ i.said;
              talk = GoesOn-trans old mid new (sent version (ask_message l ∷ []) ++ ins bytes) i.said before i.talk;
              order = front rest more i.said (subst (λ (rs : List (List ℕ)). IsPrefix i.said (asked version (messages.Query (Sub lo hi)) block rs)) is i.order);
              waits = inr (behind rest more (due.1, due.2));
            }
