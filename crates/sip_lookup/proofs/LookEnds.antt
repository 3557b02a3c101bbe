-- What asking a lookup came to, at each end of the call.
use Rattle.std.proofs.Common.{◌≡◌, ◌≤◌, ℕ, ℤ, Bool, true, false, List, [], ◌∷◌, ◌++◌, length, take, drop, Option, Result, Ok, Err, sym, ap, subst, ◌∙◌, inl, inr, append-nil}
use Rattle.std.specs.Prelude.{IsErrAnd}
use Rattle.std.proofs.lemmas.List.{take-append-drop}
use Rattle.sip_ports.specs.declared.port.PortStop.{PortStop}
use Rattle.sip_ports.specs.declared.port.PortStop.TheVariants as ports
use Rattle.sip_ports.specs.declared.port.TalkEvent.{TalkEvent}
use Rattle.sip_ports.specs.Ports.{GoesOn, ins, outs}
use Rattle.sip_ports.proofs.TalkLemmas.{GoesOn-trans, outs-append}
use Rattle.sip_vector.specs.declared.query.Query.TheVariants.{Sub}
use Rattle.sip_vector.specs.declared.update.Entry.{Entry}
use Rattle.sip_vector.specs.declared.update.Side.TheVariants.{First}
use Rattle.sip_vector.specs.declared.update.Update.{Update}
use Rattle.sip_vector.specs.Answers.{Answer, number, pairs}
use Rattle.sip_vector.specs.Steps.{◌>>=◌, needs}
use Rattle.sip_vector.specs.Streams.{vector}
use Rattle.sip_vector.specs.Trees.{root}
use Rattle.sip_field.specs.Moduli.{m61_modulus}
use Rattle.sip_subvec.specs.AcceptsSub.{Stated, gives_root}
use Rattle.sip_subvec.specs.Protocol.{SubAsked, sub_asked, sub_finish, sub_protocol}
use Rattle.sip_replies.specs.Replies.{Fault, in_round, run}
use Rattle.sip_wire.specs.declared.message.Reason.{Reason}
use Rattle.sip_wire.specs.declared.message.Reason.TheVariants as reasons
use Rattle.sip_wire.specs.declared.version.Version.{Version}
use Rattle.sip_wire.specs.Spelling.{spelling}
use Rattle.sip_replies.specs.Talks.{IsPrefix, sent}
use Rattle.sip_verifier.specs.declared.asker.Unanswered.{Unanswered}
use Rattle.sip_verifier.specs.declared.asker.Unanswered.TheVariants as unanswered
use Rattle.sip_verifier.specs.declared.session.SessionFault.{SessionFault}
use Rattle.sip_verifier.specs.declared.session.SessionFault.TheVariants as faults
use Rattle.sip_verifier.specs.declared.session.Verdict.{Verdict}
use Rattle.sip_verifier.specs.declared.session.Verdict.TheVariants as verdicts
use Rattle.sip_verifier.specs.Asking as subs
use Rattle.sip_verifier.specs.runs.Askers.{Asks}
use Rattle.sip_verifier.specs.runs.Asking.{IsAnswered, IsInterrupted, IsRejected, IsUnrecorded}
use Rattle.sip_lookup.specs.declared.lookup.Lookup.{Lookup}
use Rattle.sip_lookup.specs.Frames.{ask_message}
use Rattle.sip_lookup.specs.Hearing.{HearsFound, IsFound, stop_of_link}
use Rattle.sip_lookup.specs.Lookups.{Looked, are_alone, is_possible, range_of, stated_answer}
use Rattle.sip_lookup.specs.Questions.{looking}
use Rattle.sip_lookup.proofs.LookHeard.{ask_cut, found_bad, found_cut, found_faulty, found_unkept}
use Rattle.sip_lookup.proofs.LookAsked as asked

module _ (version : Version) (depth : ℕ) (stream : List Update) (l : Lookup) (block : List ℕ) {G : Type 0} (States : G → Looked → Type 0) where
  abbrev Comes : Option (List TalkEvent) → Option (List TalkEvent) → Result G Unanswered → Type 0
  Comes old new result = Asks (looking version depth stream) (l, block) old new States result

  -- the spelling of the Ask is all that is sent for it
  abbrev ask : List ℕ
  ask = spelling version (ask_message l)

  ask_is : sent version (ask_message l ∷ []) ≡ outs ask
  ask_is = ap outs (append-nil ask)

  pub ask_went : (old mid : Option (List TalkEvent)) → GoesOn old mid (outs ask) → GoesOn old mid (sent version (ask_message l ∷ []))
  ask_went old mid went = subst (GoesOn old mid) (sym ask_is) went

  -- it was not sent whole
  pub ask_comes : (old mid : Option (List TalkEvent)) (port : PortStop) (n : ℕ) → GoesOn old mid (outs (take n ask)) → (result : Result G Unanswered) → IsErrAnd result (λ stop. stop ≡ stop_of_link port) → Comes old mid result
  ask_comes old mid port n went result is =
      let front : IsPrefix (outs (take n ask)) (sent version (ask_message l ∷ [])) = (outs (drop n ask), ask_is ∙ ap outs (sym (take-append-drop n ask)) ∙ outs-append (take n ask) (drop n ask)) in
      by_port port result is (ask_cut version depth stream l block old mid (take n ask) went front)
    where
      by_port : (port : PortStop) (result : Result G Unanswered) → IsErrAnd result (λ stop. stop ≡ stop_of_link port) → IsInterrupted (looking version depth stream) l block old mid → Comes old mid result
      by_port port (Ok given) is cut = absurd is
      by_port ports.Failed (Err stop) is cut = rw is cut
      by_port ports.OutOfMemory (Err stop) is cut = rw is (inl cut)

  module _ (old mid new before now : Option (List TalkEvent)) (went : GoesOn old mid (outs ask)) where
    -- the Found gives no place
    pub unheard_comes : (stop : Unanswered) → HearsFound version mid new before now (Err stop) → Comes old new (Err stop)
    unheard_comes (unanswered.Rejected round reason) (zero_round, h) =
        subst (λ (n : ℕ). IsRejected (looking version depth stream) l block old new n reason) (sym zero_round)
        (found_faulty version depth stream l block old mid new before now (ask_went old mid went) reason h)
    unheard_comes (unanswered.Fault faults.PeerFault) h = found_cut version depth stream l block old mid new before now (ask_went old mid went) h
    unheard_comes (unanswered.Fault faults.KeepFault) h = found_unkept version depth stream l block old mid new before now (ask_went old mid went) h
    unheard_comes (unanswered.Fault faults.OutOfMemory) (inl h) = inl (found_cut version depth stream l block old mid new before now (ask_went old mid went) h)
    unheard_comes (unanswered.Fault faults.OutOfMemory) (inr h) = inr (found_unkept version depth stream l block old mid new before now (ask_went old mid went) h)

    module _ (found : Option ℕ) (heard : IsFound version mid new before now found) where
      -- its place may not be found
      pub bad_comes : is_possible depth l found ≡ false → IsRejected (looking version depth stream) l block old new 0 reasons.BadFound
      bad_comes bad = found_bad version depth stream l block old mid new before now (ask_went old mid went) found bad heard.came

      -- the Ask and the Found are what went before the query
      before_query : GoesOn old new (sent version (ask_message l ∷ []) ++ ins heard.came.bytes)
      before_query = GoesOn-trans old mid new (sent version (ask_message l ∷ [])) (ins heard.came.bytes) (ask_went old mid went) heard.came.heard

      module _ (possible : is_possible depth l found ≡ true) (some : 1 ≤ length block) (end : Option (List TalkEvent)) (entries : List Entry) (r : Result Verdict SessionFault)
          (subs_asked : subs.Asks version depth stream (Sub (range_of depth l found).0 (range_of depth l found).1) block new end entries r) where
        pub answered_comes : r ≡ Ok verdicts.Pairs → are_alone l found entries ≡ true → IsAnswered (looking version depth stream) l block old end (stated_answer l entries)
        answered_comes is alone =
            asked.answered version depth stream l block found heard.came.bytes heard.came.says heard.spelled possible old new end before_query entries some alone
            (subst (subs.Asks version depth stream (Sub (range_of depth l found).0 (range_of depth l found).1) block new end entries) is subs_asked)

        pub crowded_comes : r ≡ Ok verdicts.Pairs → are_alone l found entries ≡ false → IsRejected (looking version depth stream) l block old end depth reasons.NotAlone
        crowded_comes is alone =
            asked.not_alone version depth stream l block found heard.came.bytes heard.came.says heard.spelled possible old new end before_query entries some alone
            (subst (subs.Asks version depth stream (Sub (range_of depth l found).0 (range_of depth l found).1) block new end entries) is subs_asked)

        pub rejected_comes : (round : ℕ) (reason : Reason) → r ≡ Ok (verdicts.Rejected round reason) → IsRejected (looking version depth stream) l block old end round reason
        rejected_comes round reason is =
            asked.rejected version depth stream l block found heard.came.bytes heard.came.says heard.spelled possible old new end before_query round reason some
            (subst (subs.Asks version depth stream (Sub (range_of depth l found).0 (range_of depth l found).1) block new end entries) is subs_asked)

        -- no sub-vector's answer is a number
        pub no_number : (n : ℤ) → r ≡ Ok (verdicts.Number n) → ⊥
        no_number n is =
            let a = subst (subs.Asks version depth stream (Sub (range_of depth l found).0 (range_of depth l found).1) block new end entries) is subs_asked in
            let P = sub_protocol (sub_asked version m61_modulus (root m61_modulus (vector depth stream First) block) (range_of depth l found).0 (range_of depth l found).1 block) in
            by_run (run P.rules block a.replies) a.accepted.found
          where
            asked_at : SubAsked
            asked_at = sub_asked version m61_modulus (root m61_modulus (vector depth stream First) block) (range_of depth l found).0 (range_of depth l found).1 block

            by_test : (test : Bool) (s : Stated) → in_round (length block) (◌>>=◌ {B = Answer} (needs test reasons.Root) (λ _. Ok (pairs s.entries))) ≡ Ok (number n) → ⊥
            by_test true s e = cc
            by_test false s e = cc

            by_run : (x : Result Stated Fault) → ◌>>=◌ {B = Answer} x (λ s. in_round (length block) (sub_finish asked_at s)) ≡ Ok (number n) → ⊥
            by_run (Err fault) e = cc
            by_run (Ok s) e = by_test (gives_root m61_modulus asked_at.root asked_at.lo asked_at.hi block s) s e

        pub stopped_comes : (fault : SessionFault) → r ≡ Err fault → Comes old end (Err (unanswered.Fault fault))
        stopped_comes fault is = by_fault fault (subst (subs.Asks version depth stream (Sub (range_of depth l found).0 (range_of depth l found).1) block new end entries) is subs_asked)
          where
            cut : subs.IsInterrupted version depth stream (Sub (range_of depth l found).0 (range_of depth l found).1) block new end → IsInterrupted (looking version depth stream) l block old end
            cut i = asked.interrupted version depth stream l block found heard.came.bytes heard.came.says heard.spelled possible old new end before_query some i

            unkept : subs.IsUnrecorded version depth stream (Sub (range_of depth l found).0 (range_of depth l found).1) block new end → IsUnrecorded (looking version depth stream) l block old end
            unkept u = asked.unrecorded version depth stream l block found heard.came.bytes heard.came.says heard.spelled possible old new end before_query u

            by_fault : (f : SessionFault) → subs.Asks version depth stream (Sub (range_of depth l found).0 (range_of depth l found).1) block new end entries (Err f) → Comes old end (Err (unanswered.Fault f))
            by_fault faults.PeerFault i = cut i
            by_fault faults.KeepFault u = unkept u
            by_fault faults.OutOfMemory (inl i) = inl (cut i)
            by_fault faults.OutOfMemory (inr u) = inr (unkept u)
