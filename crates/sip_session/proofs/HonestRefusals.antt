-- The rounds of a query that an honest helper refuses.
use Rattle.std.proofs.Common.{◌≡◌, ◌≢◌, ◌⊎◌, ℕ, ◌≤◌, Bool, true, false, List, [], ◌∷◌, ◌++◌, length, Option, Some, None, Result, Ok, Err, inl, inr, refl, sym, ap, ◌∙◌, subst, append-nil, arith}
use Rattle.std.specs.List.{flat_map}
use Rattle.sip_vector.specs.declared.query.Query.{Query}
use Rattle.sip_vector.specs.declared.update.Update.{Update}
use Rattle.sip_vector.specs.Answers.{Answer}
use Rattle.sip_vector.specs.Steps.{◌>>=◌}
use Rattle.sip_wire.specs.declared.message.Message.{Message}
use Rattle.sip_wire.specs.declared.message.Message.TheVariants as messages
use Rattle.sip_wire.specs.declared.message.Reason.{Reason}
use Rattle.sip_wire.specs.declared.message.Reason.TheVariants as reasons
use Rattle.sip_wire.specs.declared.version.Version.{Version}
use Rattle.sip_wire.specs.Spelling.{spelling}
use Rattle.sip_replies.specs.Protocols.{Protocol}
use Rattle.sip_replies.specs.Replies.{Fault, IsFaulty, IsStated, in_round, read_reply, verdict}
use Rattle.sip_helper.specs.KindRows.{refusal, want_of_memory}
use Rattle.sip_helper.specs.Kinds.{help_row}
use Rattle.sip_helper.specs.Streams.{vectors_of}
use Rattle.sip_helper.specs.Turns.{HelperState, newly_asked, owed, reply_to, step}
use Rattle.sip_helper.specs.Vectors.{Vectors}
use Rattle.sip_duel.proofs.WalkLemmas.{Comes, Round, Walk}
use Rattle.sip_duel.proofs.RevealLemmas.{Then, reveals, walk_then}
use Rattle.sip_duel.proofs.RefusalLemmas.{first_fault}
use Rattle.sip_duel.proofs.QueryLemmas.{IsAtRest}
use Rattle.sip_session.specs.PanelHonesty.{IsRight}
use Rattle.sip_session.proofs.HonestKinds.{IsAskable, IsBarred, reads_refuse, refuse_frame}

module _ (v : Version) (depth : ℕ) (stream : List Update) (q : Query) where
  -- what a last reply comes to: the fault is one for which a helper may be dropped, or the end of the link cut a reply short
  abbrev pub RightLast : Reason → List ℕ → List ℕ → Type 0
  RightLast reason b o = IsRight depth stream q reason ⊎ ((reason ≡ reasons.Closed) × (b ≢ o))

  -- a refusal, for a reason for which a helper may be dropped
  record Refuses (o : List ℕ) : Type 0 where
    code : ℕ
    least : 1 ≤ code
    most : code ≤ 4
    right : IsRight depth stream q (reasons.Refused code)
    owes : o ≡ refuse_frame v code

  -- the helper owes one: for want of memory, or as the query's row says
  module _ (barred : IsBarred v depth stream q) (s : HelperState) (n : ℕ) (rest : IsAtRest v depth (vectors_of depth stream) s n) (refused : Bool) where
    abbrev Owed : List Message → Type 0
    Owed ms = owed (step s refused (messages.Query q)) ≡ flat_map (spelling s.version) ms

    reply_is : (vectors : Option Vectors) → s.vectors ≡ vectors → Owed (reply_to vectors (newly_asked q refused))
    reply_is vectors e = ap (λ x. flat_map (spelling s.version) (reply_to x (newly_asked q refused))) e

    known_is : (r : Bool) → refused ≡ r → s.vectors ≡ Some (vectors_of depth stream) → Owed (reply_to (Some (vectors_of depth stream)) (newly_asked q r))
    known_is r e has = reply_is (Some (vectors_of depth stream)) has ∙ ap (λ r. flat_map (spelling s.version) (reply_to (Some (vectors_of depth stream)) (newly_asked q r))) e

    framed : (code : ℕ) → Owed (refusal code) → owed (step s refused (messages.Query q)) ≡ refuse_frame v code
    framed code e = e ∙ append-nil (refuse_frame s.version code) ∙ ap (λ w. refuse_frame w code) rest.version

    for_memory : Owed (refusal want_of_memory) → Refuses (owed (step s refused (messages.Query q)))
    for_memory e = record { code = want_of_memory; least = omega arith; most = omega arith; right = inl refl; owes = framed want_of_memory e }

    by_refused : (r : Bool) → refused ≡ r → s.vectors ≡ Some (vectors_of depth stream) → Refuses (owed (step s refused (messages.Query q)))
    by_refused true e has = for_memory (known_is true e has)
    by_refused false e has = record {
      code = barred.code;
      least = barred.least;
      most = barred.most;
      right = inr barred.why;
      owes = framed barred.code (known_is false e has ∙ ap (λ c. flat_map (spelling s.version) (elim c as (λ _. List Message) [ Some code ↦ refusal code | None ↦ (help_row q).honest (vectors_of depth stream) [] ])) barred.refused);
    }

    barred_owes : Refuses (owed (step s refused (messages.Query q)))
    barred_owes = elim rest.vectors [
      | inl none ↦ for_memory (reply_is None none)
      | inr has ↦ by_refused refused refl has
    ]

  -- ---- its replies

  module _ {S : Type 0} (P : Protocol S) (can : IsAskable v depth stream P) (block : List ℕ) where
    -- how the refusal is read
    on_refused : (b u w o : List ℕ) (r : Refuses o) → b ++ u ≡ o ++ w → (read_reply P.rules P.rules.start b ≡ Err (reasons.Refused r.code)) ⊎ ((read_reply P.rules P.rules.start b ≡ Err reasons.Closed) × (b ≢ o))
    on_refused b u w o r agree =
        elim (reads_refuse P.rules P.rules.start r.code r.least r.most (can.refuses r.code) can.place b u w (agree ∙ ap (λ l. l ++ w) (r.owes ∙ ap (λ x. refuse_frame x r.code) (sym can.version)))) [
          | inl e ↦ inl e
          | inr e ↦ inr (e.0, λ same. e.1 (same ∙ r.owes ∙ ap (λ x. refuse_frame x r.code) (sym can.version)))
        ]

    -- a fault of the first reply is that of all
    first_verdict : (b : List ℕ) (bs : List (List ℕ)) (reason : Reason) → read_reply P.rules P.rules.start b ≡ Err reason → verdict P block (b ∷ bs) ≡ Err (record { round = 0; reason = reason })
    first_verdict b bs reason e = ap (λ r. r >>= λ s. in_round (length block) (P.finish s)) (first_fault P.rules block P.rules.start b bs reason e)

    not_stated : (b : List ℕ) (bs : List (List ℕ)) (a : Answer) → IsStated P block (b ∷ bs) a → (reason : Reason) → read_reply P.rules P.rules.start b ≡ Err reason → ⊥
    not_stated b bs a stated reason e = let both : ◌≡◌ {A = Result Answer Fault} (Ok a) (Err (record { round = 0; reason = reason })) = sym stated.found ∙ first_verdict b bs reason e in cc

    -- such replies are never accepted
    pub barred_accepted : IsBarred v depth stream q → (Last : List ℕ → List ℕ → Type 0) (s : HelperState) (n : ℕ) → IsAtRest v depth (vectors_of depth stream) s n → Comes v s (messages.Query q)
        → (b : List ℕ) (bs : List (List ℕ)) (a : Answer) → IsStated P block (b ∷ bs) a → (tail : List Round) → Walk Last v s (record { message = messages.Query q; reply = b } ∷ (reveals block bs ++ tail))
    barred_accepted barred Last s n rest comes b bs a stated tail =
        walk_then Last v s (record { message = messages.Query q; reply = b }) (reveals block bs ++ tail) comes
        (λ refused u w agree. absurd (elim (on_refused b u w (owed (step s refused (messages.Query q))) (barred_owes barred s n rest refused) agree) [
          | inl e ↦ not_stated b bs a stated (reasons.Refused (barred_owes barred s n rest refused).code) e
          | inr e ↦ not_stated b bs a stated reasons.Closed e.0
        ]))

    module _ (b : List ℕ) (fault : Fault) where
      first_same : (bs : List (List ℕ)) → IsFaulty P block (b ∷ bs) fault → (reason : Reason) → read_reply P.rules P.rules.start b ≡ Err reason → fault ≡ record { round = 0; reason = reason }
      first_same bs faulty reason e =
          let both : ◌≡◌ {A = Result Answer Fault} (Err fault) (Err (record { round = 0; reason = reason })) = sym faulty.found ∙ first_verdict b bs reason e in cc

      -- the first reply alone was taken
      one_taken : (next : List ℕ) (bs : List (List ℕ)) → IsFaulty P block (b ∷ next ∷ bs) fault → (reason : Reason) → read_reply P.rules P.rules.start b ≡ Err reason → ⊥
      one_taken next bs faulty reason e = absurd (omega (arith, faulty.taken, ap (λ (f : Fault). f.round) (first_same (next ∷ bs) faulty reason e)))

      at_first : (bs : List (List ℕ)) → IsFaulty P block (b ∷ bs) fault → (t : HelperState) (r : Refuses (owed t)) (u w : List ℕ) → b ++ u ≡ owed t ++ w → Then (RightLast fault.reason) v t b (reveals block bs ++ [])
      at_first [] faulty t r u w agree = elim (on_refused b u w (owed t) r agree) [
        | inl e ↦ inl (subst (IsRight depth stream q) (sym (ap (λ (f : Fault). f.reason) (first_same [] faulty (reasons.Refused r.code) e))) r.right)
        | inr e ↦ inr (ap (λ (f : Fault). f.reason) (first_same [] faulty reasons.Closed e.0), e.1)
      ]
      at_first (next ∷ bs) faulty t r u w agree = absurd (elim (on_refused b u w (owed t) r agree) [
        | inl e ↦ one_taken next bs faulty (reasons.Refused r.code) e
        | inr e ↦ one_taken next bs faulty reasons.Closed e.0
      ])

      -- a fault of them is a right one
      pub barred_faulty : IsBarred v depth stream q → (s : HelperState) (n : ℕ) → IsAtRest v depth (vectors_of depth stream) s n → Comes v s (messages.Query q)
          → (bs : List (List ℕ)) → IsFaulty P block (b ∷ bs) fault → Walk (RightLast fault.reason) v s (record { message = messages.Query q; reply = b } ∷ (reveals block bs ++ []))
      barred_faulty barred s n rest comes bs faulty =
          walk_then (RightLast fault.reason) v s (record { message = messages.Query q; reply = b }) (reveals block bs ++ []) comes
          (λ refused u w agree. at_first bs faulty (step s refused (messages.Query q)) (barred_owes barred s n rest refused) u w agree)
