-- The rounds of a query whose replies have a fault: an honest helper shows none but its refusal for want of memory.
use Rattle.std.proofs.Common.{◌≡◌, ◌≢◌, ◌⊎◌, ℕ, ◌+◌, ◌<◌, ◌≤◌, List, [], ◌∷◌, ◌++◌, length, None, Result, Ok, Err, inl, inr, refl, sym, ap, ◌∙◌, subst, append-nil, arith, length-append}
use Rattle.std.specs.Prelude.{All}
use Rattle.std.proofs.lemmas.List.{nil_from_length}
use Rattle.sip_vector.specs.Answers.{Answer, answer}
use Rattle.sip_vector.specs.Steps.{◌>>=◌}
use Rattle.sip_vector.specs.declared.query.Query.{Query}
use Rattle.sip_vector.specs.declared.update.Update.{Update}
use Rattle.sip_wire.specs.declared.message.Message.TheVariants as messages
use Rattle.sip_wire.specs.declared.message.Reason.{Reason}
use Rattle.sip_wire.specs.declared.message.Reason.TheVariants as reasons
use Rattle.sip_wire.specs.declared.version.Version.{Version}
use Rattle.sip_replies.specs.Protocols.{Protocol}
use Rattle.sip_replies.specs.Replies.{Fault, IsFaulty, in_round, joined, read_reply, run, verdict}
use Rattle.sip_replies.proofs.Agreeing.{run_fault, run_same}
use Rattle.sip_replies.proofs.Fronts.{closed_or_not}
use Rattle.sip_helper.specs.KindRows.{want_of_memory}
use Rattle.sip_helper.specs.Kinds.{help_row}
use Rattle.sip_helper.specs.Serving.{IsMessage}
use Rattle.sip_helper.specs.Streams.{vectors_of}
use Rattle.sip_helper.specs.Turns.{HelperState, owed}
use Rattle.sip_duel.proofs.WalkLemmas.{Comes, Walk}
use Rattle.sip_duel.proofs.RevealLemmas.{AreWholeSoFar, Then, fault_so_far, honest, replies_from, reveals, run_whole, so_far, walk_then}
use Rattle.sip_duel.proofs.RefusalLemmas.{first_fault, front_run, refusal_frame}
use Rattle.sip_duel.proofs.KindLemmas.{IsAsked}
use Rattle.sip_duel.proofs.QueryLemmas.{IsAtRest, agree_all, on_refused, own_front, ran, walk_query, whole_not_refused}

-- what a last reply comes to: the fault is that refusal, or the end of the link cut a reply short
abbrev pub FaultLast : Reason → List ℕ → List ℕ → Type 0
FaultLast reason b o = (reason ≡ reasons.Refused want_of_memory) ⊎ ((reason ≡ reasons.Closed) × (b ≢ o))

module _ (v : Version) (depth : ℕ) (stream : List Update) (q : Query) (block : List ℕ) {S : Type 0} (P : Protocol S) (hs : List (List ℕ)) (asked : IsAsked v depth stream q block P hs)
    (none : (help_row q).refused_by (vectors_of depth stream) ≡ None) (fit : All (λ c. IsMessage v (messages.Reveal c)) block) (size : length block ≡ depth) (some : 1 ≤ depth)
    (b : List ℕ) (bs : List (List ℕ)) (fault : Fault) (faulty : IsFaulty P block (b ∷ bs) fault) where
  abbrev Last : List ℕ → List ℕ → Type 0
  Last = FaultLast fault.reason

  -- the replies are whole, or the fault is that of one of them
  by_run : (run P.rules block (b ∷ bs) ≡ Err fault) ⊎ ((t : S) × (run P.rules block (b ∷ bs) ≡ Ok t) × (fault.round ≡ length block))
  by_run = on (run P.rules block (b ∷ bs)) refl faulty.found
    where
      in_last : (r : Result Answer Reason) → in_round (length block) r ≡ Err fault → fault.round ≡ length block
      in_last (Ok x) e = absurd cc
      in_last (Err reason) e = let same : fault ≡ record { round = length block; reason = reason } = cc in ap (λ (f : Fault). f.round) same

      on : (r : Result S Fault) → run P.rules block (b ∷ bs) ≡ r → (r >>= λ s. in_round (length block) (P.finish s)) ≡ Err fault
          → (run P.rules block (b ∷ bs) ≡ Err fault) ⊎ ((t : S) × (run P.rules block (b ∷ bs) ≡ Ok t) × (fault.round ≡ length block))
      on (Ok t) is e = inr (t, is, in_last (P.finish t) e)
      on (Err f) is e = inl (let all : ◌≡◌ {A = Result Answer Fault} (Err f) (Err fault) = e in let same : f ≡ fault = cc in is ∙ ap (λ (x : Fault). Err x) same)

  whole_front : AreWholeSoFar P.rules block P.rules.start (b ∷ bs)
  whole_front = elim by_run [
    | inl e ↦ fault_so_far P.rules 0 block P.rules.start (b ∷ bs) fault e (omega (arith, faulty.taken))
    | inr e ↦ so_far P.rules block P.rules.start (b ∷ bs) (run_whole P.rules 0 block P.rules.start (b ∷ bs) e.0 e.1)
  ]

  first_reason : (reason : Reason) → read_reply P.rules P.rules.start b ≡ Err reason → fault.reason ≡ reason
  first_reason reason e =
      let all : verdict P block (b ∷ bs) ≡ Err (record { round = 0; reason = reason }) = ap (λ r. r >>= λ s. in_round (length block) (P.finish s)) (first_fault P.rules block P.rules.start b bs reason e) in
      let same : ◌≡◌ {A = Result Answer Fault} (Err fault) (Err (record { round = 0; reason = reason })) = sym faulty.found ∙ all in
      let one : fault ≡ record { round = 0; reason = reason } = cc in ap (λ (f : Fault). f.reason) one

  refusal : (rest : List (List ℕ)) → bs ≡ rest → (t : HelperState) → owed t ≡ refusal_frame v → (u w : List ℕ) → b ++ u ≡ refusal_frame v ++ w → Then Last v t b (reveals block rest ++ [])
  refusal [] is t owes u w agree = elim (on_refused Last v depth stream q block P hs asked none fit size some b u w agree) [
    | inl e ↦ inl (first_reason (reasons.Refused want_of_memory) e)
    | inr e ↦ inr (first_reason reasons.Closed e.0, λ same. e.1 (same ∙ owes))
  ]
  refusal (next ∷ rest) is t owes u w agree =
      let so = subst (λ l. AreWholeSoFar P.rules block P.rules.start (b ∷ l)) is whole_front in
      absurd (whole_not_refused Last v depth stream q block P hs asked none fit size some b u w so.0 so.1 agree)

  at_last : (n : ℕ) (earlier more : List (List ℕ)) (last o : List ℕ) → b ∷ bs ≡ earlier ++ last ∷ [] → replies_from (honest v depth (vectors_of depth stream) q none n) [] block ≡ earlier ++ o ∷ more → (u w : List ℕ) → last ++ u ≡ o ++ w → Last last o
  at_last n earlier more last o split front u w agree = elim by_run [
    | inl e ↦ elim (closed_or_not fault.reason) [
      | inl closed ↦ inr (
        closed,
        λ same.
            let ok = own.1 ∙ refl in
            let both : ◌≡◌ {A = Result S Fault} (Ok own.0) (Err fault) = sym own.1 ∙ ap (run P.rules block) (sym (split ∙ ap (λ x. earlier ++ x ∷ []) same)) ∙ e in cc,
      )
      | inr other ↦ absurd (run_fault P.rules 0 block P.rules.start (earlier ++ o ∷ []) (b ∷ bs) w u own.0 fault own.1 e sizes (omega (arith, faulty.taken)) other
          (λ before start byte is. (record { round = length before; reason = reasons.Closed }, faulty.shortest before start byte is other, refl)) bytes)
    ]
    | inr e ↦
        let none_more : more ≡ [] = nil_from_length more (omega (arith, e.2, faulty.taken, asked.stated.all, ap (λ (l : List (List ℕ)). length l) all, ap (λ (l : List (List ℕ)). length l) split, length-append (earlier ++ o ∷ []) more, length-append earlier (o ∷ []), length-append earlier (last ∷ []))) in
        let exact : hs ≡ earlier ++ o ∷ [] = all ∙ ap (λ l. (earlier ++ o ∷ []) ++ l) none_more ∙ append-nil (earlier ++ o ∷ []) in
        let same = run_same P.rules 0 block P.rules.start (earlier ++ o ∷ []) (b ∷ bs) w u own.0 e.0 own.1 e.1 (omega (arith, sizes_same)) bytes in
        let both : ◌≡◌ {A = Result Answer Fault} (Ok (answer depth stream q)) (Err fault) = sym asked.stated.found ∙ ap (verdict P block) (exact ∙ same.0) ∙ faulty.found in absurd cc
  ]
    where
      all : hs ≡ (earlier ++ o ∷ []) ++ more
      all = own_front Last v depth stream q block P hs asked none fit size some n earlier more o front

      own : (x : S) × (run P.rules block (earlier ++ o ∷ []) ≡ Ok x)
      own = let its = ran Last v depth stream q block P hs asked none fit size some hs (answer depth stream q) asked.stated.found in front_run P.rules 0 block P.rules.start (earlier ++ o ∷ []) more its.0 (ap (run P.rules block) (sym all) ∙ its.1)

      sizes_same : length (b ∷ bs) ≡ length (earlier ++ o ∷ [])
      sizes_same = ap (λ (l : List (List ℕ)). length l) split ∙ (let n : length (earlier ++ last ∷ []) ≡ length (earlier ++ o ∷ []) = omega (arith, length-append earlier (last ∷ []), length-append earlier (o ∷ [])) in n)

      sizes : length (b ∷ bs) ≤ length (earlier ++ o ∷ [])
      sizes = omega (arith, sizes_same)

      bytes : joined (earlier ++ o ∷ []) ++ w ≡ joined (b ∷ bs) ++ u
      bytes = agree_all Last v depth stream q block P hs asked none fit size some earlier last o u w agree ∙ ap (λ l. joined l ++ u) (sym split)

  pub walk_faulty : (s : HelperState) (n : ℕ) → IsAtRest v depth (vectors_of depth stream) s n → Comes v s (messages.Query q) → Walk Last v s (record { message = messages.Query q; reply = b } ∷ (reveals block bs ++ []))
  walk_faulty s n rest comes =
      walk_then Last v s (record { message = messages.Query q; reply = b }) (reveals block bs ++ []) comes
      (walk_query Last v depth stream q block P hs asked none fit size some s n rest b bs [] (let few : length bs < length block = omega (arith, faulty.taken) in few) whole_front (refusal bs refl)
      (λ earlier more last t behind is count split front u w agree. at_last (n + 1) earlier more last (owed t) split front u w agree))
