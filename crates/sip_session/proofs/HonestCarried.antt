-- A panel with an honest helper is carried, or memory ran out.
use Rattle.std.proofs.Common.{◌≡◌, ◌⊎◌, ℕ, ◌-◌, ◌*◌, ◌<◌, ◌≤◌, List, [], ◌∷◌, ◌++◌, length, None, inl, inr, refl, sym, ap, ◌∙◌, subst, append_assoc, arith}
use Rattle.std.proofs.lemmas.Bool.{cases_eq, cases_lt}
use Rattle.sip_stream.proofs.LegalRecords.{records_legal}
use Rattle.sip_vector.specs.declared.update.Update.{Update}
use Rattle.sip_vector.specs.Limits.{most_depth}
use Rattle.sip_wire.specs.declared.message.Reason.{Reason}
use Rattle.sip_wire.specs.declared.message.Reason.TheVariants as reasons
use Rattle.sip_wire.specs.Table.{most_queries}
use Rattle.sip_replies.specs.Replies.{Fault}
use Rattle.sip_helper.specs.KindRows.{want_of_memory}
use Rattle.sip_verifier.specs.declared.status.Port.TheVariants as ports
use Rattle.sip_verifier.specs.declared.status.Status.{Status}
use Rattle.sip_verifier.specs.declared.status.Status.TheVariants as statuses
use Rattle.sip_verifier.specs.declared.task.Task.{Task}
use Rattle.sip_verifier.specs.CompletenessClause.{HasFewEntries, NoneRose}
use Rattle.sip_verifier.specs.Gathering.{legal}
use Rattle.sip_verifier.specs.Snapshots.{Counts}
use Rattle.sip_verifier.specs.Questions.{asking}
use Rattle.sip_verifier.specs.runs.CauseClause.{CanBeJudged, CauseClause}
use Rattle.sip_verifier.specs.Tasks.{CanBeDone, version_of}
use Rattle.sip_verifier.proofs.Blocks.{none_drawn}
use Rattle.sip_verifier.proofs.WideQueries.{none_wide}
use Rattle.sip_session.specs.PanelEnds.{AllDropped, Ends}
use Rattle.sip_session.specs.PanelExchanges.{PanelExchange, without_links}
use Rattle.sip_session.specs.PanelHonesty.{IsGood, IsHonest, IsRejected, IsRight, RanOut}
use Rattle.sip_session.specs.Panels.{Attempt, AreAttempts, AreInTurn, Outcome, Turn, accepted, first_turn, inquiry_of_panel, next_turn, rejected, seat_queries, turn_behind}
use Rattle.sip_session.proofs.HonestKinds.{few_reason}
use Rattle.sip_session.proofs.HonestAttempts.{Said, at_place, none_or_said, turn_of}
use Rattle.sip_session.proofs.HonestDropped.{of_turn, right_reason}

-- an attempt dropped this helper
record Drop (attempts : List Attempt) (helper : ℕ) : Type 0 where
  earlier : List Attempt
  last : Attempt
  later : List Attempt
  are : attempts ≡ earlier ++ last ∷ later
  who : last.turn.helper ≡ helper
  fault : Fault
  outcome : last.outcome ≡ rejected fault

-- the attempts in front of others are in turn
front_in_turn : (turn : Turn) (before rest : List Attempt) → AreInTurn turn (before ++ rest) → AreInTurn turn before
front_in_turn turn [] rest are = tt
front_in_turn turn (b ∷ before) rest are = (are.0, front_in_turn (next_turn turn b.outcome) before rest are.1)

-- each helper whose turn is over was dropped
find : (turn : Turn) (attempts : List Attempt) (helper : ℕ) → AreInTurn turn attempts → turn.helper ≤ helper → helper < (turn_behind turn attempts).helper → Drop attempts helper
find turn [] helper are least less = absurd (omega (arith, least, less))
find turn (a ∷ attempts) helper are least less = by_outcome a.outcome refl (λ from. find (next_turn turn a.outcome) attempts helper are.1 from less)
  where
    later : Drop attempts helper → Drop (a ∷ attempts) helper
    later d = record { earlier = a ∷ d.earlier; last = d.last; later = d.later; are = ap (λ l. a ∷ l) d.are; who = d.who; fault = d.fault; outcome = d.outcome }

    by_outcome : (o : Outcome) → a.outcome ≡ o → ((next_turn turn a.outcome).helper ≤ helper → Drop attempts helper) → Drop (a ∷ attempts) helper
    by_outcome (accepted given) e on = later (on (omega (arith, least, ap (λ o. (next_turn turn o).helper) e)))
    by_outcome (rejected fault) e on = elim (cases_eq turn.helper helper) [
      | inl same ↦ record { earlier = []; last = a; later = attempts; are = refl; who = ap (λ (t : Turn). t.helper) are.0 ∙ same; fault = fault; outcome = e }
      | inr other ↦ later (on (omega (arith, least, other, ap (λ o. (next_turn turn o).helper) e)))
    ]

-- with more attempts behind
with_more : (attempts before later : List Attempt) (helper : ℕ) → attempts ≡ before ++ later → Drop before helper → Drop attempts helper
with_more attempts before later helper are d = record {
  earlier = d.earlier;
  last = d.last;
  later = d.later ++ later;
  are = are ∙ ap (λ l. l ++ later) d.are ∙ append_assoc d.earlier (d.last ∷ d.later) later;
  who = d.who;
  fault = d.fault;
  outcome = d.outcome;
}

-- where the last helper was dropped each one was
all_dropped : (helpers number : ℕ) (fault : Fault) (attempts before : List Attempt) (last : Attempt) → AreInTurn first_turn attempts → attempts ≡ before ++ last ∷ [] → last.turn ≡ record { helper = helpers; number = number } → last.outcome ≡ rejected fault
    → (helper : ℕ) → 1 ≤ helper → helper ≤ helpers → Drop attempts helper
all_dropped helpers number fault attempts before last in_turn are turn outcome helper least most = elim (cases_lt helper helpers) [
  | inl less ↦
      let cut_in = subst (AreInTurn first_turn) are in_turn in
      let behind : (turn_behind first_turn before).helper ≡ helpers = ap (λ (t : Turn). t.helper) (sym (turn_of first_turn before last [] cut_in) ∙ turn) in
      with_more attempts before (last ∷ []) helper are
      (find first_turn before helper (front_in_turn first_turn before (last ∷ []) cut_in) (omega (arith, least)) (omega (arith, less, behind)))
  | inr whole ↦ record { earlier = before; last = last; later = []; are = are; who = ap (λ (t : Turn). t.helper) turn ∙ (let same : helpers ≡ helper = omega (arith, whole, most) in same); fault = fault; outcome = outcome }
]

module _ (helpers : ℕ) (task : Task) (x : PanelExchange) (some : 1 ≤ task.depth) (most : task.depth ≤ most_depth) (room : length task.queries.items ≤ most_queries) (can : CanBeDone task)
    (attempts : List Attempt) (are : AreAttempts helpers task x.seed x.stream attempts) (good : IsGood helpers task x) where
  abbrev U : List Update
  U = legal task x.stream

  -- every helper was dropped, and each honest one for want of memory
  ran_out : (number : ℕ) (fault : Fault) → AllDropped helpers task x attempts number fault → CanBeJudged asking (inquiry_of_panel helpers task x.seed) (without_links x) → Said helpers task x attempts → RanOut helpers task x attempts
  ran_out number fault all judged said helper least within honest =
      let d = all_dropped helpers number fault attempts all.before all.last are.in_turn all.are all.turn all.outcome helper least within in
      let right : IsRight task.depth U d.last.question.query d.fault.reason =
      right_reason helpers task x some most room can attempts are judged said d.earlier d.last d.later d.are d.fault d.outcome (subst (IsHonest helpers task x) (sym d.who) honest) in
      let place = of_turn helpers task x some most room can attempts are judged said d.earlier d.last d.later d.are in
      let few = at_place (HasFewEntries (version_of task) task.depth U) task.queries.items (d.last.turn.number - 1) d.last.question.query good.few place.query in
      let reason : d.fault.reason ≡ reasons.Refused want_of_memory = few_reason (version_of task) task.depth U (records_legal task.depth task.form x.stream) d.last.question.query few d.fault.reason right in
      record {
        earlier = d.earlier;
        last = d.last;
        later = d.later;
        are = d.are;
        who = d.who;
        round = d.fault.round;
        outcome = d.outcome ∙ ap (λ (r : Reason). rejected (record { round = d.fault.round; reason = r })) reason;
      }

  not_drawn : (inquiry_of_panel helpers task x.seed).challenges ≡ None → ⊥
  not_drawn none = let is = good.drawn in cc

  abbrev Ended : Status → Type 0
  Ended status = (status ≡ statuses.Accepted) ⊎ (status ≡ statuses.OutOfMemory) ⊎ (IsRejected status × RanOut helpers task x attempts)

  -- how it ended, where no port failed
  pub carried : (before now : Counts) (status : Status) → Ends helpers task x attempts status → CauseClause asking (inquiry_of_panel helpers task x.seed) (without_links x) before now status
      → NoneRose before now → Ended status
  carried before now statuses.Accepted ends cause none = inl refl
  carried before now (statuses.Rejected query round reason) ends cause none =
      inr (inr ((query, round, reason, refl), ran_out query (record { round = round; reason = reason }) ends cause (said_of (none_or_said helpers task x attempts (statuses.Rejected query round reason) ends))))
    where
      said_of : (attempts ≡ []) ⊎ Said helpers task x attempts → Said helpers task x attempts
      said_of (inl nothing) = absurd (let no = sym nothing ∙ ends.are in by_before ends.before no)
        where
          by_before : (l : List Attempt) → [] ≡ l ++ ends.last ∷ [] → ⊥
          by_before [] e = cc
          by_before (a ∷ l) e = cc
      said_of (inr said) = said
  carried before now (statuses.BadStream at why) ends cause none = absurd (let fault = cause.2 in let legal = good.to_end in cc)
  carried before now (statuses.TooWide query) ends cause none =
      absurd (let narrow = none_wide (version_of task) task.depth U task.queries.items (records_legal task.depth task.form x.stream).items good.few in let wide = cause.1 in cc)
  carried before now (statuses.TooHigh query) ends cause none = absurd cause.1
  carried before now statuses.BadSeed ends cause none = absurd (not_drawn (none_drawn (task.depth * length (seat_queries helpers task.queries.items)) x.seed cause))
  carried before now statuses.SeedSpent ends cause none = absurd (not_drawn cause.1)
  carried before now (statuses.ReadFault ports.First) ends cause none = absurd (none.first cause.1)
  carried before now (statuses.ReadFault ports.Second) ends cause none = absurd (none.second cause)
  carried before now (statuses.WriteFault ports.Report) ends cause none = absurd (none.report cause.1)
  carried before now (statuses.WriteFault ports.Keep) ends cause none = absurd (none.keep cause.2)
  carried before now statuses.PeerFault ends cause none = absurd (none.peer cause.1)
  carried before now statuses.OutOfMemory ends cause none = inr (inl refl)
  carried before now (statuses.WriteFault _) ends cause none = absurd cause.1
  carried before now _ ends cause none = absurd cause
