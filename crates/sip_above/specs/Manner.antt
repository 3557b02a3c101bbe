-- How large entries of any stream are asked and judged, what is promised of a helper that lies, and
-- what an honest one does.
use Rattle.std.specs.Prelude.{◌≡◌, ◌≤◌, ℕ, ◌*◌, ◌/◌, ◌-◌, ◌^◌, Bool, ℤ, pos}
use Rattle.std.specs.Prelude.{List, [], ◌∷◌, map, flat_map, nat_le, Option, Some, None, if◌then◌else◌}
use Rattle.sip_field.specs.Moduli.{m61_modulus}
use Rattle.sip_vector.specs.declared.update.Entry.{Entry}
use Rattle.sip_vector.specs.declared.update.Update.{Update}
use Rattle.sip_vector.specs.Answers.{pairs}
use Rattle.sip_vector.specs.Splits.{weights}
use Rattle.sip_vector.specs.Streams.{int_sum, vector, weight}
use Rattle.sip_vector.specs.Thresholds.{is_wide, most_hitters}
use Rattle.sip_wire.specs.declared.message.Message.TheVariants as messages
use Rattle.sip_wire.specs.declared.version.Version.{Version}
use Rattle.sip_wire.specs.Spelling.{spelling}
use Rattle.sip_counts.specs.Clauses.{FewAndCounted}
use Rattle.sip_counts.specs.Strategies.{Strategy, IsOfBytes, fooled}
use Rattle.sip_replies.specs.Protocols.{Protocol}
use Rattle.sip_replies.specs.Replies as general
use Rattle.sip_replies.specs.Talks.{asked_unless}
use Rattle.sip_heavy.specs.Counting.{accepts_above, above_over, is_right_above}
use Rattle.sip_heavy.specs.Honest.{heavy_of}
use Rattle.sip_heavy.specs.HonestMarks.{above_replies}
use Rattle.sip_heavy.specs.Protocol.{HeavyState, count_of}
use Rattle.sip_verifier.specs.declared.status.Status.{Status}
use Rattle.sip_verifier.specs.declared.status.Status.TheVariants as statuses
use Rattle.sip_verifier.specs.Questions.{IsDue}
use Rattle.sip_verifier.specs.Reports as reports
use Rattle.sip_verifier.specs.Widths.{first_true}
use Rattle.sip_verifier.specs.runs.CompletenessClause.{Honesty}
use Rattle.sip_verifier.specs.runs.CountClause.{Counting}
use Rattle.sip_verifier.specs.runs.Manners.{Asking, Question}
use Rattle.sip_above.specs.declared.large.Large.{Large}
use Rattle.sip_above.specs.Questions.{ask_of, query_of}

-- the entries of the side, and their weights
abbrev pub values_of : ℕ → List Update → Large → List ℤ
values_of depth stream l = vector depth stream l.side

abbrev pub weights_of : ℕ → List Update → Large → List ℤ
weights_of depth stream l = weights depth stream l.side

-- the large entries that the stream's own vector has
abbrev pub answer : ℕ → List Update → Large → List Entry
answer depth stream l = heavy_of l.at_least (values_of depth stream l)

-- ---- asking

-- the protocol of the replies to a question
abbrev pub protocol_of : Version → ℕ → List Update → Question Large → Protocol HeavyState
protocol_of version depth stream q =
    above_over version m61_modulus depth q.query.at_least (values_of depth stream q.query)
    (weights_of depth stream q.query) q.block

-- the weight of the side may have more entries of at least the threshold than are asked for
abbrev pub is_too_wide : List Update → Large → Bool
is_too_wide stream l = is_wide l.at_least (pos (weight stream l.side))

-- the number of the first such question, counted from 1
abbrev pub first_wide : List Update → List Large → Option ℕ
first_wide stream larges = first_true (map (is_too_wide stream) larges)

-- where there is one, the run ends with it
abbrev pub is_refused : List Update → List Large → Status → Type 0
is_refused stream larges (statuses.TooWide query) = first_wide stream larges ≡ Some query
is_refused stream larges _ = ⊥

-- Below the threshold nothing is said: the answer is known.
abbrev pub asking : Asking Large (List Entry)
asking version depth stream = record {
  said_for = λ q. asked_unless (protocol_of version depth stream q).unasked version
      (ask_of q.query) q.block q.replies;
  Accepts = λ q entries. general.IsAccepted (protocol_of version depth stream q) q.block
      q.replies (pairs entries);
  IsFaulty = λ q fault. general.IsFaulty (protocol_of version depth stream q) q.block q.replies
      fault;
  IsUnfinished = λ q. general.IsUnfinished (protocol_of version depth stream q).rules q.block
      q.replies;
  IsWaiting = λ q. IsDue (protocol_of version depth stream q) q.block q.replies;
  IsUnjudged = λ q ended. general.IsUnjudged (protocol_of version depth stream q) q.block
      q.replies ended;
  line = λ l entries. reports.line (query_of l) (pairs entries);
  farewell = flat_map (spelling version) (messages.Bye ∷ []);
  MayAsk = λ larges. first_wide stream larges ≡ None;
  Refuses = is_refused stream;
}

-- ---- counting

-- over p^(d - 1)
abbrev pub bound_of : ℕ → ℕ
bound_of depth = 3 * depth

-- whether replies are accepted at a block, and whether they say the right entries
abbrev pub accepts_at : Version → ℕ → List Update → Large → List ℕ → List (List ℕ) → Bool
accepts_at version depth stream l =
    accepts_above version m61_modulus depth l.at_least (values_of depth stream l)
    (weights_of depth stream l)

abbrev pub is_right_for : Version → ℕ → List Update → Large → List (List ℕ) → Bool
is_right_for version depth stream l =
    is_right_above version m61_modulus depth l.at_least (values_of depth stream l)
    (weights_of depth stream l)

-- no helper has wrong entries accepted at more than 3·d·p^(d - 1) blocks, whatever their signs
abbrev pub FewFor : Version → ℕ → List Update → Large → Type 0
FewFor version depth stream l = (strategy : Strategy) → IsOfBytes strategy
    → fooled m61_modulus depth (accepts_at version depth stream l)
    (is_right_for version depth stream l) strategy
    ≤ bound_of depth * m61_modulus ^ (depth - 1)

-- what a call that writes these entries for a question promises of a helper that lies
abbrev pub CountsFor : Version → ℕ → List Update → Question Large → List Entry → Type 0
CountsFor version depth stream q written =
    FewAndCounted m61_modulus depth (bound_of depth) (accepts_at version depth stream q.query)
    (is_right_for version depth stream q.query) q.block q.replies (Some written)
    (answer depth stream q.query)

abbrev pub counting : Counting Large (List Entry)
counting = record { FewFor = FewFor; CountsFor = CountsFor }

-- ---- honesty

-- the bytes of all honest replies to a question at its block: none where the weights add up to less
-- than the threshold
abbrev pub honest_bytes : Version → ℕ → List Update → Large × List ℕ → List ℕ
honest_bytes version depth stream (l, block) =
    if nat_le l.at_least (count_of (int_sum (weights_of depth stream l)))
    then flat_map (λ b. b)
    (above_replies m61_modulus (values_of depth stream l) (weights_of depth stream l) l.at_least
    block)
    else []

-- an honest helper answers where the weight has no more such entries than are asked for
abbrev pub CanAnswer : List Update → Large → Type 0
CanAnswer stream l = weight stream l.side / l.at_least ≤ most_hitters

abbrev pub honesty : Honesty Large (List Entry)
honesty = record {
  CanAnswer = λ version depth stream l. CanAnswer stream l;
  honest_bytes = honest_bytes;
  answer = answer;
}
