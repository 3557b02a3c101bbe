-- How moments are asked and judged in a run, what is promised of a helper that lies, and what an
-- honest one does.
use Rattle.std.specs.Prelude.{◌≡◌, ◌≤◌, ℕ, ◌*◌, ◌-◌, ◌^◌, Bool, false, ℤ, List, [], ◌∷◌, ◌++◌}
use Rattle.std.specs.Prelude.{codes, map, flat_map, Option, Some, None}
use Rattle.std.specs.Fmt.{signed_decimal}
use Rattle.sip_field.specs.Moduli.{m61_modulus}
use Rattle.sip_vector.specs.Answers.{number}
use Rattle.sip_vector.specs.Streams.{vector, weight}
use Rattle.sip_vector.specs.declared.update.Update.{Update}
use Rattle.sip_wire.specs.declared.message.Message.TheVariants as messages
use Rattle.sip_wire.specs.declared.version.Version.{Version}
use Rattle.sip_wire.specs.Spelling.{spelling}
use Rattle.sip_counts.specs.Clauses.{FewAndCounted}
use Rattle.sip_counts.specs.Strategies.{Strategy, IsOfBytes, fooled}
use Rattle.sip_replies.specs.Protocols.{Protocol}
use Rattle.sip_replies.specs.Replies as general
use Rattle.sip_replies.specs.Talks.{asked}
use Rattle.sip_verifier.specs.declared.status.Status.{Status}
use Rattle.sip_verifier.specs.declared.status.Status.TheVariants as statuses
use Rattle.sip_verifier.specs.Questions.{IsDue}
use Rattle.sip_verifier.specs.Reports.{parameter, side_parameter}
use Rattle.sip_verifier.specs.Widths.{first_true}
use Rattle.sip_verifier.specs.runs.CompletenessClause.{Honesty}
use Rattle.sip_verifier.specs.runs.CountClause.{Counting}
use Rattle.sip_verifier.specs.runs.Manners.{Asking, Question}
use Rattle.sip_moments.specs.declared.moment.Moment.{Moment}
use Rattle.sip_moments.specs.AcceptsMoment.{power_at}
use Rattle.sip_moments.specs.Counting.{accepts_moment, is_right}
use Rattle.sip_moments.specs.Honest.{honest_replies}
use Rattle.sip_moments.specs.Moments.{IsDegree, is_too_high, moment}
use Rattle.sip_moments.specs.Protocol.{MomentState, moment_asked, moment_protocol}
use Rattle.sip_moments.specs.Questions.{ask_of}

-- the numbers of the side that a moment is of
abbrev pub numbers_of : ℕ → List Update → Moment → List ℤ
numbers_of depth stream m = vector depth stream m.side

-- the moment that the stream's own vector has
abbrev pub answer : ℕ → List Update → Moment → ℤ
answer depth stream m = moment m.degree (numbers_of depth stream m)

-- ---- asking

-- the protocol of the replies to a question
abbrev pub protocol_of : Version → ℕ → List Update → Question Moment → Protocol MomentState
protocol_of version depth stream q = moment_protocol (moment_asked version m61_modulus
    q.query.degree (power_at m61_modulus q.query.degree (numbers_of depth stream q.query) q.block))

-- the word that asks a moment, with which its line begins
abbrev pub moment_word : Moment → List ℕ
moment_word m = codes "moment" ++ side_parameter m.side ++ parameter m.degree

-- the line of an accepted moment: its word, a space, the number, a line feed
abbrev pub line : Moment → ℤ → List ℕ
line m z = moment_word m ++ codes " " ++ signed_decimal z ++ 10 ∷ []

-- a claim may have no room for the moment, by the weight of its side
abbrev pub is_high : List Update → Moment → Bool
is_high stream m = is_too_high (weight stream m.side) m.degree

-- the number of the first such moment, counted from 1
abbrev pub first_high : List Update → List Moment → Option ℕ
first_high stream moments = first_true (map (is_high stream) moments)

-- where there is one, the run ends with it
abbrev pub is_refused : List Update → List Moment → Status → Type 0
is_refused stream moments (statuses.TooHigh query) = first_high stream moments ≡ Some query
is_refused stream moments _ = ⊥

abbrev pub asking : Asking Moment ℤ
asking version depth stream = record {
  said_for = λ q. asked version (ask_of q.query) q.block q.replies;
  Accepts = λ q claim. general.IsAccepted (protocol_of version depth stream q) q.block q.replies
      (number claim);
  IsFaulty = λ q fault. general.IsFaulty (protocol_of version depth stream q) q.block q.replies
      fault;
  IsUnfinished = λ q. general.IsUnfinished (protocol_of version depth stream q).rules q.block
      q.replies;
  IsWaiting = λ q. IsDue (protocol_of version depth stream q) q.block q.replies;
  IsUnjudged = λ q ended. general.IsUnjudged (protocol_of version depth stream q) q.block
      q.replies ended;
  line = line;
  farewell = flat_map (spelling version) (messages.End ∷ []);
  MayAsk = λ moments. first_high stream moments ≡ None;
  Refuses = is_refused stream;
}

-- ---- counting

-- over p^(d - 1): a polynomial of degree k for each level
abbrev pub bound_of : ℕ → Moment → ℕ
bound_of depth m = m.degree * depth

-- whether replies to a moment are accepted at a block, and whether they say the right number
abbrev pub accepts_at : Version → ℕ → List Update → Moment → List ℕ → List (List ℕ) → Bool
accepts_at version depth stream m =
    accepts_moment version m61_modulus m.degree (numbers_of depth stream m)

abbrev pub is_right_for : Version → ℕ → List Update → Moment → List (List ℕ) → Bool
is_right_for version depth stream m =
    is_right version m61_modulus m.degree (answer depth stream m)

-- a moment for which a claim has room; another is not asked
pub record CanBeCounted (stream : List Update) (m : Moment) : Type 0 where
  pub degree : IsDegree m.degree
  pub low : is_high stream m ≡ false

-- no helper has a wrong moment accepted at more than k·d·p^(d - 1) blocks
abbrev pub FewFor : Version → ℕ → List Update → Moment → Type 0
FewFor version depth stream m = CanBeCounted stream m → (strategy : Strategy) → IsOfBytes strategy
    → fooled m61_modulus depth (accepts_at version depth stream m)
    (is_right_for version depth stream m) strategy
    ≤ bound_of depth m * m61_modulus ^ (depth - 1)

-- what a call that writes this number for a question promises of a helper that lies
abbrev pub CountsFor : Version → ℕ → List Update → Question Moment → ℤ → Type 0
CountsFor version depth stream q written = CanBeCounted stream q.query
    → FewAndCounted m61_modulus depth (bound_of depth q.query)
    (accepts_at version depth stream q.query) (is_right_for version depth stream q.query)
    q.block q.replies (Some written) (answer depth stream q.query)

abbrev pub counting : Counting Moment ℤ
counting = record { FewFor = FewFor; CountsFor = CountsFor }

-- ---- honesty

-- the bytes of all honest replies to a moment at its block
abbrev pub honest_bytes : Version → ℕ → List Update → Moment × List ℕ → List ℕ
honest_bytes version depth stream (m, block) = flat_map (λ b. b)
    (honest_replies version m61_modulus m.degree depth (numbers_of depth stream m) block)

abbrev pub honesty : Honesty Moment ℤ
honesty = record {
  CanAnswer = λ version depth stream m. CanBeCounted stream m;
  honest_bytes = honest_bytes;
  answer = answer;
}
