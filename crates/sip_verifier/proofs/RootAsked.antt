-- A sub-vector that is asked for by a root which stands for the stream.
use Rattle.std.proofs.Common.{◌≡◌, ◌^◌, ◌<◌, ◌≤◌, ℕ, Option, Result, List, [], ◌∷◌, length, take, refl, subst}
use Rattle.std.specs.Prelude.{IsTrue}
use Rattle.sip_field.specs.Moduli.{m61_modulus}
use Rattle.sip_ports.specs.declared.port.TalkEvent.{TalkEvent}
use Rattle.sip_replies.specs.declared.asking.AskStop.{AskStop}
use Rattle.sip_replies.specs.declared.check.Said.{Said}
use Rattle.sip_replies.specs.Asking.{Answers}
use Rattle.sip_subvec.specs.Protocol.{sub_asked, sub_protocol}
use Rattle.sip_tree.specs.StandsFor.{RootStandsFor}
use Rattle.sip_vector.specs.declared.query.Query.TheVariants.{Sub}
use Rattle.sip_vector.specs.declared.update.Entry.{Entry}
use Rattle.sip_vector.specs.declared.update.Side.TheVariants.{First}
use Rattle.sip_vector.specs.declared.update.Update.{Update}
use Rattle.sip_vector.specs.Streams.{IsLegal, vector}
use Rattle.sip_wire.specs.declared.message.Message.TheVariants as messages
use Rattle.sip_wire.specs.declared.version.Version.{Version}
use Rattle.sip_wire.specs.declared.version.Version.TheVariants.{One, Two}
use Rattle.sip_wire.specs.Spelling.{fits}
use Rattle.sip_wire.specs.Versions.{deepest, speaks}
use Rattle.sip_wire.proofs.Asking.{query-fits}
use Rattle.sip_verifier.specs.declared.session.SessionFault.{SessionFault}
use Rattle.sip_verifier.specs.declared.session.Verdict.{Verdict}
use Rattle.sip_verifier.specs.Asking.{AnswersCount, Asks}
use Rattle.sip_verifier.specs.inside.Judging.{found_in, verdict_of}
use Rattle.sip_verifier.specs.QuerySeats.{Seated, root_is}
use Rattle.sip_verifier.specs.ReplyBound.{ReplyBound}
use Rattle.sip_verifier.proofs.AnswersCounted.{answers_count}
use Rattle.sip_verifier.proofs.QueryAsked.{asks}
use Rattle.sip_verifier.proofs.SeatAsked.{sub_is_protocol}
use Rattle.sip_verifier.proofs.SeatLevels.{seat_levels}
use Rattle.sip_verifier.proofs.ShortTalks.{asks_short}

-- a sub-vector has a code in each version
pub has_code : (version : Version) (lo hi : ℕ) → IsTrue (speaks version (Sub lo hi))
has_code One lo hi = refl
has_code Two lo hi = refl

-- and a spelling, where the interval fits a depth of the version
pub interval_fits : (version : Version) (depth lo hi : ℕ) → lo ≤ hi → hi < 2 ^ depth → depth ≤ deepest version
    → IsTrue (fits version (messages.Query (Sub lo hi)))
interval_fits version depth lo hi order within shallow =
    query-fits version depth (Sub lo hi) (record { shallow = shallow; has_code = has_code version lo hi }) (order, within)

-- what the general talk did for it, at this block
abbrev pub RootAnswers : Version → ℕ → ℕ → List ℕ → ℕ → List ℕ → Option (List TalkEvent) → Option (List TalkEvent)
    → Option (List TalkEvent) → Option (List TalkEvent) → List Entry → Result Said AskStop → Type 0
RootAnswers version lo hi block value at old new before now places result =
    Answers (sub_protocol (sub_asked version m61_modulus value lo hi block)) (messages.Query (Sub lo hi)) at old new before now places result

module _ (version : Version) (lo hi : ℕ) (block : List ℕ) (value : ℕ) (depth : ℕ) (stream : List Update)
    (stands : RootStandsFor m61_modulus block value (vector depth stream First)) where
  -- the seat of such a query
  abbrev seated : Seated
  seated = record { query = Sub lo hi; block = block; running = root_is value }

  -- it has a challenge for each level
  levels : length block ≡ depth
  levels = seat_levels depth stream (seated ∷ []) (Sub lo hi) seated (record { more = []; first = refl; asks = refl; stands = stands })

  -- what was asked and answered
  pub root_asks : (old new before now : Option (List TalkEvent)) (places : List Entry) (result : Result Said AskStop)
      → RootAnswers version lo hi block value block old new before now places result
      → Asks version depth stream (Sub lo hi) block old new (take (found_in (length places) result) places) (verdict_of result)
  root_asks old new before now places result answers =
      asks version depth stream (Sub lo hi) block old new before now (sub_protocol (sub_asked version m61_modulus value lo hi block))
      (sub_is_protocol version depth stream (Sub lo hi) block lo hi value refl stands) places result answers

  module _ (old new : Option (List TalkEvent)) (entries : List Entry) (result : Result Verdict SessionFault)
      (asked : Asks version depth stream (Sub lo hi) block old new entries result) where
    -- an answer counts
    pub root_counts : lo ≤ hi → hi < 2 ^ length block → IsLegal depth stream → AnswersCount version depth stream (Sub lo hi) block old new entries result
    root_counts order within legal =
        answers_count version depth stream (Sub lo hi) block old new (order, subst (λ (d : ℕ). hi < 2 ^ d) levels within) legal entries result asked

    -- and no more bytes were taken than the bound
    pub root_short : ReplyBound version depth stream (Sub lo hi) old new
    root_short = asks_short version depth stream block levels (Sub lo hi) old new entries result asked
