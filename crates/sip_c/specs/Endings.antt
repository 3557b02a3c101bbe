-- How asking ended, as numbers.
use Rattle.std.specs.Prelude.{ℕ, Ok, Err}
use Rattle.sip_ask.specs.declared.status.AskStatus.{AskStatus}
use Rattle.sip_ask.specs.declared.status.AskStatus.TheVariants as statuses
use Rattle.sip_wire.specs.declared.message.Held.{Held}
use Rattle.sip_wire.specs.declared.message.Reason.{Reason}
use Rattle.sip_c.specs.Reasons.{reason_number, refusal_code}
use Rattle.sip_c.specs.Statuses.{Answer}
use Rattle.sip_c.specs.declared.ending.Ending.{Ending}
use Rattle.sip_c.specs.declared.refusal.Refusal.{Refusal}
use Rattle.sip_c.specs.declared.refusal.Refusal.TheVariants as refusals

-- an ending of which the status says all
abbrev pub plain : Ending
plain = record {
  records = 0;
  weight_0 = 0;
  weight_1 = 0;
  fingerprint = 0;
  question = 0;
  round = 0;
  reason = 0;
  refusal = 0;
}

abbrev pub about : ℕ → Ending
about question = record plain { question = question }

abbrev pub rejected : ℕ → ℕ → Reason → Ending
rejected question round reason = record plain {
  question = question;
  round = round;
  reason = reason_number reason;
  refusal = refusal_code reason;
}

abbrev pub holding : Held → Ending
holding held = record plain {
  records = held.records;
  weight_0 = held.first;
  weight_1 = held.second;
  fingerprint = held.fingerprint;
}

-- what is told of a status
abbrev pub ending_at : AskStatus → Ending
ending_at (statuses.Rejected query round reason) = rejected query round reason
ending_at (statuses.Unfit query) = about query
ending_at (statuses.Signed query) = about query
ending_at (statuses.NoSeat query) = about query
ending_at (statuses.TooWide query) = about query
ending_at (statuses.TooHigh query) = about query
ending_at (statuses.OutOfStep held kept) = holding held
ending_at _ = plain

-- the refusal of one that is none of all that was asked
abbrev pub refusal_at : AskStatus → Refusal
refusal_at (statuses.Rejected query round reason) = refusals.Rejected
refusal_at statuses.NotWhole = refusals.NotWhole
refusal_at (statuses.Unfit query) = refusals.Unfit
refusal_at (statuses.Signed query) = refusals.Signed
refusal_at (statuses.NoSeat query) = refusals.NoSeat
refusal_at (statuses.TooWide query) = refusals.TooWide
refusal_at (statuses.TooHigh query) = refusals.TooHigh
refusal_at (statuses.OutOfStep held kept) = refusals.OutOfStep
refusal_at statuses.BadFrame = refusals.BadFrame
refusal_at statuses.OutOfMemory = refusals.NoMemory
refusal_at _ = refusals.PeerClosed

-- the answer
abbrev pub answer_at : AskStatus → Answer
answer_at statuses.Accepted = Ok tt
answer_at status = Err (refusal_at status)
