-- The numbers of reasons, and how a talk ended.
use Rattle.std.specs.Prelude.{ℕ}
use Rattle.sip_wire.specs.declared.message.Reason.{Reason}
use Rattle.sip_wire.specs.declared.message.Reason.TheVariants as reasons

-- the number of a reason
abbrev pub reason_number : Reason → ℕ
reason_number reasons.Closed = 1
reason_number reasons.BadKind = 2
reason_number reasons.BadLength = 3
reason_number reasons.BadCount = 4
reason_number reasons.BadNumber = 5
reason_number (reasons.Refused code) = 6
reason_number reasons.BadOrder = 7
reason_number reasons.TooMany = 8
reason_number reasons.BadFlags = 9
reason_number reasons.HeavySibling = 10
reason_number reasons.Pairs = 11
reason_number reasons.LightParent = 12
reason_number reasons.Sum = 13
reason_number reasons.Total = 14
reason_number reasons.Root = 15
reason_number reasons.BadFound = 16
reason_number reasons.NotAlone = 17

-- the code of a refusal; 0 where there is none
abbrev pub refusal_code : Reason → ℕ
refusal_code (reasons.Refused code) = code
refusal_code _ = 0
