-- The numbers that calls answer.
use Rattle.std.specs.Prelude.{◌≡◌, ℕ, Result, Ok, Err}
use Rattle.sip_c.specs.declared.refusal.Refusal.{Refusal}
use Rattle.sip_c.specs.declared.refusal.Refusal.TheVariants.{NoMemory, Empty, Full}
use Rattle.sip_c.specs.declared.refusal.Refusal.TheVariants.{NoRoom, BadLength, BadCode}
use Rattle.sip_c.specs.declared.refusal.Refusal.TheVariants.{BadDepth, BadPart, SeedSpent}
use Rattle.sip_c.specs.declared.refusal.Refusal.TheVariants.{BadSketch, BadSide, BadItem}
use Rattle.sip_c.specs.declared.refusal.Refusal.TheVariants.{ZeroDelta, TooHeavy, OtherShape}
use Rattle.sip_c.specs.declared.refusal.Refusal.TheVariants.{Whole, UsedSeat, NotNext}
use Rattle.sip_c.specs.declared.refusal.Refusal.TheVariants.{OtherHandle, NotNow, NotWhole}
use Rattle.sip_c.specs.declared.refusal.Refusal.TheVariants.{Unfit, Signed, NoSeat}
use Rattle.sip_c.specs.declared.refusal.Refusal.TheVariants.{TooWide, TooHigh, Rejected}
use Rattle.sip_c.specs.declared.refusal.Refusal.TheVariants.{OutOfStep, BadFrame, PeerClosed}

-- the number of the status of a refusal; no two have the same
abbrev pub refusal_number : Refusal → ℕ
refusal_number NoMemory = 1
refusal_number Empty = 2
refusal_number Full = 3
refusal_number NoRoom = 5
refusal_number BadLength = 7
refusal_number BadCode = 8
refusal_number BadDepth = 16
refusal_number BadPart = 17
refusal_number SeedSpent = 18
refusal_number BadSketch = 19
refusal_number BadSide = 24
refusal_number BadItem = 25
refusal_number ZeroDelta = 26
refusal_number TooHeavy = 27
refusal_number OtherShape = 32
refusal_number Whole = 33
refusal_number UsedSeat = 34
refusal_number NotNext = 35
refusal_number OtherHandle = 4
refusal_number NotNow = 6
refusal_number NotWhole = 40
refusal_number Unfit = 41
refusal_number Signed = 42
refusal_number NoSeat = 43
refusal_number TooWide = 44
refusal_number TooHigh = 45
refusal_number Rejected = 48
refusal_number OutOfStep = 49
refusal_number BadFrame = 50
refusal_number PeerClosed = 51

-- what a call answers, but for what it writes
abbrev pub Answer : Type 0
Answer = Result Unit Refusal

-- the number of its status
abbrev pub number_of : Answer → ℕ
number_of (Ok _) = 0
number_of (Err why) = refusal_number why

-- the number is that of the status of an answer of which this holds
abbrev pub IsNumberOf : ℕ → (Answer → Type 0) → Type 0
IsNumberOf number P = (answer : Answer) × (number ≡ number_of answer) × P answer
