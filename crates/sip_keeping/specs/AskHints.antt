-- The line of advice behind that of a status of the command that asks a sketch.
use Rattle.std.specs.Prelude.{ℕ, ◌+◌, ◌==◌, ◌&&◌, not, Bool, nat_lt, Option, None, Some, List, []}
use Rattle.std.specs.Prelude.{◌∷◌, ◌++◌, codes, decimal, if◌then◌else◌}
use Rattle.sip_vector.specs.declared.update.Side.TheVariants.{First, Second}
use Rattle.sip_wire.specs.declared.message.Held.{Held}
use Rattle.sip_sketch.specs.SeatLines.{kind_word}
use Rattle.sip_sketch.specs.Sketches.{SeatValues, code_of}
use Rattle.sip_sketch.specs.declared.kind.SeatKind.{SeatKind}
use Rattle.sip_sketch.specs.declared.kind.SeatKind.TheVariants.{Above, Entries, Heavy, Products, Sums}
use Rattle.sip_ask.specs.declared.status.AskPort.TheVariants as ports
use Rattle.sip_ask.specs.declared.status.AskStatus.{AskStatus}
use Rattle.sip_ask.specs.declared.status.AskStatus.TheVariants as statuses
use Rattle.sip_keeping.specs.SketchHints.{bad_hint}
use Rattle.sip_keeping.specs.declared.hint_text.TheConstants as hints
use Rattle.sip_keeping.specs.declared.seats_left.SeatsLeft.{SeatsLeft}

-- what may stand at word n, from 1
abbrev pub ask_word_hint : ℕ → List ℕ
ask_word_hint n =
    if n == 1 then hints.SKETCH.now
    else if n == 2 then hints.FROM.now
    else if n == 3 then hints.TO.now
    else hints.QUESTION.now

-- ---- seats that are left

-- a seat is of this kind, and no question has used it
abbrev pub is_left : SeatKind → SeatValues → Bool
is_left kind seat = (code_of seat.kind == code_of kind) && not seat.is_used

-- so many of them are
abbrev pub count_left : SeatKind → List SeatValues → ℕ
count_left kind [] = 0
count_left kind (seat ∷ seats) =
    (if is_left kind seat then 1 else 0) + count_left kind seats

-- how many are left of each kind
abbrev pub left_of : List SeatValues → SeatsLeft
left_of seats = record {
  entries = count_left Entries seats;
  first_sums = count_left (Sums First) seats;
  second_sums = count_left (Sums Second) seats;
  products = count_left Products seats;
  first_heavy = count_left (Heavy First) seats;
  second_heavy = count_left (Heavy Second) seats;
  first_large = count_left (Above First) seats;
  second_large = count_left (Above Second) seats;
}

-- the word that asks for as many, if there are some
abbrev pub left_word : SeatKind → ℕ → List ℕ
left_word kind count =
    if count == 0 then [] else codes " " ++ kind_word kind ++ codes ":" ++ decimal count

abbrev pub left_line : SeatsLeft → List ℕ
left_line left = codes "sip: hint: seats that are left:" ++ left_word Entries left.entries
    ++ left_word (Sums First) left.first_sums ++ left_word (Sums Second) left.second_sums
    ++ left_word Products left.products ++ left_word (Heavy First) left.first_heavy
    ++ left_word (Heavy Second) left.second_heavy ++ left_word (Above First) left.first_large
    ++ left_word (Above Second) left.second_large ++ 10 ∷ []

-- none is
abbrev pub none_left : SeatsLeft → Bool
none_left left = (left.entries == 0) && (left.first_sums == 0) && (left.second_sums == 0)
    && (left.products == 0) && (left.first_heavy == 0) && (left.second_heavy == 0)
    && (left.first_large == 0) && (left.second_large == 0)

-- what is said of them
abbrev pub seats_hint : SeatsLeft → List ℕ
seats_hint left = if none_left left then hints.NO_SEATS.now else left_line left

-- ---- statuses

-- why a helper holds another stream than the sketch is of
abbrev pub step_hint : Held → Held → List ℕ
step_hint held kept =
    if nat_lt held.records kept.records then hints.TOO_FEW.now else hints.OTHERS.now

-- the line of a status that has one of its own here; of the others it is that of other commands
abbrev pub ask_hint : AskStatus → Option (List ℕ)
ask_hint (statuses.BadSketch offset) = Some (bad_hint 0 offset)
ask_hint statuses.Busy = Some hints.BUSY.now
ask_hint statuses.NotWhole = Some hints.NOT_WHOLE.now
ask_hint (statuses.Unfit _) = Some hints.UNFIT.now
ask_hint (statuses.Signed _) = Some hints.SIGNED.now
ask_hint (statuses.OutOfStep held kept) = Some (step_hint held kept)
ask_hint statuses.PeerClosed = Some hints.SILENT.now
ask_hint statuses.ReadFault = Some hints.FILE.now
ask_hint (statuses.WriteFault ports.Sketch) = Some hints.FILE.now
ask_hint _ = None
