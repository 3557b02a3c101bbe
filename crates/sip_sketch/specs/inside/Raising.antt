-- A seat before and after more of a stream.
use Rattle.std.specs.Prelude.{◌≡◌, ◌≢◌, ℕ, ◌+◌, ◌^◌, ◌<◌, ◌≤◌, false, true, pos, ⊤, List, []}
use Rattle.std.specs.Prelude.{◌∷◌, ◌++◌}
use Rattle.std.specs.Int.{from_bool}
use Rattle.std.specs.List.{AllZip}
use Rattle.sip_field.specs.Moduli.{m61_modulus}
use Rattle.sip_tree.specs.Blocks.{total_after}
use Rattle.sip_vector.specs.declared.tally.Tally.{Tally}
use Rattle.sip_vector.specs.declared.update.Side.{Side}
use Rattle.sip_vector.specs.declared.update.Side.TheVariants.{First, Second}
use Rattle.sip_vector.specs.declared.update.Update.{Update}
use Rattle.sip_vector.specs.Streams.{most_weight, weight}
use Rattle.sip_vector.specs.Tallies.{joined, tally}
use Rattle.sip_verifier.specs.QuerySeats.{RunningNumbers, aug_root_is}
use Rattle.sip_sketch.specs.Fields.{IsValue}
use Rattle.sip_sketch.specs.Sketches.{SeatValues, SketchValues, code_of, second_of}
use Rattle.sip_sketch.specs.Standing.{IsKept, SeatStands, Stands}

-- its second number is a value where this is told of the stream
abbrev pub HasSecond : Tally → SeatValues → Type 0
HasSecond t s = IsValue (second_of t (code_of s.kind) (from_bool s.is_used)) s.second

-- a total that is kept is that of no update
abbrev pub StartsAt : RunningNumbers → Type 0
StartsAt (aug_root_is hash total) = total ≡ pos 0
StartsAt _ = ⊤

-- the updates of a side
abbrev pub own_of : Side → List Update → List Update → List Update
own_of First firsts seconds = firsts
own_of Second firsts seconds = seconds

-- a total that is kept is the one behind these updates
abbrev pub IsTotalAfter : RunningNumbers → List Update → RunningNumbers → Type 0
IsTotalAfter (aug_root_is hash total) own (aug_root_is hash' total') =
    total' ≡ total_after total own
IsTotalAfter _ own _ = ⊤

-- an update may come next, where these are the weights of the sides so far
pub record IsNext (depth first second : ℕ) (u : Update) : Type 0 where
  pub item : u.item < 2 ^ depth
  pub delta : u.delta ≢ pos 0
  pub first_side : first + weight (u ∷ []) First ≤ most_weight
  pub second_side : second + weight (u ∷ []) Second ≤ most_weight

-- these updates came to the seat, where it is not used
pub record IsRaised (updates : List Update) (old new : SeatValues) : Type 0 where
  pub kind : new.kind ≡ old.kind
  pub is_used : new.is_used ≡ old.is_used
  pub block : new.block ≡ old.block
  pub first : new.first < m61_modulus
  pub second : (t : Tally) → HasSecond t old → HasSecond (joined t (tally updates)) new
  pub left : old.is_used ≡ true → new ≡ old
  pub stands : (depth : ℕ) (stream : List Update) → old.is_used ≡ false
      → SeatStands depth stream old → SeatStands depth (stream ++ updates) new

-- these updates came to the sketch
pub record IsGrown (updates : List Update) (old new : SketchValues) : Type 0 where
  pub kept : IsKept old new
  pub told : new.tally ≡ joined old.tally (tally updates)
  pub used : AllZip (λ was now. was.is_used ≡ true → now ≡ was) old.seats new.seats
  pub stands : (stream : List Update) → Stands stream old → Stands (stream ++ updates) new
