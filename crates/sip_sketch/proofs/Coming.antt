-- The next seat has room for what may come.
use Rattle.std.proofs.Common.{◌≡◌, ℕ, ◌+◌, ◌^◌, ◌<◌, ◌≤◌, false, List, length, All, get_or, refl, sym, subst}
use Rattle.std.proofs.lemmas.List.Elements.{All-filter}
use Rattle.sip_vector.specs.Limits.{most_depth}
use Rattle.sip_vector.specs.Streams.{most_weight, of_side, same_side, weight}
use Rattle.sip_vector.specs.declared.update.Side.{Side}
use Rattle.sip_vector.specs.declared.update.Side.TheVariants.{First, Second}
use Rattle.sip_vector.specs.declared.update.Update.{Update}
use Rattle.sip_verifier.specs.QuerySeats.{HasRoom}
use Rattle.sip_sketch.specs.declared.cursor.Size.TheVariants.{Byte}
use Rattle.sip_sketch.specs.Seats.{numbers_kept, side_of}
use Rattle.sip_sketch.specs.Sketches.{IsSketch, SeatValues, SketchValues}
use Rattle.sip_sketch.specs.Standing.{MayCome}
use Rattle.sip_sketch.specs.inside.Raising.{own_of}
use Rattle.sip_sketch.proofs.Kept.{IsTold, kept_room, weight_told}
use Rattle.sip_sketch.proofs.Lifted.{RaisedTo, raised-next-old}
use Rattle.sip_sketch.proofs.Runs.{own_is}
use Rattle.sip_sketch.proofs.Whole.{SeatFits, fits_from, head_from, ranged_from}

-- the next seat fits as it did
pub next_fits : (s : SketchValues) (updates : List Update) (k : ℕ) (new : List SeatValues) (d : SeatValues) → IsSketch s → RaisedTo updates k s.seats new → k < length new
    → SeatFits s.depth s.tally (get_or new k d)
next_fits s updates k new d is raised lt =
    let here = raised-next-old updates k s.seats new d raised lt in
    subst (SeatFits s.depth s.tally) (sym here.1) (fits_from s is k d here.0)

pub next_shallow : (s : SketchValues) (seat : SeatValues) → IsSketch s → SeatFits s.depth s.tally seat → length seat.block ≤ most_depth
next_shallow s seat is fits = subst (λ n. n ≤ most_depth) (sym fits.levels) (ranged_from Byte 1 most_depth s.depth (head_from s is).depth).1

-- those of a side are below
pub own_below : (s : SketchValues) (seat : SeatValues) (updates own : List Update) (side : Side) → MayCome s updates → SeatFits s.depth s.tally seat → own ≡ of_side updates side
    → All (λ u. u.item < 2 ^ length seat.block) own
own_below s seat updates own side come fits is =
    let Below : Update → Type 0 = λ u. u.item < 2 ^ s.depth in
    subst (λ n. All (λ (u : Update). u.item < 2 ^ n) own) (sym fits.levels)
    (subst (All Below) (sym is) (All-filter (λ (u : Update). same_side u.side side) Below updates come.items))

side_light : (s : SketchValues) (updates : List Update) (side : Side) → MayCome s updates → weight_told s.tally side + weight updates side ≤ most_weight
side_light s updates First come = come.first
side_light s updates Second come = come.second

pub next_room : (s : SketchValues) (seat : SeatValues) (updates firsts seconds : List Update) → SeatFits s.depth s.tally seat → MayCome s updates
    → firsts ≡ of_side updates First → seconds ≡ of_side updates Second → seat.is_used ≡ false
    → HasRoom (numbers_kept seat.kind seat.first seat.second) (own_of (side_of seat.kind) firsts seconds)
next_room s seat updates firsts seconds fits come one other unused =
    let told = subst (λ b. IsTold s.tally seat.kind b seat.second) unused fits.second in
    subst (λ (l : List Update). HasRoom (numbers_kept seat.kind seat.first seat.second) l) (sym (own_is seat.kind (side_of seat.kind) updates firsts seconds refl one other))
    (kept_room seat.kind s.tally seat.first seat.second updates told (side_light s updates (side_of seat.kind) come))
