-- What is told of a sketch.
use Rattle.std.specs.Prelude.{◌≡◌, ℕ, ◌<◌, ◌≤◌, Bool, Ok, Err, length, get_or}
use Rattle.sip_sketch.specs.Sketches.{SeatValues, SketchValues, code_of}
use Rattle.sip_c.specs.Statuses.{Answer}
use Rattle.sip_c.specs.declared.refusal.Refusal.TheVariants as refusals
use Rattle.sip_c.specs.declared.telling.SketchTold.{SketchTold}

-- all but its secrets
abbrev pub told_of : SketchValues → SketchTold
told_of s = record {
  records = s.tally.count;
  weight_0 = s.tally.first;
  weight_1 = s.tally.second;
  fingerprint = s.tally.fingerprint;
  parts = s.parts.count;
  first_part = s.parts.first;
  last_part = s.parts.last;
  seats = length s.seats;
  depth = s.depth;
  negative_0 = s.tally.negatives.first;
  negative_1 = s.tally.negatives.second;
}

-- the sketch stays as it was, and that is told
abbrev pub Tells : SketchTold → SketchValues → Answer → SketchValues → Type 0
Tells told s answer t = (answer ≡ Ok tt) × (t ≡ s) × (told ≡ told_of s)

-- what the seat at this place serves, and whether a question has used it
pub record IsSeat (s : SketchValues) (place kind : ℕ) (is_used : Bool) : Type 0 where
  pub inside : place < length s.seats
  pub kind_is : (d : SeatValues) → kind ≡ code_of (get_or s.seats place d).kind
  pub used_is : (d : SeatValues) → is_used ≡ (get_or s.seats place d).is_used

-- the sketch stays as it was, and that is told where there is such a seat
abbrev pub TellsSeat : ℕ → ℕ → ℕ → Bool → Bool → SketchValues → Answer → SketchValues → Type 0
TellsSeat place kind kind' is_used is_used' s (Ok done) t = (t ≡ s) × IsSeat s place kind' is_used'
TellsSeat place kind kind' is_used is_used' s (Err refusals.BadLength) t =
    (t ≡ s) × (length s.seats ≤ place) × (kind' ≡ kind) × (is_used' ≡ is_used)
TellsSeat place kind kind' is_used is_used' s _ t = ⊥
