-- A sketch before and after more updates.
use Rattle.std.proofs.Common.{◌≡◌, ℕ, ◌^◌, ◌<◌, ◌≤◌, false, List, length, All, get_or, sym, subst, refl}
use Rattle.std.specs.List.{AllZip}
use Rattle.sip_vector.specs.Limits.{most_depth}
use Rattle.sip_vector.specs.Streams.{of_side}
use Rattle.sip_vector.specs.Tallies.{joined, tally}
use Rattle.sip_vector.specs.declared.tally.Tally.{Tally}
use Rattle.sip_vector.specs.declared.update.Side.TheVariants.{First, Second}
use Rattle.sip_vector.specs.declared.update.Update.{Update}
use Rattle.sip_verifier.specs.QuerySeats.{HasRoom}
use Rattle.sip_sketch.specs.declared.sketch.Sketch.TheInside.{Inside}
use Rattle.sip_sketch.specs.Seats.{numbers_kept, side_of}
use Rattle.sip_sketch.specs.Sketches.{IsSketch, SeatValues, SketchValues}
use Rattle.sip_sketch.specs.Standing.{MayCome}
use Rattle.sip_sketch.specs.inside.Raising.{IsGrown, IsRaised, own_of}
use Rattle.sip_sketch.proofs.Coming.{next_fits, next_room, next_shallow, own_below}
use Rattle.sip_sketch.proofs.Lifted.{RaisedTo, raised-all, zip-fits, zip-kept, zip-left, zip-stands}
use Rattle.sip_sketch.proofs.Sound.{come_sound, goes_on, head_with, print_small, sound_from, sound_joined}
use Rattle.sip_sketch.proofs.Whole.{fits_from, head_from, sketch_from}

-- what is seen of a sketch that has these fields
abbrev pub seen : Inside → SketchValues
seen s = record { depth = s.depth; parts = s.parts; tally = s.tally; seats = s.seats.items }

-- what the updates of the sides keep to, so that they may come to this seat
pub record SeatTakes (firsts seconds : List Update) (seat : SeatValues) : Type 0 where
  pub shallow : length seat.block ≤ most_depth
  pub firsts_below : All (λ u. u.item < 2 ^ length seat.block) firsts
  pub seconds_below : All (λ u. u.item < 2 ^ length seat.block) seconds
  pub room : seat.is_used ≡ false → HasRoom (numbers_kept seat.kind seat.first seat.second) (own_of (side_of seat.kind) firsts seconds)

-- the next seat, where they have come to those before it
pub next_seat : (s now : SketchValues) (updates firsts seconds : List Update) (k : ℕ) (new : List SeatValues) (d : SeatValues) → s ≡ now → IsSketch s
    → MayCome now updates → firsts ≡ of_side updates First → seconds ≡ of_side updates Second
    → RaisedTo updates k now.seats new → k < length new → SeatTakes firsts seconds (get_or new k d)
next_seat s now updates firsts seconds k new d same sketch come one other raised lt =
    let is = subst IsSketch same sketch in
    let fits = next_fits now updates k new d is raised lt in
    record {
      shallow = next_shallow now (get_or new k d) is fits;
      firsts_below = own_below now (get_or new k d) updates firsts First come fits one;
      seconds_below = own_below now (get_or new k d) updates seconds Second come fits other;
      room = next_room now (get_or new k d) updates firsts seconds fits come one other;
    }

-- the sketch with these seats, of which more is told
abbrev pub grown : SketchValues → List Update → List SeatValues → SketchValues
grown s updates seats = record { depth = s.depth; parts = s.parts; tally = joined s.tally (tally updates); seats = seats }

module _ (s : SketchValues) (updates : List Update) (new : List SeatValues) (come : MayCome s updates) (all : AllZip (IsRaised updates) s.seats new) where
  pub grown_sketch : IsSketch s → length new ≡ length s.seats → IsSketch (grown s updates new)
  grown_sketch is long =
      let head = head_from s is in
      let sound = sound_joined s.tally (tally updates) (sound_from s head) (come_sound s updates come) come.first come.second in
      sketch_from (grown s updates new) (head_with s (joined s.tally (tally updates)) new head sound (print_small s.tally (tally updates)) long)
      (zip-fits updates s.depth s.tally s.seats new (fits_from s is) all)

  pub is_grown : IsGrown updates s (grown s updates new)
  is_grown = record {
    kept = record { depth = refl; parts = refl; seats = zip-kept updates s.seats new all };
    told = refl;
    used = zip-left updates s.seats new all;
    stands = λ stream stands. (let on = goes_on s stream updates stands come in
        record { legal = on.0; told = on.1; seats = zip-stands updates s.depth stream s.seats new stands.seats all });
  }

-- the same of the fields that are left behind the last seat
module _ (s now : SketchValues) (updates : List Update) (k : ℕ) (t : Tally) (seats new : List SeatValues) (same : s ≡ now) (told : t ≡ joined s.tally (tally updates))
    (items : seats ≡ new) (come : MayCome now updates) (raised : RaisedTo updates k now.seats new) (last : length s.seats ≤ k) where
  is_left : record { depth = s.depth; parts = s.parts; tally = t; seats = seats } ≡ grown s updates new
  is_left = λ i. record { depth = s.depth; parts = s.parts; tally = told i; seats = items i }

  has_come : MayCome s updates
  has_come = subst (λ (x : SketchValues). MayCome x updates) (sym same) come

  all_come : AllZip (IsRaised updates) s.seats new
  all_come = raised-all updates k s.seats new (subst (λ (x : SketchValues). RaisedTo updates k x.seats new) (sym same) raised) last

  pub all_sketch : IsSketch s → length new ≡ length s.seats → IsSketch (record { depth = s.depth; parts = s.parts; tally = t; seats = seats })
  all_sketch is long = subst IsSketch (sym is_left) (grown_sketch s updates new has_come all_come is long)

  pub all_grown : IsGrown updates now (record { depth = s.depth; parts = s.parts; tally = t; seats = seats })
  all_grown = subst (λ (x : SketchValues). IsGrown updates x (record { depth = s.depth; parts = s.parts; tally = t; seats = seats })) same
      (subst (IsGrown updates s) (sym is_left) (is_grown s updates new has_come all_come))
