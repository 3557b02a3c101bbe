-- A sketch and the next part of its stream.
use Rattle.std.proofs.Common.{◌≡◌, ◌≢◌, ℕ, ◌-◌, ◌^◌, ◌<◌, false, pos, List, ◌++◌, length, get_or, sym, ap, ap₂, subst, ◌∙◌, arith}
use Rattle.std.specs.List.{AllZip}
use Rattle.std.proofs.lemmas.List.Elements.{All-append}
use Rattle.sip_vector.specs.Streams.{IsLegal}
use Rattle.sip_vector.specs.Tallies.{joined}
use Rattle.sip_vector.specs.declared.tally.Tally.{Tally}
use Rattle.sip_vector.specs.declared.update.Update.{Update}
use Rattle.sip_vector.proofs.Joined.{tally-append}
use Rattle.sip_sketch.specs.declared.cursor.Size.TheVariants.{Word}
use Rattle.sip_sketch.specs.Joining.{added, added_seats, same_seat}
use Rattle.sip_sketch.specs.Sketches.{IsSketch, SeatValues, SketchValues}
use Rattle.sip_sketch.specs.Standing.{SeatStands, Stands}
use Rattle.sip_sketch.specs.inside.Adding.{AddUp}
use Rattle.sip_sketch.proofs.Added.{added-at, added-length, added_fits, added_stands, seats_add_up, zip-from}
use Rattle.sip_sketch.proofs.Alike.{Joins, alike-at, alike-length, none_used, seats_block, seats_kind}
use Rattle.sip_sketch.proofs.Sound.{head_with, print_small, sound_from, sound_joined}
use Rattle.sip_sketch.proofs.Whole.{SeatFits, fits_from, head_from, ranged_from, ranged_value, sketch_from}

module _ (s part : SketchValues) (is : IsSketch s) (other : IsSketch part) (joins : Joins s part) where
  pub as_many : length s.seats ≡ length part.seats
  as_many = alike-length same_seat s.seats part.seats joins.seats

  module _ (k : ℕ) (d : SeatValues) (lt : k < length s.seats) where
    own_fits : SeatFits s.depth s.tally (get_or s.seats k d)
    own_fits = fits_from s is k d lt

    other_fits : SeatFits s.depth part.tally (get_or part.seats k d)
    other_fits = subst (λ n. SeatFits n part.tally (get_or part.seats k d)) (sym joins.depth) (fits_from part other k d (omega (arith, lt, as_many)))

    kind_at : (get_or part.seats k d).kind ≡ (get_or s.seats k d).kind
    kind_at = seats_kind (get_or s.seats k d) (get_or part.seats k d) (alike-at same_seat s.seats part.seats k d d joins.seats lt)

    block_at : (get_or part.seats k d).block ≡ (get_or s.seats k d).block
    block_at = seats_block (get_or s.seats k d) (get_or part.seats k d) (alike-at same_seat s.seats part.seats k d d joins.seats lt)

    unused_at : (get_or part.seats k d).is_used ≡ false
    unused_at = none_used part.seats k d joins.unused (omega (arith, lt, as_many))

    add_up_at : AddUp (get_or s.seats k d) (get_or part.seats k d)
    add_up_at = seats_add_up s.tally part.tally joins.first joins.second s.depth (get_or s.seats k d) (get_or part.seats k d) own_fits other_fits kind_at block_at unused_at

    sum_fits : SeatFits s.depth (joined s.tally part.tally) (get_or (added_seats s.seats part.seats) k d)
    sum_fits = subst (SeatFits s.depth (joined s.tally part.tally)) (sym (added-at s.seats part.seats k d as_many lt))
        (added_fits s.tally part.tally joins.first joins.second s.depth (get_or s.seats k d) (get_or part.seats k d) own_fits other_fits kind_at unused_at)

  pub all_add_up : AllZip AddUp s.seats part.seats
  all_add_up = zip-from AddUp s.seats part.seats as_many add_up_at

  pub sum_sketch : IsSketch (added s part)
  sum_sketch =
      let head = head_from s is in
      let own = sound_from s head in
      let more = sound_from part (head_from part other) in
      let sound = sound_joined s.tally part.tally own more joins.first joins.second in
      let sum = head_with s (joined s.tally part.tally) (added_seats s.seats part.seats) head sound (print_small s.tally part.tally) (added-length s.seats part.seats as_many) in
      let own_last = ranged_from Word s.parts.first s.parts.count s.parts.last head.last_part in
      let last = ranged_from Word part.parts.first part.parts.count part.parts.last (head_from part other).last_part in
      let few = ranged_from Word 1 (2 ^ 32 - 1) s.parts.count head.count in
      sketch_from (added s part) (record {
        depth = sum.depth;
        count = sum.count;
        first_part = sum.first_part;
        last_part = ranged_value Word s.parts.first s.parts.count part.parts.last (omega (arith, own_last.0, last.0, joins.next)) (omega (arith, last.1, joins.count)) (omega (arith, last.1, joins.count, few.1));
        first = sum.first;
        second = sum.second;
        records = sum.records;
        negatives = sum.negatives;
        fingerprint = sum.fingerprint;
        seats = sum.seats;
      })
      (λ k d lt. sum_fits k d (omega (arith, lt, added-length s.seats part.seats as_many)))

  pub sum_stands : (stream more : List Update) → Stands stream s → Stands more part → Stands (stream ++ more) (added s part)
  sum_stands stream more own also =
      let told = ap₂ joined own.told also.told ∙ sym (tally-append stream more) in
      let weight_one = ap (λ (t : Tally). t.first) told in
      let weight_two = ap (λ (t : Tally). t.second) told in
      let legal = subst (λ n. IsLegal n more) (sym joins.depth) also.legal in
      record {
        legal = record {
          items = All-append (λ (u : Update). u.item < 2 ^ s.depth) stream more own.legal.items legal.items;
          deltas = All-append (λ (u : Update). u.delta ≢ pos 0) stream more own.legal.deltas legal.deltas;
          first = omega (arith, weight_one, joins.first);
          second = omega (arith, weight_two, joins.second);
        };
        told = told;
        seats = λ k d lt unused.
            (let below : k < length s.seats = omega (arith, lt, added-length s.seats part.seats as_many) in
            let at = added-at s.seats part.seats k d as_many below in
            let free = sym (ap (λ (x : SeatValues). x.is_used) at) ∙ unused in
            let alone = own.seats k d below free in
            let others = subst (λ n. SeatStands n more (get_or part.seats k d)) (sym joins.depth) (also.seats k d (omega (arith, below, as_many)) (unused_at k d below)) in
            subst (SeatStands s.depth (stream ++ more)) (sym at)
            (added_stands s.depth stream more (get_or s.seats k d) (get_or part.seats k d) (add_up_at k d below) free alone others));
      }

-- the same of the fields that are left
pub left_is : (s part : SketchValues) (t : Tally) (seats : List SeatValues) → t ≡ joined s.tally part.tally → seats ≡ added_seats s.seats part.seats
    → record { depth = s.depth; parts = record { count = s.parts.count; first = s.parts.first; last = part.parts.last }; tally = t; seats = seats } ≡ added s part
left_is s part t seats told items = λ i. record {
  depth = s.depth;
  parts = record { count = s.parts.count; first = s.parts.first; last = part.parts.last };
  tally = told i;
  seats = items i;
}
