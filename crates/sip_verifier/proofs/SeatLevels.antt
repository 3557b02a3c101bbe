-- A seat that stands for a stream has a challenge for each level.
use Rattle.std.proofs.Common.{◌≡◌, ℕ, List, length, sym, ◌∙◌}
use Rattle.sip_vector.specs.declared.query.Query.{Query}
use Rattle.sip_vector.specs.declared.query.Query.TheVariants.{Sub, Range, F2, Inner, Heavy, Share, Above}
use Rattle.sip_vector.specs.declared.update.Side.TheVariants.{First}
use Rattle.sip_vector.specs.declared.update.Update.{Update}
use Rattle.sip_vector.proofs.Sides.{length-vector}
use Rattle.sip_verifier.specs.NextSeat.{IsNext}
use Rattle.sip_verifier.specs.QuerySeats.{RunningNumbers, RunsOn, Seated, aug_root_is, split_root_is, point_is, points_are, root_is}
use Rattle.sip_verifier.proofs.SeatAsked.{same_power}

pub runs_levels : (depth : ℕ) (stream : List Update) (query : Query) (block : List ℕ) (running : RunningNumbers) → RunsOn depth stream query block running → length block ≡ depth
runs_levels depth stream (Sub lo hi) block (root_is v) r = same_power (length block) depth (sym r.whole ∙ length-vector depth stream First)
runs_levels depth stream (Sub lo hi) block (point_is v) r = absurd r
runs_levels depth stream (Sub lo hi) block (split_root_is v w) r = absurd r
runs_levels depth stream (Sub lo hi) block (points_are v w) r = absurd r
runs_levels depth stream (Sub lo hi) block (aug_root_is v n) r = absurd r
runs_levels depth stream (Range side lo hi) block (point_is v) r = same_power (length block) depth (sym r.whole ∙ length-vector depth stream side)
runs_levels depth stream (Range side lo hi) block (root_is v) r = absurd r
runs_levels depth stream (Range side lo hi) block (split_root_is v w) r = absurd r
runs_levels depth stream (Range side lo hi) block (points_are v w) r = absurd r
runs_levels depth stream (Range side lo hi) block (aug_root_is v n) r = absurd r
runs_levels depth stream (F2 side) block (point_is v) r = same_power (length block) depth (sym r.whole ∙ length-vector depth stream side)
runs_levels depth stream (F2 side) block (root_is v) r = absurd r
runs_levels depth stream (F2 side) block (split_root_is v w) r = absurd r
runs_levels depth stream (F2 side) block (points_are v w) r = absurd r
runs_levels depth stream (F2 side) block (aug_root_is v n) r = absurd r
runs_levels depth stream Inner block (split_root_is v w) r = absurd r
runs_levels depth stream Inner block (points_are v w) r = same_power (length block) depth (sym r.0.whole ∙ length-vector depth stream First)
runs_levels depth stream Inner block (root_is v) r = absurd r
runs_levels depth stream Inner block (point_is v) r = absurd r
runs_levels depth stream Inner block (aug_root_is v n) r = absurd r
runs_levels depth stream (Heavy side t) block (aug_root_is v n) r = same_power (length block) depth (sym r.whole ∙ length-vector depth stream side)
runs_levels depth stream (Heavy side t) block (root_is v) r = absurd r
runs_levels depth stream (Heavy side t) block (point_is v) r = absurd r
runs_levels depth stream (Heavy side t) block (split_root_is v w) r = absurd r
runs_levels depth stream (Heavy side t) block (points_are v w) r = absurd r
runs_levels depth stream (Share side n m) block (aug_root_is v k) r = same_power (length block) depth (sym r.whole ∙ length-vector depth stream side)
runs_levels depth stream (Above side least) block (split_root_is v w) r = same_power (length block) depth (sym r.whole ∙ length-vector depth stream side)
runs_levels depth stream (Above side least) block (root_is v) r = absurd r
runs_levels depth stream (Above side least) block (point_is v) r = absurd r
runs_levels depth stream (Above side least) block (points_are v w) r = absurd r
runs_levels depth stream (Above side least) block (aug_root_is v n) r = absurd r
runs_levels depth stream (Share side n m) block (root_is v) r = absurd r
runs_levels depth stream (Share side n m) block (point_is v) r = absurd r
runs_levels depth stream (Share side n m) block (split_root_is v w) r = absurd r
runs_levels depth stream (Share side n m) block (points_are v w) r = absurd r

pub seat_levels : (depth : ℕ) (stream : List Update) (left : List Seated) (query : Query) (seat : Seated) → IsNext depth stream left query seat → length seat.block ≡ depth
seat_levels depth stream left query seat next = runs_levels depth stream seat.query seat.block seat.running next.stands
