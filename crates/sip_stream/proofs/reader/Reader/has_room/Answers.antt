-- Nothing is too much exactly where there is room.
use Rattle.std.proofs.Common.{◌≡◌, nat_abs, rules}
use Rattle.sip_stream.proofs.Excess.{AreWeights, none_too_much, of_first, of_second, room_there}
use Rattle.sip_stream.proofs.reader.Reader.has_room.Goals as goal
use Rattle.sip_stream.proofs.reader.Reader.has_room.Goals.{in-First, in-Second}

pub returns : goal.returns
returns c =
    let r = c.args.self.now in
    let u = c.args.update.now in
    let size = c.unsigned_abs-size.result in
    let sums = c.match-update.first in
    let depth = c.get.result in
    let deep : depth ≡ r.depth = search rules in
    let is : size ≡ nat_abs u.delta = search rules in
    let are : AreWeights r u depth size sums.0 sums.1 deep is = elim c.match-update.branch [
      | in-First w ↦ of_first r u depth size sums.0 sums.1 deep is w.in-First.is (search rules) (search rules) (search rules)
      | in-Second w ↦ of_second r u depth size sums.0 sums.1 deep is w.in-Second.is (search rules) (search rules) (search rules)
    ] in
    (room_there r u depth size sums.0 sums.1 deep is are, none_too_much r u depth size sums.0 sums.1 deep is are)
