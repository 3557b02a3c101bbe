-- Each depth has its form.
use Rattle.std.proofs.Common.{◌<◌, ◌≤◌, arith, rules}
use Rattle.sip_stream.proofs.MadeSteps.{narrow_form, narrow_room, wide_form, wide_room}
use Rattle.sip_stream.proofs.made.MadeSource.go_on.Goals as goal

pub make-requires : goal.make-requires
make-requires c =
    let depth = c.args.self.now.depth in
    let low : depth ≤ 32 = search rules in
    record { some = omega arith; most = omega arith; form = narrow_form depth low; room = narrow_room depth low; read = search rules }

pub make-requires-else-get-le-MOST_NARROW : goal.make-requires-else-get-le-MOST_NARROW
make-requires-else-get-le-MOST_NARROW c =
    let depth = c.args.self.now.depth in
    let high : 32 < depth = search rules in
    let most : depth ≤ 48 = omega (arith, c.get.ensures.same, c.get.ensures.most) in
    record { some = omega arith; most = omega arith; form = wide_form depth high; room = wide_room depth most; read = search rules }
