use Rattle.std.proofs.Common.{List, All, ap, sym, subst, refl}
use Rattle.std.specs.Prelude.{IsTrue, ◌<◌, ◌-◌, ◌+◌, length}
use Rattle.sip_field.specs.Moduli.{m61_modulus}
use Rattle.sip_wire.specs.declared.message.Leaf.{Leaf}
use Rattle.sip_wire.specs.declared.message.Mark.{Mark}
use Rattle.sip_wire.specs.declared.message.Message.{Message}
use Rattle.sip_wire.specs.declared.message.Message.TheVariants as messages
use Rattle.sip_wire.specs.declared.message.Node.{Node}
use Rattle.sip_wire.specs.Spelling.{fits}
use Rattle.sip_heavy.specs.AcceptsHeavy.{HeavyQuestion}
use Rattle.sip_heavy.specs.Checking.{Kept, Takes}
use Rattle.sip_heavy.specs.Protocol.{leaf_nodes, mark_nodes}
use Rattle.sip_heavy.proofs.AskingSteps.{end_refused_is, end_taken, found_fits, found_stays, leaves_step_is, length_leaves, length_marks, marks_step_is, nodes_refused, nodes_step_is, nodes_taken, of_message, room_falls, stands_inside}
use Rattle.sip_heavy.proofs.FrameNodes.{leaves_spelled, marks_spelled, nodes_spelled}
use Rattle.sip_heavy.proofs.heavy_asking.HeavyAskingCheck.take.Goals as goal

pub give_leaves-requires-clause-small : goal.give_leaves-requires-clause-small
give_leaves-requires-clause-small c =
    let version = c.requires.fits.0 in
    subst (λ (ls : List Leaf). All (λ l. l.count < m61_modulus) ls) (sym c.deref.ensures.0)
    (leaves_spelled version c.in-Leaves.rows (subst (λ (m : Message). IsTrue (fits version m)) c.in-Leaves.is c.requires.fits.1)).1

pub give_marks-requires-clause-small : goal.give_marks-requires-clause-small
give_marks-requires-clause-small c =
    let version = c.requires.fits.0 in
    subst (λ (ls : List Mark). All (λ m. m.weight < m61_modulus) ls) (sym c.deref-in-Marks.ensures.0)
    (marks_spelled version c.in-Marks.rows (subst (λ (m : Message). IsTrue (fits version m)) c.in-Marks.is c.requires.fits.1)).1

pub returns-in_err-give_leaves-in-Leaves-clause-took : goal.returns-in_err-give_leaves-in-Leaves-clause-took
returns-in_err-give_leaves-in-Leaves-clause-took c asked s stands =
    let check : Kept = c.self.inside.check in
    let held = stands_inside asked s check c.args.self.now c.args.places.now stands c.requires.phase.same c.self.view_is in
    let takes = subst (λ (ls : List Leaf). Takes m61_modulus check (leaf_nodes ls) c.give_leaves.new.check c.give_leaves.result) c.deref.ensures.0 c.give_leaves.ensures.answers in
    of_message asked.modulus asked.query s c.args.message.now (messages.Leaves c.in-Leaves.rows) _ _ _ c.in-Leaves.is (leaves_step_is asked.modulus asked.query s check c.in-Leaves.rows (ap (λ (a : HeavyQuestion). a.form) held.0.taken.asked) held.0.level (sym c.if-not-awaits_counts.ensures))
    (nodes_refused asked s check c.give_leaves.new.check c.args.places.now held.0 held.1 (leaf_nodes c.in-Leaves.rows.items) c.give_leaves.result takes _ c.in_err-give_leaves-in-Leaves.field-0.0 _ c.in_err-give_leaves-in-Leaves.was c.from_residual.ensures.1)

pub returns-in_err-give_marks-in-Marks-clause-took : goal.returns-in_err-give_marks-in-Marks-clause-took
returns-in_err-give_marks-in-Marks-clause-took c asked s stands =
    let check : Kept = c.self.inside.check in
    let held = stands_inside asked s check c.args.self.now c.args.places.now stands c.requires.phase.same c.self.view_is in
    let takes = subst (λ (ls : List Mark). Takes m61_modulus check (mark_nodes m61_modulus ls) c.give_marks.new.check c.give_marks.result) c.deref-in-Marks.ensures.0 c.give_marks.ensures.answers in
    of_message asked.modulus asked.query s c.args.message.now (messages.Marks c.in-Marks.rows) _ _ _ c.in-Marks.is (marks_step_is asked.modulus asked.query s check c.in-Marks.rows held.0.field (ap (λ (a : HeavyQuestion). a.form) held.0.taken.asked) held.0.level (sym c.if-not-awaits_marks.ensures))
    (nodes_refused asked s check c.give_marks.new.check c.args.places.now held.0 held.1 (mark_nodes m61_modulus c.in-Marks.rows.items) c.give_marks.result takes _ c.in_err-give_marks-in-Marks.field-0.0 _ c.in_err-give_marks-in-Marks.was c.from_residual-in_err-give_marks-in-Marks.ensures.1)

pub give_nodes-requires-clause-small : goal.give_nodes-requires-clause-small
give_nodes-requires-clause-small c =
    let version = c.requires.fits.0 in
    subst (λ (xs : List Node). All (λ x. x.count < m61_modulus) xs) (sym c.deref-in-Nodes.ensures.0)
    (nodes_spelled version c.in-Nodes.rows (subst (λ (m : Message). IsTrue (fits version m)) c.in-Nodes.is c.requires.fits.1)).1

pub give_nodes-requires-clause-hashes : goal.give_nodes-requires-clause-hashes
give_nodes-requires-clause-hashes c =
    let version = c.requires.fits.0 in
    subst (λ (xs : List Node). All (λ x. x.hash < m61_modulus) xs) (sym c.deref-in-Nodes.ensures.0)
    (nodes_spelled version c.in-Nodes.rows (subst (λ (m : Message). IsTrue (fits version m)) c.in-Nodes.is c.requires.fits.1)).2

pub returns-in_err-give_nodes-in-Nodes-clause-took : goal.returns-in_err-give_nodes-in-Nodes-clause-took
returns-in_err-give_nodes-in-Nodes-clause-took c asked s stands =
    let check : Kept = c.self.inside.check in
    let held = stands_inside asked s check c.args.self.now c.args.places.now stands c.requires.phase.same c.self.view_is in
    let takes = subst (λ (xs : List Node). Takes m61_modulus check xs c.give_nodes.new.check c.give_nodes.result) c.deref-in-Nodes.ensures.0 c.give_nodes.ensures.answers in
    of_message asked.modulus asked.query s c.args.message.now (messages.Nodes c.in-Nodes.rows) _ _ _ c.in-Nodes.is (nodes_step_is asked.modulus asked.query s check c.in-Nodes.rows held.0.level (sym c.if-is_lowest.ensures))
    (nodes_refused asked s check c.give_nodes.new.check c.args.places.now held.0 held.1 c.in-Nodes.rows.items c.give_nodes.result takes _ c.in_err-give_nodes-in-Nodes.field-0.0 _ c.in_err-give_nodes-in-Nodes.was c.from_residual-in_err-give_nodes-in-Nodes.ensures.1)

pub returns-in_err-level_end-in-LevelEnd-clause-took : goal.returns-in_err-level_end-in-LevelEnd-clause-took
returns-in_err-level_end-in-LevelEnd-clause-took c asked s stands =
    let check : Kept = c.self.inside.check in
    let held = stands_inside asked s check c.args.self.now c.args.places.now stands c.requires.phase.same c.self.view_is in
    let answers = c.level_end.ensures.answers asked.query asked.root check.challenges held.0.given held.0.taken in
    of_message asked.modulus asked.query s c.args.message.now messages.LevelEnd _ _ _ c.in-LevelEnd.is refl
    (end_refused_is asked s check c.level_end.new.self c.args.places.now held.0 held.1 c.level_end.result answers _ c.in_err-level_end-in-LevelEnd.field-0.0 _ c.in_err-level_end-in-LevelEnd.was c.from_residual-in_err-level_end-in-LevelEnd.ensures.1)

pub returns-in_ok-give_leaves-in-Leaves-clause-took : goal.returns-in_ok-give_leaves-in-Leaves-clause-took
returns-in_ok-give_leaves-in-Leaves-clause-took c asked s stands =
    let check : Kept = c.self.inside.check in
    let held = stands_inside asked s check c.args.self.now c.args.places.now stands c.requires.phase.same c.self.view_is in
    let takes = subst (λ (ls : List Leaf). Takes m61_modulus check (leaf_nodes ls) c.give_leaves.new.check c.give_leaves.result) c.deref.ensures.0 c.give_leaves.ensures.answers in
    of_message asked.modulus asked.query s c.args.message.now (messages.Leaves c.in-Leaves.rows) _ _ _ c.in-Leaves.is (leaves_step_is asked.modulus asked.query s check c.in-Leaves.rows (ap (λ (a : HeavyQuestion). a.form) held.0.taken.asked) held.0.level (sym c.if-not-awaits_counts.ensures))
    (nodes_taken asked s check c.give_leaves.new.check c.args.places.now held.0 held.1 (leaf_nodes c.in-Leaves.rows.items) c.give_leaves.result takes _ c.in_ok-give_leaves-in-Leaves.was c.give_leaves.ensures.advances (rw c.in_ok-give_leaves-in-Leaves.was at c.give_leaves.ensures.spent))

pub returns-in_ok-give_marks-in-Marks-clause-took : goal.returns-in_ok-give_marks-in-Marks-clause-took
returns-in_ok-give_marks-in-Marks-clause-took c asked s stands =
    let check : Kept = c.self.inside.check in
    let held = stands_inside asked s check c.args.self.now c.args.places.now stands c.requires.phase.same c.self.view_is in
    let takes = subst (λ (ls : List Mark). Takes m61_modulus check (mark_nodes m61_modulus ls) c.give_marks.new.check c.give_marks.result) c.deref-in-Marks.ensures.0 c.give_marks.ensures.answers in
    of_message asked.modulus asked.query s c.args.message.now (messages.Marks c.in-Marks.rows) _ _ _ c.in-Marks.is (marks_step_is asked.modulus asked.query s check c.in-Marks.rows held.0.field (ap (λ (a : HeavyQuestion). a.form) held.0.taken.asked) held.0.level (sym c.if-not-awaits_marks.ensures))
    (nodes_taken asked s check c.give_marks.new.check c.args.places.now held.0 held.1 (mark_nodes m61_modulus c.in-Marks.rows.items) c.give_marks.result takes _ c.in_ok-give_marks-in-Marks.was c.give_marks.ensures.advances (rw c.in_ok-give_marks-in-Marks.was at c.give_marks.ensures.spent))

pub returns-in_ok-give_leaves-in-Leaves-clause-smaller : goal.returns-in_ok-give_leaves-in-Leaves-clause-smaller
returns-in_ok-give_leaves-in-Leaves-clause-smaller c due =
    let stood = c.requires.stood in
    let version = c.requires.fits.0 in
    let check : Kept = c.self.inside.check in
    let held = stands_inside stood.0 stood.1 check c.args.self.now c.args.places.now stood.2 c.requires.phase.same c.self.view_is in
    let takes = subst (λ (ls : List Leaf). Takes m61_modulus check (leaf_nodes ls) c.give_leaves.new.check c.give_leaves.result) c.deref.ensures.0 c.give_leaves.ensures.answers in
    let some = (leaves_spelled version c.in-Leaves.rows (subst (λ (m : Message). IsTrue (fits version m)) c.in-Leaves.is c.requires.fits.1)).0 in
    subst (λ (k : Kept). c.give_leaves.new.check.most - (length c.give_leaves.new.check.nodes + (length c.give_leaves.new.check.known - c.give_leaves.new.check.passed)) < k.most - (length k.nodes + (length k.known - k.passed))) c.self.view_is
    (room_falls stood.0 stood.1 check c.give_leaves.new.check c.args.places.now held.0 held.1 (leaf_nodes c.in-Leaves.rows.items) c.give_leaves.result takes _ c.in_ok-give_leaves-in-Leaves.was (rw (length_leaves c.in-Leaves.rows.items) some))

pub returns-in_ok-give_marks-in-Marks-clause-smaller : goal.returns-in_ok-give_marks-in-Marks-clause-smaller
returns-in_ok-give_marks-in-Marks-clause-smaller c due =
    let stood = c.requires.stood in
    let version = c.requires.fits.0 in
    let check : Kept = c.self.inside.check in
    let held = stands_inside stood.0 stood.1 check c.args.self.now c.args.places.now stood.2 c.requires.phase.same c.self.view_is in
    let takes = subst (λ (ls : List Mark). Takes m61_modulus check (mark_nodes m61_modulus ls) c.give_marks.new.check c.give_marks.result) c.deref-in-Marks.ensures.0 c.give_marks.ensures.answers in
    let some = (marks_spelled version c.in-Marks.rows (subst (λ (m : Message). IsTrue (fits version m)) c.in-Marks.is c.requires.fits.1)).0 in
    subst (λ (k : Kept). c.give_marks.new.check.most - (length c.give_marks.new.check.nodes + (length c.give_marks.new.check.known - c.give_marks.new.check.passed)) < k.most - (length k.nodes + (length k.known - k.passed))) c.self.view_is
    (room_falls stood.0 stood.1 check c.give_marks.new.check c.args.places.now held.0 held.1 (mark_nodes m61_modulus c.in-Marks.rows.items) c.give_marks.result takes _ c.in_ok-give_marks-in-Marks.was (rw (length_marks m61_modulus c.in-Marks.rows.items) some))

pub returns-in_ok-give_nodes-in-Nodes-clause-took : goal.returns-in_ok-give_nodes-in-Nodes-clause-took
returns-in_ok-give_nodes-in-Nodes-clause-took c asked s stands =
    let check : Kept = c.self.inside.check in
    let held = stands_inside asked s check c.args.self.now c.args.places.now stands c.requires.phase.same c.self.view_is in
    let takes = subst (λ (xs : List Node). Takes m61_modulus check xs c.give_nodes.new.check c.give_nodes.result) c.deref-in-Nodes.ensures.0 c.give_nodes.ensures.answers in
    of_message asked.modulus asked.query s c.args.message.now (messages.Nodes c.in-Nodes.rows) _ _ _ c.in-Nodes.is (nodes_step_is asked.modulus asked.query s check c.in-Nodes.rows held.0.level (sym c.if-is_lowest.ensures))
    (nodes_taken asked s check c.give_nodes.new.check c.args.places.now held.0 held.1 c.in-Nodes.rows.items c.give_nodes.result takes _ c.in_ok-give_nodes-in-Nodes.was c.give_nodes.ensures.advances (rw c.in_ok-give_nodes-in-Nodes.was at c.give_nodes.ensures.spent))

pub returns-in_ok-give_nodes-in-Nodes-clause-smaller : goal.returns-in_ok-give_nodes-in-Nodes-clause-smaller
returns-in_ok-give_nodes-in-Nodes-clause-smaller c due =
    let stood = c.requires.stood in
    let version = c.requires.fits.0 in
    let check : Kept = c.self.inside.check in
    let held = stands_inside stood.0 stood.1 check c.args.self.now c.args.places.now stood.2 c.requires.phase.same c.self.view_is in
    let takes = subst (λ (xs : List Node). Takes m61_modulus check xs c.give_nodes.new.check c.give_nodes.result) c.deref-in-Nodes.ensures.0 c.give_nodes.ensures.answers in
    let some = (nodes_spelled version c.in-Nodes.rows (subst (λ (m : Message). IsTrue (fits version m)) c.in-Nodes.is c.requires.fits.1)).0 in
    subst (λ (k : Kept). c.give_nodes.new.check.most - (length c.give_nodes.new.check.nodes + (length c.give_nodes.new.check.known - c.give_nodes.new.check.passed)) < k.most - (length k.nodes + (length k.known - k.passed))) c.self.view_is
    (room_falls stood.0 stood.1 check c.give_nodes.new.check c.args.places.now held.0 held.1 c.in-Nodes.rows.items c.give_nodes.result takes _ c.in_ok-give_nodes-in-Nodes.was some)

pub returns-then-not-is_lowest-clause-took : goal.returns-then-not-is_lowest-clause-took
returns-then-not-is_lowest-clause-took c asked s stands =
    let check : Kept = c.self.inside.check in
    let held = stands_inside asked s check c.args.self.now c.args.places.now stands c.requires.phase.same c.self.view_is in
    let answers = c.level_end.ensures.answers asked.query asked.root check.challenges held.0.given held.0.taken in
    let ok = c.in_ok-level_end-in-LevelEnd.was in
    let known = rw ok at (c.level_end.ensures.known asked.query asked.root check.challenges held.0.given held.0.taken) in
    let found = found_stays asked s check c.level_end.new.self c.args.places.now held.0 held.1 c.level_end.result answers _ ok (sym c.if-not-is_lowest.ensures) in
    of_message asked.modulus asked.query s c.args.message.now messages.LevelEnd _ _ _ c.in-LevelEnd.is refl
    (end_taken asked s check c.level_end.new.self c.args.places.now held.0 held.1 c.level_end.result answers _ ok c.args.places.now (rw ok at c.level_end.ensures.advances) (rw ok at c.level_end.ensures.spent) known (rw found held.0.shown) refl)

pub write_found-requires : goal.write_found-requires
write_found-requires c =
    let stood = c.requires.stood in
    let check : Kept = c.self.inside.check in
    let held = stands_inside stood.0 stood.1 check c.args.self.now c.args.places.now stood.2 c.requires.phase.same c.self.view_is in
    let answers = c.level_end.ensures.answers stood.0.query stood.0.root check.challenges held.0.given held.0.taken in
    let ok = c.in_ok-level_end-in-LevelEnd.was in
    record {
      room = rw c.found.ensures.found (found_fits stood.0 stood.1 check c.level_end.new.self c.args.places.now held.0 held.1 c.level_end.result answers _ ok c.found.ensures.few);
    }

pub returns-else-not-is_lowest-clause-took : goal.returns-else-not-is_lowest-clause-took
returns-else-not-is_lowest-clause-took c asked s stands =
    let check : Kept = c.self.inside.check in
    let held = stands_inside asked s check c.args.self.now c.args.places.now stands c.requires.phase.same c.self.view_is in
    let answers = c.level_end.ensures.answers asked.query asked.root check.challenges held.0.given held.0.taken in
    let ok = c.in_ok-level_end-in-LevelEnd.was in
    let known = rw ok at (c.level_end.ensures.known asked.query asked.root check.challenges held.0.given held.0.taken) in
    of_message asked.modulus asked.query s c.args.message.now messages.LevelEnd _ _ _ c.in-LevelEnd.is refl
    (end_taken asked s check c.level_end.new.self c.args.places.now held.0 held.1 c.level_end.result answers _ ok c.write_found.new.places (rw ok at c.level_end.ensures.advances) (rw ok at c.level_end.ensures.spent) known (rw c.found.ensures.found at c.write_found.ensures.found) c.write_found.ensures.places)
