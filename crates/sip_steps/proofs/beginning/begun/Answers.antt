-- A query, a moment by the extension of its side, or large entries by the root of its split tree.
use Rattle.std.proofs.Common.{[], refl, sym, subst}
use Rattle.std.specs.Prelude.{IfOk}
use Rattle.sip_field.specs.Elements.{m61_number}
use Rattle.sip_verifier.specs.declared.running.Running.{Running}
use Rattle.sip_verifier.specs.QuerySeats.{point_is, split_root_is}
use Rattle.sip_steps.specs.declared.opening.Opening.TheVariants as openings
use Rattle.sip_steps.specs.Openings.{subject_of}
use Rattle.sip_steps.specs.Posed.{IsPosed}
use Rattle.sip_steps.proofs.Beginnings.{large_kind, moment_kind, opening_fits}
use Rattle.sip_steps.proofs.beginning.begun.Goals as goal

pub returns-in-Moment-Point : goal.returns-in-Moment-Point
returns-in-Moment-Point c =
    let moment = c.in-Moment-Point.moment in
    let point = c.in-Moment-Point.point in
    rw c.in-Moment-Point.is-0
    (subst (λ (r : Running). IfOk c.begin_moment.result (IsPosed (subject_of c.args.version c.args.depth (openings.Moment moment) r) [])) (sym c.in-Moment-Point.is-1)
    (c.begin_moment.ensures.posed c.args.depth (point_is point.value)
    (moment_kind c.args.version c.args.depth (openings.Moment moment) point.seat moment point.value (m61_number c.value.result) refl c.value.ensures)))

pub begin_large-requires-clause-fits : goal.begin_large-requires-clause-fits
begin_large-requires-clause-fits c =
    rw c.in-Large-SplitRoot.is-0 at (opening_fits c.args.version c.args.depth c.args.opening c.requires.can)

pub returns-in-Large-SplitRoot : goal.returns-in-Large-SplitRoot
returns-in-Large-SplitRoot c =
    let large = c.in-Large-SplitRoot.large in
    let root = c.in-Large-SplitRoot.root in
    rw c.in-Large-SplitRoot.is-0
    (subst (λ (r : Running). IfOk c.begin_large.result (IsPosed (subject_of c.args.version c.args.depth (openings.Large large) r) [])) (sym c.in-Large-SplitRoot.is-1)
    (c.begin_large.ensures.posed c.args.depth (split_root_is root.hash root.weight)
    (large_kind c.args.version c.args.depth (openings.Large large) root.seat large root.hash root.weight refl)))
