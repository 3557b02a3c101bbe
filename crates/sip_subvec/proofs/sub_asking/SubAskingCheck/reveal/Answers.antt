use Rattle.std.proofs.Common.{◌≡◌, sym, subst}
use Rattle.sip_subvec.specs.Asking.{Asking, SubStands}
use Rattle.sip_subvec.proofs.sub_asking.SubAskingCheck.reveal.Goals as goal

pub returns-clause-learns : goal.returns-clause-learns
returns-clause-learns c asked s places stands =
    let a : Asking = record { check = c.self.inside.check; is_first = c.self.inside.is_first; found = c.self.inside.found } in
    let same : a ≡ c.args.self.now = c.self.view_is in
    let held = subst (λ (b : Asking). SubStands asked s b places) (sym same) stands in
    record {
      field = held.field;
      taken = c.reveal.ensures.taken asked.root asked.lo asked.hi asked.challenges s held.taken;
      first = held.first;
      shown = held.shown;
      within = held.within;
      room = held.room;
    }
