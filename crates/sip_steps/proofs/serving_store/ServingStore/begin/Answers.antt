-- Nothing was heard, and no byte of an opening came.
use Rattle.std.proofs.Common.{[], None, refl}
use Rattle.sip_wire.specs.declared.kind.Place.TheVariants as places
use Rattle.sip_wire.specs.declared.version.Version.TheVariants.{One}
use Rattle.sip_steps.proofs.OneTalk.{none_coming}
use Rattle.sip_steps.proofs.serving_store.ServingStore.begin.Goals as goal

pub returns-clause-served : goal.returns-clause-served
returns-clause-served c =
    let none = c.in_ok-coming.ensures in
    record {
      same_form = refl;
      so = record {
        fresh = c.new.ensures;
        at = none.offset;
        part = none_coming One places.AskedQuestion [] c.in_ok-coming.coming none.bytes none.lacking;
      };
    }

pub returns-clause-begun : goal.returns-clause-begun
returns-clause-begun c = (c.args.form, None, [], returns-clause-served c)
