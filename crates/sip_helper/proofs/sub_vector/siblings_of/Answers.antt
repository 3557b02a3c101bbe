use Rattle.std.proofs.Common.{◌≡◌, rules, sym, subst}
use Rattle.std.specs.Option.{option_map}
use Rattle.sip_field.specs.Elements.{m61_number}
use Rattle.sip_wire.proofs.SiblingElements.{HasElement, siblings_fit}
use Rattle.sip_helper.proofs.SubVectors.{element_is}
use Rattle.sip_helper.proofs.sub_vector.siblings_of.Goals as goal

pub returns-clause-fits : goal.returns-clause-fits
returns-clause-fits c = λ version.
    let left : c.map.result ≡ option_map m61_number c.siblings-siblings.result.left = search rules in
    let right : c.map-2.result ≡ option_map m61_number c.siblings-siblings.result.right = search rules in
    siblings_fit version c.map.result c.map-2.result (subst HasElement (sym left) (element_is c.siblings-siblings.result.left)) (subst HasElement (sym right) (element_is c.siblings-siblings.result.right))
