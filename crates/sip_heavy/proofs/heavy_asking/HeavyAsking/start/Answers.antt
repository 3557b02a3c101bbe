use Rattle.std.proofs.Common.{◌≡◌, ℕ, w64, ap, ◌∙◌, refl, subst, arith, length}
use Rattle.std.proofs.lemmas.Int.{ints, to_z-of_z}
use Rattle.sip_field.specs.Moduli.{m61_modulus}
use Rattle.sip_heavy.specs.declared.form.LeafForm.TheVariants as forms
use Rattle.sip_heavy.specs.AcceptsHeavy.{HeavyQuestion}
use Rattle.sip_heavy.specs.Checking.{HasTaken, nothing}
use Rattle.sip_heavy.specs.Protocol.{count_of}
use Rattle.sip_heavy.proofs.AskingSteps.{stands_begun}
use Rattle.sip_heavy.proofs.heavy_asking.HeavyAsking.start.Goals as goal

pub returns-clause-stands : goal.returns-clause-stands
returns-clause-stands c version places room =
    let root = c.args.root.now in
    let within = root.within in
    let total : c.count_of.result ≡ count_of root.total = c.count_of.ensures ∙ ap count_of (to_z-of_z w64 root.total (omega (arith, ints, within))) in
    let asked : ℕ → HeavyQuestion = λ n. record { form = forms.Count; depth = length root.seat; at_least = c.args.at_least; total = n } in
    let taken = subst (λ n. HasTaken m61_modulus (asked n) root.hash root.seat nothing c.begin.result) total c.begin.ensures.taken in
    stands_begun _ c.begin.result _ root.seat places refl taken c.begin.ensures.begun room
