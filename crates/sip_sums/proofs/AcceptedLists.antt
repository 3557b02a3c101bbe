-- Bytes are accepted where what they state is.
use Rattle.std.proofs.Common.{◌≡◌, ℕ, ◌<◌, Bool, ◌&&◌, ℤ, nat_abs, Option, Some, None, is_ok, List, [], ◌∷◌, length, refl, sym, ap, ◌∙◌}
use Rattle.std.specs.Prelude.{is_none}
use Rattle.std.proofs.lemmas.Bool.{eq-eqb, le-leb}
use Rattle.std.proofs.lemmas.List.{length-map}
use Rattle.sip_field.specs.Moduli.{m61_modulus}
use Rattle.sip_field.specs.Residue.{residue}
use Rattle.sip_wire.specs.declared.version.Version.{Version}
use Rattle.sip_wire.specs.Spelling.{spelling}
use Rattle.sip_wire.specs.Table.{most_claim}
use Rattle.sip_replies.specs.Replies.{verdict}
use Rattle.sip_sums.specs.AcceptsSum.{Coefficients, Stated, accepts_stated, adds_up, product_at}
use Rattle.sip_sums.specs.Counting.{accepts_sum}
use Rattle.sip_sums.specs.Honest.{poly_message}
use Rattle.sip_sums.specs.Protocol.{sum_asked, sum_protocol}
use Rattle.sip_sums.specs.Stating.{HasSpelling, first_difference, outcome, stated_replies, with_claim}
use Rattle.sip_sums.proofs.StatedReplies.{are_judged, sums_are_same}

-- there is an answer where nothing differs
ok_where_none : (d : ℕ) (claim : ℤ) (o : Option ℕ) → is_ok (outcome d claim o) ≡ is_none o
ok_where_none d claim None = refl
ok_where_none d claim (Some j) = refl

-- a claim is no reply of its own
length-with_claim : (version : Version) (claim : ℤ) (replies : List (List ℕ))
    → length (with_claim version claim replies) ≡ length replies
length-with_claim version claim [] = refl
length-with_claim version claim (bytes ∷ more) = refl

pub are_accepted : (version : Version) (first second : List ℤ) (challenges : List ℕ) (s : Stated)
    → HasSpelling s → length s.polynomials ≡ length challenges → 0 < length challenges
    → accepts_sum version m61_modulus first second challenges (stated_replies version s)
    ≡ accepts_stated m61_modulus first second challenges s
are_accepted version first second challenges s h same some =
    let p = m61_modulus in
    let product = product_at p first second challenges in
    let replies = stated_replies version s in
    let adds = adds_up p product (residue p s.claim) s.polynomials challenges in
    let found = verdict (sum_protocol (sum_asked version p product)) challenges replies in
    let count : length replies ≡ length challenges =
    length-with_claim version s.claim _
    ∙ length-map s.polynomials (λ (c : Coefficients). spelling version (poly_message c)) ∙ same in
    let test : is_ok found ≡ adds =
    ap is_ok (are_judged version p product challenges s h same some)
    ∙ ok_where_none (length challenges) s.claim (first_difference p product challenges s)
    ∙ sym (sums_are_same p product challenges s same) in
    ap (λ (b : Bool). b && is_ok found) (eq-eqb (length replies) (length challenges) count)
    ∙ test
    ∙ ap (λ (b : Bool). b && adds) (sym (le-leb (nat_abs s.claim) most_claim h.claim))
