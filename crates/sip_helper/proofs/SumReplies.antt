-- The lists of a sum's prover, and the messages of an honest reply.
use Rattle.std.proofs.Common.{◌≡◌, ℕ, ◌+◌, ◌-◌, ◌*◌, ◌%◌, ◌^◌, ◌<◌, ◌≤◌, List, [], ◌∷◌, ◌++◌, length, refl, sym, ap, FitsSigned, w64, to_z, of_z, subst, ◌∙◌, arith, append-nil}
use Rattle.std.specs.Prelude.{ℤ, nat_abs, IsTrue}
use Rattle.std.specs.List.{flat_map}
use Rattle.std.proofs.Math.Nat.{mod-eq_of_lt}
use Rattle.std.proofs.lemmas.Bool.Decides.{nat_tests}
use Rattle.std.proofs.lemmas.Int.{to_z-of_z}
use Rattle.std.proofs.lemmas.List.{length_push}
use Rattle.std.proofs.lemmas.List.Elements.{All-push}
use Rattle.std.proofs.lemmas.List.Sums.{fold-append}
use Rattle.sip_field.specs.Moduli.{m61_modulus}
use Rattle.sip_field.specs.Elements.{m61_number}
use Rattle.sip_field.specs.declared.mersenne.M61.{M61}
use Rattle.sip_wire.specs.declared.message.Message.{Message}
use Rattle.sip_wire.specs.declared.message.Message.TheVariants as messages
use Rattle.sip_wire.specs.declared.version.Version.{Version}
use Rattle.sip_wire.specs.Spelling.{spelling, fits, has_room, all_hold}
use Rattle.sip_wire.specs.Table.{most_claim}
use Rattle.sip_wire.proofs.Longest.{claim_fits}
use Rattle.sip_sums.specs.AcceptsSum.{Coefficients}
use Rattle.sip_sums.specs.Honest.{Proving, begun, honest_messages, its_polynomial, learnt, opening, poly_message, round_polynomial}
use Rattle.sip_sums.proofs.Cube.{polynomial-is}
use Rattle.sip_helper.specs.declared.sums.SumQuery.{SumQuery}
use Rattle.sip_helper.specs.declared.sums.SumQuery.TheVariants.{Range, F2, Inner}
use Rattle.sip_helper.specs.declared.sums.SumsProver.{SumsProver}
use Rattle.sip_helper.specs.Vectors.{Vectors}
use Rattle.sip_helper.specs.inside.Legal.{HaveDepth}
use Rattle.sip_helper.specs.KindRows.{HelpRow}
use Rattle.sip_helper.specs.Kinds.{help_row}
use Rattle.sip_helper.specs.Sums.{HasFolded, asked_for, lists_over, sum_query, sum_row}
use Rattle.sip_helper.proofs.SubVectors.{half_of}

-- ---- the row

-- a query for a sum has the row of the sum
row_is : (q : SumQuery) → help_row (asked_for q) ≡ sum_row q
row_is (Range side lo hi) = refl
row_is (F2 side) = refl
row_is Inner = refl

-- ---- lists

-- a prover that learnt one more challenge
pub one_more : (depth : ℕ) (v : Vectors) (revealed : List ℕ) (old : SumsProver) (next : Proving) (r s : ℕ)
    → HasFolded depth v revealed old → r < m61_modulus → s ≡ r % m61_modulus → next ≡ learnt m61_modulus old.prover s
    → 2 * length next.first ≡ length old.prover.first → length revealed + 1 < depth → HasFolded depth v (revealed ++ r ∷ []) (record old { prover = next })
one_more depth v revealed old next r s has element is above half less =
    let same : s ≡ r = is ∙ mod-eq_of_lt element in
    let l = lists_over v old.query in
    record {
      elements = All-push (λ r. r < m61_modulus) revealed r has.elements element;
      size = has.size;
      same = has.same;
      folded =
          above ∙ ap (learnt m61_modulus old.prover) same ∙ ap (λ (x : Proving). learnt m61_modulus x r) has.folded
          ∙ sym (fold-append (learnt m61_modulus) (begun m61_modulus l.first l.second) revealed (r ∷ []));
      height = half_of depth (length revealed) (length old.prover.first) (length next.first) half has.height less ∙ ap (λ n. 2 ^ (depth - n)) (sym (length_push revealed r));
    }

-- ---- messages that fit

pub claim_has_room : (version : Version) (value : ℤ) → FitsSigned w64 value → nat_abs value ≤ most_claim → IsTrue (fits version (messages.Claim (to_z w64 (of_z w64 value))))
claim_has_room version value range small = subst (λ (z : ℤ). IsTrue (fits version (messages.Claim z))) (sym (to_z-of_z w64 value range)) (claim_fits version value range small)

-- the number of a value of the field is below the modulus
pub element_of : (n : ℕ) (x : M61) → n ≡ m61_number x → n < m61_modulus
element_of n x is = subst (λ m. m < m61_modulus) (sym is) x.below

pub polynomial_has_room : (version : Version) (a b c : ℕ) → a < m61_modulus → b < m61_modulus → c < m61_modulus → IsTrue (fits version (messages.Poly a b c))
unfolding fits has_room all_hold
polynomial_has_room version a b c first second third = grind (arith, nat_tests)

-- ---- replies

-- the message of a prover's polynomial
abbrev pub its_message : Proving → Message
its_message s = poly_message (its_polynomial m61_modulus s)

-- the messages of an honest reply are the sum, if it is due, and the prover's polynomial
honest_is : (depth : ℕ) (v : Vectors) (revealed : List ℕ) (s : SumsProver) → HaveDepth depth v → HasFolded depth v revealed s → length revealed < depth
    → (help_row (sum_query s)).honest v revealed ≡ opening (lists_over v s.query).first (lists_over v s.query).second revealed ++ its_message s.prover ∷ []
unfolding honest_messages
honest_is depth v revealed s have has less =
    let l = lists_over v s.query in
    let n = v.first.depth - length revealed - 1 in
    let rounds : depth ≡ length revealed + n + 1 = omega (arith, have.first, less) in
    let due : round_polynomial m61_modulus l.first l.second revealed n ≡ its_polynomial m61_modulus s.prover =
    sym (ap (its_polynomial m61_modulus) has.folded ∙ polynomial-is m61_modulus (omega arith) l.first l.second revealed n has.elements (has.size ∙ ap (λ d. 2 ^ d) rounds) (has.same ∙ sym has.size)) in
    ap (λ (row : HelpRow). row.honest v revealed) (row_is s.query)
    ∙ ap (λ (c : Coefficients). opening l.first l.second revealed ++ poly_message c ∷ []) due

-- the bytes of an honest reply
abbrev pub replies : Version → Vectors → SumsProver → List ℕ → List ℕ
replies version v s revealed = flat_map (spelling version) ((help_row (sum_query s)).honest v revealed)

-- before any challenge, the sum and the polynomial
pub reply_first : (version : Version) (depth : ℕ) (v : Vectors) (s : SumsProver) → HaveDepth depth v → HasFolded depth v [] s → 0 < depth
    → replies version v s [] ≡ spelling version (messages.Claim s.prover.claim) ++ spelling version (its_message s.prover)
reply_first version depth v s have has less =
    let sum = ap (λ (x : Proving). x.claim) has.folded in
    ap (flat_map (spelling version)) (honest_is depth v [] s have has less)
    ∙ ap (λ (z : ℤ). spelling version (messages.Claim z) ++ (spelling version (its_message s.prover) ++ [])) (sym sum)
    ∙ ap (λ (l : List ℕ). spelling version (messages.Claim s.prover.claim) ++ l) (append-nil (spelling version (its_message s.prover)))

-- later the polynomial alone
pub reply_behind : (version : Version) (depth : ℕ) (v : Vectors) (revealed : List ℕ) (s : SumsProver) → HaveDepth depth v → HasFolded depth v revealed s → length revealed < depth → 0 < length revealed
    → replies version v s revealed ≡ spelling version (its_message s.prover)
reply_behind version depth v [] s have has less some = absurd (omega (arith, some))
reply_behind version depth v (r ∷ prefix) s have has less some =
    ap (flat_map (spelling version)) (honest_is depth v (r ∷ prefix) s have has less) ∙ append-nil (spelling version (its_message s.prover))
