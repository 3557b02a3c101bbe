use Rattle.std.proofs.Common.{◌≡◌, pos, to_z, of_z, w64, sym, ap, ◌∙◌, inl, inr, arith}
use Rattle.std.proofs.lemmas.Bool.{cases_lt}
use Rattle.sip_vector.specs.Vectors.{StoredVector, number_at}
use Rattle.sip_vector.proofs.Kept.{same_z}
use Rattle.sip_vector.proofs.vector.Vector.first_nonzero.Goals as goal

pub loop-at-init : goal.loop-at-init
loop-at-init c = record { from = omega arith; zeros = λ k above below. absurd (omega arith) }

pub returns-then-value-ne0 : goal.returns-then-value-ne0
returns-then-value-ne0 c =
    let weight : c.self.inside.weight ≡ c.args.self.now.weight = ap (λ (v : StoredVector). v.weight) c.self.view_is in
    let same = same_z c.get-value.result (omega (arith, c.get-value.ensures.light, weight, c.self.invariant.most)) in (
      omega (arith, c.next_index-index.ensures.from, c.loop-at.invariant.from),
      c.next_index-index.ensures.end,
      λ e. c.if-value-ne0.true (ap (of_z w64) (sym same ∙ e)),
      rw same (sym c.get-value.ensures.same),
      λ k above below. elim (cases_lt k c.loop-at.at) [ inl t ↦ c.loop-at.invariant.zeros k above t | inr t ↦ c.next_index-index.ensures.zeros k (omega (arith, t)) below ],
    )

pub returns-then-index-hi : goal.returns-then-index-hi
returns-then-index-hi c k above below =
    let weight : c.self.inside.weight ≡ c.args.self.now.weight = ap (λ (v : StoredVector). v.weight) c.self.view_is in
    let same = same_z c.get-value.result (omega (arith, c.get-value.ensures.light, weight, c.self.invariant.most)) in
    let none : c.get-value.result ≡ pos 0 = sym same ∙ ap (to_z w64) c.if-value-ne0.false in
    elim (cases_lt k c.loop-at.at) [
      | inl t ↦ c.loop-at.invariant.zeros k above t
      | inr t ↦ elim (cases_lt k c.next_index-index.result) [
        | inl u ↦ c.next_index-index.ensures.zeros k (omega (arith, t)) u
        | inr u ↦ (let here : k ≡ c.next_index-index.result = omega (arith, u, below, c.if-index-hi.true) in ap (number_at c.args.self.now.numbers) here ∙ sym c.get-value.ensures.same ∙ none)
      ]
    ]

pub loop-at-preserved : goal.loop-at-preserved
loop-at-preserved c =
    let weight : c.self.inside.weight ≡ c.args.self.now.weight = ap (λ (v : StoredVector). v.weight) c.self.view_is in
    let same = same_z c.get-value.result (omega (arith, c.get-value.ensures.light, weight, c.self.invariant.most)) in
    let none : c.get-value.result ≡ pos 0 = sym same ∙ ap (to_z w64) c.if-value-ne0.false in
    record {
      from = omega (arith, c.next_index-index.ensures.from, c.loop-at.invariant.from);
      zeros = λ k above below. elim (cases_lt k c.loop-at.at) [
        | inl t ↦ c.loop-at.invariant.zeros k above t
        | inr t ↦ elim (cases_lt k c.next_index-index.result) [
          | inl u ↦ c.next_index-index.ensures.zeros k (omega (arith, t)) u
          | inr u ↦ (let here : k ≡ c.next_index-index.result = omega (arith, u, below) in ap (number_at c.args.self.now.numbers) here ∙ sym c.get-value.ensures.same ∙ none)
        ]
      ];
    }

pub returns : goal.returns
returns c k above below = c.loop-at.invariant.zeros k above (omega (arith, below, c.loop-at-test.false))
