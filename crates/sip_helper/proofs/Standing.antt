-- What is kept for an open query goes on standing for it.
use Rattle.std.proofs.Common.{◌≡◌, ℕ, ◌+◌, ◌<◌, Option, Some, None, List, [], ◌∷◌, ◌++◌, length, sym, ap, subst, ◌∙◌, arith}
use Rattle.std.proofs.lemmas.List.{length_push}
use Rattle.sip_vector.specs.declared.query.Query.{Query}
use Rattle.sip_helper.specs.declared.asked.Answerer.TheVariants.{Honest}
use Rattle.sip_helper.specs.declared.asked.QueryUnderWay.{QueryUnderWay}
use Rattle.sip_helper.specs.declared.kinds.KindProver.{KindProver}
use Rattle.sip_helper.specs.Vectors.{Vectors}
use Rattle.sip_helper.specs.inside.Answering.{IsReady, CanReply}
use Rattle.sip_helper.specs.Kinds.{HasLearnt, query_proved, help_row}

-- a prover that is at hand stands for the vectors that are kept
pub at_hand : (depth : ℕ) (vectors : Option Vectors) (a : QueryUnderWay) (prover : KindProver) → a.answerer ≡ Honest prover → CanReply depth vectors a → (v : Vectors) × HasLearnt depth v a.revealed.items prover
at_hand depth vectors a prover is stands = by_vectors vectors (subst (IsReady depth vectors a.revealed.items a.given) is stands.ready)
  where
    by_vectors : (vectors : Option Vectors) → IsReady depth vectors a.revealed.items a.given (Honest prover) → (v : Vectors) × HasLearnt depth v a.revealed.items prover
    by_vectors (Some v) ready = (v, ready.1)
    by_vectors None ready = absurd ready

-- a prover that learns a challenge stands for them behind it
pub stands_higher : (depth : ℕ) (vectors : Option Vectors) (a b : QueryUnderWay) (prover next : KindProver) (r : ℕ)
    → CanReply depth vectors a → a.answerer ≡ Honest prover → b.answerer ≡ Honest next → b.revealed.items ≡ a.revealed.items ++ r ∷ [] → query_proved next ≡ query_proved prover
    → ((v : Vectors) → HasLearnt depth v a.revealed.items prover → HasLearnt depth v (a.revealed.items ++ r ∷ []) next) → length a.revealed.items + 1 < depth → CanReply depth vectors b
stands_higher depth vectors a b prover next r stands was is more same learnt less =
    let count : length b.revealed.items ≡ length a.revealed.items + 1 = ap length more ∙ length_push a.revealed.items r in
    record {
      left = omega (arith, count, less);
      ready = subst (IsReady depth vectors b.revealed.items b.given) (sym is) (by_vectors vectors (subst (IsReady depth vectors a.revealed.items a.given) was stands.ready));
    }
  where
    by_vectors : (vectors : Option Vectors) → IsReady depth vectors a.revealed.items a.given (Honest prover) → IsReady depth vectors b.revealed.items b.given (Honest next)
    by_vectors (Some v) ready = (
      ap (λ (q : Query). (help_row q).refused_by v) same ∙ ready.0,
      subst (λ (l : List ℕ). HasLearnt depth v l next) (sym more) (learnt v ready.1),
    )
    by_vectors None ready = absurd ready
