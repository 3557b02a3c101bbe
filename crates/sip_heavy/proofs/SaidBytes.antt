-- What replies as bytes say, and that it is what their nodes and the answer say.
use Rattle.std.proofs.Common.{◌≡◌, ℕ, ◌+◌, true, false, Result, Ok, List, [], ◌∷◌, take, drop, refl, ap, sym, ◌∙◌, arith}
use Rattle.std.specs.Prelude.{◌==◌, if◌then◌else◌}
use Rattle.std.proofs.lemmas.Bool.{ne_eqb}
use Rattle.sip_vector.specs.Steps.{◌>>=◌}
use Rattle.sip_wire.specs.declared.message.Node.{Node}
use Rattle.sip_wire.specs.declared.message.Reason.{Reason}
use Rattle.sip_wire.specs.declared.version.Version.{Version}
use Rattle.sip_replies.specs.Protocols.{Rules}
use Rattle.sip_replies.specs.Replies.{in_round, learnt, run_from, run}
use Rattle.sip_heavy.specs.AcceptsHeavy.{HeavyQuestion, merged, nodes_above}
use Rattle.sip_heavy.specs.Counting.{leaves_in}
use Rattle.sip_heavy.specs.Protocol.{HeavyState, heavy_rules}
use Rattle.sip_heavy.proofs.ReadNodes.{reply_read}
use Rattle.sip_heavy.proofs.HeardNodes.{at_level, run_parts, run_none}

module _ (version : Version) (p : ℕ) (q : HeavyQuestion) where
  abbrev R : Rules HeavyState
  R = heavy_rules version p q

  -- a challenge changes the known nodes alone
  learnt_is : (rs : List ℕ) (level : ℕ) (known leaves : List Node) → (k : List Node) × (learnt R rs (at_level level known leaves) ≡ at_level level k leaves)
  learnt_is [] level known leaves = (known, refl)
  learnt_is (r ∷ rs) level known leaves = (nodes_above p r known, refl)

  -- behind reply 0 the leaves stay
  leaves_stay : (all : List (List ℕ)) (j : ℕ) (rs : List ℕ) (level : ℕ) (known leaves : List Node) (t : HeavyState) → (level == 0) ≡ false → run_from R j rs (at_level level known leaves) all ≡ Ok t → t.leaves ≡ leaves
  leaves_stay [] j rs level known leaves t above e = sym (ap (λ (s : HeavyState). s.leaves) (run_none version p q j rs (at_level level known leaves) t e))
  leaves_stay (b ∷ bs) j rs level known leaves t above e =
      let parts = run_parts version p q j rs (at_level level known leaves) b bs t e in
      let reads = reply_read version p q (level == 0) (at_level level known leaves) parts.next b refl parts.first in
      let kept = if level == 0 then reads.all else leaves in
      let next = learnt_is rs (level + 1) (merged known reads.all) kept in
      let later : (level + 1 == 0) ≡ false = ne_eqb (level + 1) 0 (λ k. absurd (omega (arith, k))) in
      leaves_stay bs (j + 1) (drop 1 rs) (level + 1) next.0 kept t later
      (ap (λ (s : HeavyState). run_from R (j + 1) (drop 1 rs) s bs) (sym next.1 ∙ ap (learnt R rs) reads.same) ∙ parts.rest)
      ∙ ap (λ w. if w then reads.all else leaves) above

  -- reply 0 alone states the leaves that all replies state
  pub leaves_first : (rs : List ℕ) (all : List (List ℕ)) (s : HeavyState) → run R rs all ≡ Ok s → leaves_in (run R [] (take 1 all)) ≡ s.leaves
  unfolding run_from
  leaves_first rs [] s e = ap (λ (t : HeavyState). t.leaves) (run_none version p q 0 rs R.start s e)
  leaves_first rs (b ∷ bs) s e =
      let parts = run_parts version p q 0 rs R.start b bs s e in
      let reads = reply_read version p q true R.start parts.next b refl parts.first in
      let next = learnt_is rs 1 (merged [] reads.all) reads.all in
      let stays = leaves_stay bs 1 (drop 1 rs) 1 next.0 reads.all s refl (ap (λ (t : HeavyState). run_from R 1 (drop 1 rs) t bs) (sym next.1 ∙ ap (learnt R rs) reads.same) ∙ parts.rest) in
      ap (λ (r : Result HeavyState Reason). leaves_in (in_round 0 r >>= λ t. run_from R 1 [] t [])) parts.first
      ∙ sym (ap (λ (t : HeavyState). t.leaves) reads.same) ∙ sym stays
