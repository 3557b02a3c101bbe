-- A moment that is open, as a helper keeps it: what is seen of it, and that it can be replied to.
use Rattle.std.specs.Prelude.{◌≡◌, ℕ, ◌-◌, ◌^◌, ◌<◌, All, false, IfSome, length, Some, None}
use Rattle.std.specs.Prelude.{is_none}
use Rattle.sip_field.specs.Moduli.{m61_modulus}
use Rattle.sip_vector.specs.Vectors.{SideVector}
use Rattle.sip_helper.specs.Shown.{shown_vector}
use Rattle.sip_helper.specs.Turns.{HelperState, whole_of}
use Rattle.sip_moments.specs.declared.under_way.MomentUnderWay.{MomentUnderWay}
use Rattle.sip_moments.specs.Honest.{Proving, proving}
use Rattle.sip_moments.specs.Serving.{OpenMoment}

-- the open moment that is kept so: with no prover, memory was refused for it
abbrev pub open_of : MomentUnderWay → OpenMoment
open_of q = record {
  side = q.side;
  degree = q.degree;
  revealed = q.revealed.items;
  given = q.given;
  refused = is_none q.prover;
}

-- a prover has the list that these challenges lead to, of the side's vector, which has this depth
pub record HasFolded (depth : ℕ) (helper : HelperState) (q : MomentUnderWay)
    (prover : Proving) : Type 0 where
  pub vector : SideVector
  pub shown : shown_vector helper q.side ≡ Some vector
  pub deep : vector.depth ≡ depth
  pub size : length vector.numbers ≡ 2 ^ depth
  pub folded : prover ≡ proving m61_modulus q.degree vector.numbers q.revealed.items
  pub height : length prover.level ≡ 2 ^ (depth - length q.revealed.items)

-- a moment is open behind the whole stream, a level is left to reply to, and the reply can be made;
-- a refusal is the first reply and the last
pub record CanReply (helper : HelperState) (q : MomentUnderWay) : Type 0 where
  pub depth : ℕ
  pub whole : whole_of helper.heard ≡ Some depth
  pub left : length q.revealed.items < depth
  pub elements : All (λ r. r < m61_modulus) q.revealed.items
  pub proves : IfSome q.prover (HasFolded depth helper q)
  pub owed : q.prover ≡ None → q.given ≡ false
