-- Where a side's entries add up to less than is asked for, nothing is asked, and no entry is heavy.
use Rattle.std.proofs.Common.{◌≡◌, ℕ, ◌<◌, ◌≤◌, Bool, true, false, if◌then◌else◌, Some, None, List, [], ℤ, pos, refl, ap, sym, ◌∙◌, subst}
use Rattle.std.specs.Prelude.{nat_le}
use Rattle.std.proofs.lemmas.Bool.{lt-leb}
use Rattle.sip_field.specs.Moduli.{m61_modulus}
use Rattle.sip_vector.specs.declared.query.Query.TheVariants.{Share}
use Rattle.sip_vector.specs.declared.update.Side.{Side}
use Rattle.sip_vector.specs.declared.update.Update.{Update}
use Rattle.sip_vector.specs.Answers.{Answer, answer, pairs}
use Rattle.sip_vector.specs.Streams.{int_sum, vector, IsLegal, IsStrict}
use Rattle.sip_vector.specs.Thresholds.{share_of}
use Rattle.sip_replies.specs.Protocols.{Protocol}
use Rattle.sip_replies.specs.Replies.{accepts, run_from}
use Rattle.sip_wire.specs.declared.version.Version.{Version}
use Rattle.sip_heavy.specs.Counting.{accepts_heavy, heavy_over, said}
use Rattle.sip_heavy.specs.Protocol.{HeavyState, count_of}
use Rattle.sip_verifier.proofs.JointReports.{none_heavy}
use Rattle.sip_verifier.proofs.ShareAnswers.{share_answer}

accepts_unasked : {S : Type 0} (P : Protocol S) (rs : List ℕ) (all : List (List ℕ))
    (known : Answer) → P.unasked ≡ Some known → accepts P rs all ≡ true
accepts_unasked P rs all known e = rw e refl

-- no reply says no entry
pub none_said : (version : Version) (p depth t : ℕ) (numbers : List ℤ)
    → said version p depth t numbers [] ≡ []
unfolding run_from
none_said version p depth t numbers = refl

module _ (version : Version) (p depth n t : ℕ) (stream : List Update) (side : Side) (block : List ℕ)
    (sum : int_sum (vector depth stream side) ≡ pos n) (less : n < t) where
  abbrev asks : Protocol HeavyState
  asks = heavy_over version p depth t (vector depth stream side) block

  not_reached : nat_le t (count_of (int_sum (vector depth stream side))) ≡ false
  not_reached = ap (λ z. nat_le t (count_of z)) sum ∙ lt-leb t n less

  unasked : asks.unasked ≡ Some (pairs [])
  unasked = ap (λ (b : Bool). if b then None else Some (pairs [])) not_reached

  pub accepted : accepts_heavy version p depth t (vector depth stream side) block [] ≡ true
  accepted = accepts_unasked asks block [] (pairs []) unasked

pub none_shared : (version : Version) (depth n num den : ℕ) (stream : List Update) (side : Side)
    → IsLegal depth stream → IsStrict depth stream side → 1 ≤ den
    → int_sum (vector depth stream side) ≡ pos n → n < share_of num den (pos n)
    → answer depth stream (Share side num den) ≡ pairs []
none_shared version depth n num den stream side legal strict some sum less =
    share_answer depth stream side num den some legal strict
    ∙ none_heavy version m61_modulus depth n
    (share_of num den (int_sum (vector depth stream side))) stream side [] strict sum
    (subst (λ z. n < share_of num den z) (sym sum) less)
