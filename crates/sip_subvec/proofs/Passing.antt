-- Siblings that passed their test.
use Rattle.std.proofs.Common.{◌≡◌, ℕ, true, Ok, sym, ap, ◌∙◌}
use Rattle.sip_wire.specs.declared.message.Reason.{Reason}
use Rattle.sip_wire.specs.declared.message.Reason.TheVariants as reasons
use Rattle.sip_replies.proofs.Passing.{test_passed, same_ok}
use Rattle.sip_subvec.specs.AcceptsSub.{Siblings}
use Rattle.sip_subvec.specs.Replies.{are_asked, asked_siblings}

-- they are those given, and those asked for
pub siblings_passed : (lo hi : ℕ) (x s : Siblings) → asked_siblings lo hi x ≡ Ok s → (are_asked lo hi s ≡ true) × (x ≡ s)
siblings_passed lo hi x s e =
    let t = test_passed (are_asked lo hi x) reasons.BadFlags (λ _. Ok x) s e in
    let same : x ≡ s = same_ok {E = Reason} x s t.1 in
    (ap (are_asked lo hi) (sym same) ∙ t.0, same)
