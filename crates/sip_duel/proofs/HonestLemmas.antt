-- What the honest helper appends.
use Rattle.std.proofs.Common.{◌≡◌, ◌≢◌, ℕ, ◌+◌, ◌<◌, ◌≤◌, List, [], ◌∷◌, ◌++◌, length, take, Option, Some, None, Result, refl, sym, ap, ◌∙◌, subst, arith, length-append}
use Rattle.sip_ports.specs.Ports.{outs}
use Rattle.sip_ports.proofs.TalkLemmas.{outs-injective, outs-append}
use Rattle.sip_wire.specs.declared.message.Message.{Message}
use Rattle.sip_wire.specs.declared.version.Version.{Version}
use Rattle.sip_wire.specs.Spelling.{spelling}
use Rattle.sip_wire.proofs.ReadingLaws.{length-spelling}
use Rattle.sip_helper.specs.Turns.{HelperState, owed, after_answer}
use Rattle.sip_duel.specs.declared.helper.More.{More}
use Rattle.sip_duel.specs.declared.helper.More.TheVariants.{Goes, Ended}
use Rattle.sip_duel.specs.declared.honest.Honest.{Honest}
use Rattle.sip_duel.specs.declared.honest.Standing.{Standing}
use Rattle.sip_duel.specs.declared.honest.Standing.TheVariants.{InTurn, Stray}
use Rattle.sip_duel.specs.Helping.{Appends, IsOwed, Replies}
use Rattle.sip_duel.specs.Told.{told_state, told_by}

pub appended : (old new bytes : List ℕ) → outs new ≡ outs old ++ outs bytes → new ≡ old ++ bytes
appended old new bytes e = outs-injective new (old ++ bytes) (e ∙ sym (outs-append old bytes))

told_as : (a : Standing) (s : HelperState) → a ≡ InTurn → told_by a s ≡ Some s
told_as a s e = ap (λ x. told_by x s) e

pub spelled_something : (version : Version) (m : Message) → spelling version m ≢ []
spelled_something version m e = absurd (omega (arith, length-spelling version m, ap (λ l. length l) e))

longer_has_some : (before after bytes : List ℕ) → after ≡ before ++ bytes → length before < length after → bytes ≢ []
longer_has_some before after bytes e less none = absurd (omega (arith, less, ap (λ l. length l) e, length-append before bytes, ap (λ l. length l) none))

as_long_has_none : (before after bytes : List ℕ) → after ≡ before ++ bytes → length after ≤ length before → bytes ≡ []
as_long_has_none before after [] e most = refl
as_long_has_none before after (b ∷ bytes) e most = absurd (omega (arith, most, ap (λ l. length l) e, length-append before (b ∷ bytes)))

pub answered : (a b : Standing) (s t : HelperState) (before after : List ℕ) → a ≡ InTurn → b ≡ a → t ≡ after_answer s
    → length before < length after → outs after ≡ outs before ++ outs (owed s) → Appends (told_by a s) (told_by b t) before after Goes
answered a b s t before after in_turn same core more went = record {
  bytes = owed s;
  longer = appended before after (owed s) went;
  going = longer_has_some before after (owed s) (appended before after (owed s) went) more;
  owed = subst (λ x. IsOwed x (told_by b t) (owed s) Goes) (sym (told_as a s in_turn)) (refl, told_as b t (same ∙ in_turn) ∙ ap Some core);
}

pub answered_nothing : (a b : Standing) (s t : HelperState) (before after : List ℕ) → a ≡ InTurn
    → length after ≤ length before → outs after ≡ outs before ++ outs (owed s) → Appends (told_by a s) (told_by b t) before after Ended
answered_nothing a b s t before after in_turn most went = record {
  bytes = owed s;
  longer = appended before after (owed s) went;
  going = as_long_has_none before after (owed s) (appended before after (owed s) went) most;
  owed = subst (λ x. IsOwed x (told_by b t) (owed s) Ended) (sym (told_as a s in_turn)) refl;
}

-- a front of a reply
pub appended_front : (before after bytes : List ℕ) → (n : ℕ) × (n < length bytes) × (outs after ≡ outs before ++ outs (take n bytes)) → (more : List ℕ) × (after ≡ before ++ more)
appended_front before after bytes cut = (take cut.0 bytes, appended before after (take cut.0 bytes) cut.2)

pub refused : (new : Option HelperState) (version : Version) (m : Message) (before after : List ℕ) → outs after ≡ outs before ++ outs (spelling version m) → Appends None new before after Goes
refused new version m before after went = record { bytes = spelling version m; longer = appended before after (spelling version m) went; going = spelled_something version m; owed = tt }

pub stray_replies : {E : Type 0} (h : Honest) (new : Option HelperState) (before after : List ℕ) (r : Result More E) → h.standing ≡ Stray
    → Replies None new before after r → Replies (told_state h) new before after r
stray_replies h new before after r e p = subst (λ x. Replies x new before after r) (sym (ap (λ x. told_by x h.core) e)) p
