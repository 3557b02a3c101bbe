-- What is asked for each kind of query, and what an honest helper replies to it.
use Rattle.std.proofs.Common.{◌≡◌, ◌⊎◌, ℕ, ◌+◌, ◌≤◌, Bool, true, false, IsTrue, List, [], ◌∷◌, ◌++◌, length, take, map, Some, None, Err, inl, inr, refl, sym, ap, ◌∙◌, subst, append_assoc, arith, length-append, if◌then◌else◌}
use Rattle.std.specs.Prelude.{All, nat_lt, nat_le, pos, ◌≤ℤ◌, ℤ}
use Rattle.std.specs.List.{flat_map, range_with_len}
use Rattle.std.proofs.lemmas.Bool.{cases_Bool}
use Rattle.std.proofs.lemmas.Bool.Decides.{nat_tests}
use Rattle.std.proofs.lemmas.List.{take_at}
use Rattle.sip_field.specs.Moduli.{m61_modulus}
use Rattle.sip_vector.specs.Answers.{Answer, Fits, answer, pairs}
use Rattle.sip_vector.specs.Vectors.{nonzero_within}
use Rattle.sip_subvec.specs.Replies.{most_entries}
use Rattle.sip_heavy.specs.Honest.{honest_replies}
use Rattle.sip_heavy.specs.Protocol.{count_of}
use Rattle.sip_helper.proofs.HitterReplies.{strict_is}
use Rattle.sip_vector.specs.Extensions.{ones}
use Rattle.sip_vector.specs.Streams.{int_sum, vector, IsLegal, IsStrict}
use Rattle.sip_vector.specs.Thresholds.{is_wide, share_of}
use Rattle.sip_vector.specs.declared.query.Query.{Query}
use Rattle.sip_vector.specs.declared.query.Query.TheVariants.{Sub, Range, F2, Inner, Heavy, Share, Above}
use Rattle.sip_vector.specs.declared.update.Side.{Side}
use Rattle.sip_vector.specs.declared.update.Side.TheVariants.{First, Second}
use Rattle.sip_vector.specs.declared.update.Update.{Update}
use Rattle.sip_vector.proofs.Sides.{total-is}
use Rattle.sip_wire.specs.declared.kind.Kind.TheVariants as kinds
use Rattle.sip_wire.specs.declared.message.Message.TheVariants as messages
use Rattle.sip_wire.specs.declared.message.Reason.TheVariants as reasons
use Rattle.sip_wire.specs.declared.version.Version.{Version}
use Rattle.sip_wire.specs.Spelling.{spelling}
use Rattle.sip_wire.specs.Table.{allows}
use Rattle.sip_wire.specs.Versions.{Speaks, deepest}
use Rattle.sip_replies.specs.Protocols.{Protocol}
use Rattle.sip_replies.specs.Replies.{IsStated}
use Rattle.sip_subvec.proofs.HonestStreams.{legal_shown}
use Rattle.sip_sums.specs.Questions.{lists}
use Rattle.sip_helper.specs.Hitters.{is_strict}
use Rattle.sip_helper.specs.KindRows.{not_strict, too_many}
use Rattle.sip_helper.specs.Kinds.{help_row}
use Rattle.sip_helper.specs.Streams.{vectors_of}
use Rattle.sip_verifier.specs.CompletenessClause.{HasFewEntries}
use Rattle.sip_verifier.specs.Kinds.{Kind, Holds, kind_row, heavy_kind}
use Rattle.sip_verifier.proofs.Blocks.{IsBlock}
use Rattle.sip_verifier.proofs.WideSeats.{share_least}
use Rattle.sip_verifier.proofs.ShareAnswers.{share_answer}
use Rattle.sip_verifier.proofs.HonestQuestions as honest
use Rattle.sip_duel.proofs.RevealLemmas.{replies_from}

-- ---- honest replies in a row

replies_are : (f : List ℕ → List ℕ) (before block : List ℕ) → map (λ j. f (take j (before ++ block))) (range_with_len (length before) (length block)) ≡ replies_from f before block
replies_are f before [] = refl
replies_are f before (r ∷ rs) =
    ap (λ l. l ∷ map (λ j. f (take j (before ++ r ∷ rs))) (range_with_len (length before + 1) (length rs))) (ap f (take_at before (r ∷ rs) (length before) refl))
    ∙ ap (λ l. f before ∷ l) (ap (λ l. map (λ j. f (take j l)) (range_with_len (length before + 1) (length rs))) (sym (append_assoc before (r ∷ []) rs))
    ∙ ap (λ n. map (λ j. f (take j ((before ++ r ∷ []) ++ rs))) (range_with_len n (length rs))) (let size : length before + 1 ≡ length (before ++ r ∷ []) = omega (arith, length-append before (r ∷ [])) in size)
    ∙ replies_are f (before ++ r ∷ []) rs)

not_above : (a b : ℕ) → b ≤ a → nat_lt a b ≡ false
not_above a b most = grind (arith, nat_tests)

strict_row : (t : ℕ) (numbers : List ℤ) → All (λ a. pos 0 ≤ℤ a) numbers → is_wide t (int_sum numbers) ≡ false
    → (if is_strict numbers then (if is_wide t (int_sum numbers) then Some too_many else None) else Some not_strict) ≡ None
strict_row t numbers strict narrow =
    ap (λ b. if b then (if is_wide t (int_sum numbers) then Some too_many else None) else Some not_strict) (strict_is numbers true (λ _. strict, λ _. refl)) ∙ ap (λ b. if b then Some too_many else None) narrow

module _ (v : Version) (depth : ℕ) (stream : List Update) where
  -- a query that is asked, whose honest replies are the helper's
  pub record IsAsked {S : Type 0} (q : Query) (block : List ℕ) (P : Protocol S) (replies : List (List ℕ)) : Type 0 where
    pub asked : P.unasked ≡ None
    pub stated : IsStated P block replies (answer depth stream q)
    pub honest : replies ≡ replies_from (λ revealed. flat_map (spelling v) ((help_row q).honest (vectors_of depth stream) revealed)) [] block
    pub version : P.rules.version ≡ v
    pub refuses : (code : ℕ) → P.rules.step P.rules.start (messages.Refuse code) ≡ Err (reasons.Refused code)
    pub place : IsTrue (allows (P.rules.place P.rules.start) kinds.Refuse)

  -- a query whose answer is known without a reply
  pub record IsKnown {S : Type 0} (P : Protocol S) (replies : List (List ℕ)) : Type 0 where
    pub known : Answer
    pub unasked : P.unasked ≡ Some known
    pub none : replies ≡ []

  abbrev pub AskedOrKnown : Query → List ℕ → Kind → Type 0
  AskedOrKnown q block kind = IsAsked q block (kind.protocol block) (kind.honest block) ⊎ IsKnown (kind.protocol block) (kind.honest block)

  module _ (some : 1 ≤ depth) (legal : IsLegal depth stream) where
    heavy_asked : (side : Side) (t : ℕ) (q : Query) (block : List ℕ) → 1 ≤ t → depth ≤ deepest v → IsStrict depth stream side → IsBlock depth block
        → answer depth stream q ≡ answer depth stream (Heavy side t)
        → honest_replies v m61_modulus (vector depth stream side) t block ≡ replies_from (λ revealed. flat_map (spelling v) ((help_row q).honest (vectors_of depth stream) revealed)) [] block
        → AskedOrKnown q block (heavy_kind v depth stream side t)
    heavy_asked side t q block least shallow strict at same own = elim (cases_Bool (nat_le t (count_of (int_sum (vector depth stream side))))) [
      | inl reached ↦
          let e : (heavy_kind v depth stream side t).honest block ≡ honest_replies v m61_modulus (vector depth stream side) t block = ap (λ (b : Bool). if b then honest_replies v m61_modulus (vector depth stream side) t block else []) reached in
          let P = (heavy_kind v depth stream side t).protocol block in
          inl (record {
            asked = honest.asked v depth stream side t least some shallow legal strict block at.size reached;
            stated = subst (λ h. IsStated P block h (answer depth stream q)) (sym e) (subst (λ a. IsStated P block (honest_replies v m61_modulus (vector depth stream side) t block) a) (sym same)
                (honest.heavy_honest v depth stream side t least some shallow legal strict block at.size reached));
            honest = e ∙ own;
            version = refl;
            refuses = λ code. refl;
            place = refl;
          })
      | inr below ↦ inr (record {
        known = pairs [];
        unasked = honest.unasked v depth stream side t least some shallow legal strict block at.size below;
        none = ap (λ (b : Bool). if b then honest_replies v m61_modulus (vector depth stream side) t block else []) below;
      })
    ]

    pub asked_or_known : (q : Query) (block : List ℕ) → Fits depth q → Speaks v depth q → HasFewEntries v depth stream q → IsBlock depth block → Holds (AskedOrKnown q block) (kind_row v depth stream q)
    asked_or_known (Sub lo hi) block fits speaks few at = inl (record {
      asked = refl;
      stated = honest.sub_honest v depth stream lo hi block (legal_shown v depth lo hi stream legal some speaks fits.0 fits.1 few) at.size;
      honest = replies_are _ [] block;
      version = refl;
      refuses = λ code. refl;
      place = refl;
    })
    asked_or_known (Range First lo hi) block fits speaks few at = inl (record {
      asked = refl;
      stated = honest.sum_honest v depth stream (Range First lo hi) (lists (vector depth stream First) (ones depth lo hi)) refl some legal block at;
      honest = replies_are _ [] block;
      version = refl;
      refuses = λ code. refl;
      place = refl;
    })
    asked_or_known (Range Second lo hi) block fits speaks few at = inl (record {
      asked = refl;
      stated = honest.sum_honest v depth stream (Range Second lo hi) (lists (vector depth stream Second) (ones depth lo hi)) refl some legal block at;
      honest = replies_are _ [] block;
      version = refl;
      refuses = λ code. refl;
      place = refl;
    })
    asked_or_known (F2 First) block fits speaks few at = inl (record {
      asked = refl;
      stated = honest.sum_honest v depth stream (F2 First) (lists (vector depth stream First) (vector depth stream First)) refl some legal block at;
      honest = replies_are _ [] block;
      version = refl;
      refuses = λ code. refl;
      place = refl;
    })
    asked_or_known (F2 Second) block fits speaks few at = inl (record {
      asked = refl;
      stated = honest.sum_honest v depth stream (F2 Second) (lists (vector depth stream Second) (vector depth stream Second)) refl some legal block at;
      honest = replies_are _ [] block;
      version = refl;
      refuses = λ code. refl;
      place = refl;
    })
    asked_or_known Inner block fits speaks few at = inl (record {
      asked = refl;
      stated = honest.sum_honest v depth stream Inner (lists (vector depth stream First) (vector depth stream Second)) refl some legal block at;
      honest = replies_are _ [] block;
      version = refl;
      refuses = λ code. refl;
      place = refl;
    })
    asked_or_known (Heavy First t) block fits speaks few at = heavy_asked First t (Heavy First t) block fits.0 speaks.shallow few.0 at refl (replies_are _ [] block)
    asked_or_known (Heavy Second t) block fits speaks few at = heavy_asked Second t (Heavy Second t) block fits.0 speaks.shallow few.0 at refl (replies_are _ [] block)
    asked_or_known (Above side t) block fits speaks few at = absurd few
    asked_or_known (Share First num den) block fits speaks few at =
        heavy_asked First (share_of num den (int_sum (vector depth stream First))) (Share First num den) block (share_least num den (int_sum (vector depth stream First)) fits.0 fits.1) speaks.shallow few.0 at (share_answer depth stream First num den (omega (arith, fits.0, fits.1)) legal few.0) (replies_are _ [] block)
    asked_or_known (Share Second num den) block fits speaks few at =
        heavy_asked Second (share_of num den (int_sum (vector depth stream Second))) (Share Second num den) block (share_least num den (int_sum (vector depth stream Second)) fits.0 fits.1) speaks.shallow few.0 at (share_answer depth stream Second num den (omega (arith, fits.0, fits.1)) legal few.0) (replies_are _ [] block)

    -- an honest helper that has the vectors refuses none of these
    pub not_refused : (q : Query) → HasFewEntries v depth stream q → (help_row q).refused_by (vectors_of depth stream) ≡ None
    not_refused (Sub lo hi) few = ap (λ b. if b then Some too_many else None) (not_above most_entries (length (nonzero_within lo hi (vector depth stream First))) few)
    not_refused (Range side lo hi) few = refl
    not_refused (F2 side) few = refl
    not_refused Inner few = refl
    not_refused (Heavy First t) few = strict_row t (vector depth stream First) few.0 (ap (is_wide t) (sym (total-is depth stream First legal.items)) ∙ few.1)
    not_refused (Heavy Second t) few = strict_row t (vector depth stream Second) few.0 (ap (is_wide t) (sym (total-is depth stream Second legal.items)) ∙ few.1)
    not_refused (Above side t) few = absurd few
    not_refused (Share First num den) few =
        let n = int_sum (vector depth stream First) in strict_row (share_of num den n) (vector depth stream First) few.0 (ap (is_wide (share_of num den n)) (sym (total-is depth stream First legal.items)) ∙ few.1)
    not_refused (Share Second num den) few =
        let n = int_sum (vector depth stream Second) in strict_row (share_of num den n) (vector depth stream Second) few.0 (ap (is_wide (share_of num den n)) (sym (total-is depth stream Second legal.items)) ∙ few.1)
