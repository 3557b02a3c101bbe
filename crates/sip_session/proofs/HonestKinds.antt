-- Which queries an honest helper refuses, by their kinds, and how a refusal is read.
use Rattle.std.proofs.Common.{◌≡◌, ◌≢◌, ◌⊎◌, ℕ, ◌≤◌, Bool, true, false, IsTrue, ℤ, pos, negsuc, List, [], ◌∷◌, ◌++◌, length, Some, None, Err, inl, inr, refl, sym, ap, ◌∙◌, append-nil, arith, length-append, if◌then◌else◌}
use Rattle.std.specs.Prelude.{All, int_le, nat_le, ◌≤ℤ◌}
use Rattle.std.proofs.lemmas.Bool.{cases_Bool, cases_lt, lt-ltb}
use Rattle.std.proofs.lemmas.Int.{ints}
use Rattle.std.proofs.lemmas.List.Sums.{AllPass-from_list_all}
use Rattle.sip_vector.specs.declared.query.Query.{Query}
use Rattle.sip_vector.specs.Built.{is_built}
use Rattle.sip_vector.specs.declared.query.Query.TheVariants.{Sub, Range, F2, Inner, Heavy, Share, Above}
use Rattle.sip_vector.specs.declared.update.Side.{Side}
use Rattle.sip_vector.specs.declared.update.Side.TheVariants.{First, Second}
use Rattle.sip_vector.specs.declared.update.Update.{Update}
use Rattle.sip_vector.specs.Answers.{Answer, pairs}
use Rattle.sip_vector.specs.Streams.{int_sum, total, vector, IsLegal}
use Rattle.sip_vector.specs.Thresholds.{is_wide, share_of}
use Rattle.sip_vector.specs.Vectors.{nonzero_within}
use Rattle.sip_vector.proofs.Sides.{total-is}
use Rattle.sip_wire.specs.declared.kind.Kind.TheVariants as kinds
use Rattle.sip_wire.specs.declared.message.Message.TheVariants as messages
use Rattle.sip_wire.specs.declared.message.Reason.{Reason}
use Rattle.sip_wire.specs.declared.message.Reason.TheVariants as reasons
use Rattle.sip_wire.specs.declared.version.Version.{Version}
use Rattle.sip_wire.specs.Reading.{read_frame}
use Rattle.sip_wire.specs.Spelling.{asked, fits, spelling}
use Rattle.sip_wire.specs.Table.{allows}
use Rattle.sip_wire.proofs.ReadingLaws.{asked-spelling, length-spelling, read_frame-short, read_frame-spelling}
use Rattle.sip_replies.specs.Protocols.{Protocol, Rules}
use Rattle.sip_replies.specs.Replies.{read_reply}
use Rattle.sip_subvec.specs.Replies.{most_entries}
use Rattle.sip_heavy.specs.Protocol.{count_of}
use Rattle.sip_helper.specs.Hitters.{is_strict}
use Rattle.sip_helper.specs.KindRows.{not_strict, too_many, want_of_memory}
use Rattle.sip_helper.specs.Kinds.{help_row}
use Rattle.sip_helper.specs.Streams.{vectors_of}
use Rattle.sip_helper.proofs.Hearing.{refusal_fits}
use Rattle.sip_helper.proofs.HitterReplies.{strict_is}
use Rattle.sip_verifier.specs.CompletenessClause.{HasFewEntries}
use Rattle.sip_verifier.specs.Kinds.{Holds, Kind, heavy_kind, kind_row}
use Rattle.sip_verifier.specs.Widths.{is_too_wide}
use Rattle.sip_duel.proofs.RefusalLemmas.{read_closed, read_refused}
use Rattle.sip_session.specs.PanelHonesty.{IsOnStrictSide, IsRight, IsTooLong}
use Rattle.sip_session.proofs.HonestFronts.{fronts}

-- ---- sides without a negative entry

not_negative : (a : ℤ) → int_le (pos 0) a ≡ true → pos 0 ≤ℤ a
not_negative (pos n) h = omega (arith, ints)
not_negative (negsuc n) h = absurd cc

-- the row's test says whether a side is strict
strict_or_not : (numbers : List ℤ) → All (λ a. pos 0 ≤ℤ a) numbers ⊎ ((is_strict numbers ≡ false) × (¬ All (λ a. pos 0 ≤ℤ a) numbers))
strict_or_not numbers = elim (cases_Bool (is_strict numbers)) [
  | inl t ↦ inl (λ k d less. not_negative _ (AllPass-from_list_all (int_le (pos 0)) numbers t k d less))
  | inr f ↦ inr (f, λ all. let both : true ≡ false = sym (strict_is numbers true (λ _. all, λ _. refl)) ∙ f in absurd cc)
]

module _ (v : Version) (depth : ℕ) (stream : List Update) where
  -- ---- what is refused

  -- the helper that has the vectors refuses the query, for a reason for which it may be dropped
  pub record IsBarred (q : Query) : Type 0 where
    pub code : ℕ
    pub least : 1 ≤ code
    pub most : code ≤ 4
    pub refused : (help_row q).refused_by (vectors_of depth stream) ≡ Some code
    pub why : ((code ≡ too_many) × IsTooLong depth stream q) ⊎ ((code ≡ not_strict) × (¬ IsOnStrictSide depth stream q))

  -- by the test of a heavy query's side
  strict_barred : (numbers : List ℤ) (t : ℕ) → is_strict numbers ≡ false → (if is_strict numbers then (if is_wide t (int_sum numbers) then Some too_many else None) else Some not_strict) ≡ Some not_strict
  strict_barred numbers t e = ap (λ (b : Bool). if b then (if is_wide t (int_sum numbers) then Some too_many else None) else Some not_strict) e

  module _ (legal : IsLegal depth stream) where
    -- a share of a side, by its own total
    share_narrow : (side : Side) (num den : ℕ) → is_too_wide stream (Share side num den) ≡ false → is_wide (share_of num den (int_sum (vector depth stream side))) (total stream side) ≡ false
    share_narrow side num den narrow = ap (λ n. is_wide (share_of num den n) (total stream side)) (sym (total-is depth stream side legal.items)) ∙ narrow

    -- a query whose answer is not too wide can be answered, or it is refused
    pub few_or_barred : (q : Query) → IsTrue (is_built q) → is_too_wide stream q ≡ false → HasFewEntries v depth stream q ⊎ IsBarred q
    few_or_barred (Sub lo hi) built narrow =
        let n : ℕ = length (nonzero_within lo hi (vector depth stream First)) in
        elim (cases_lt most_entries n) [
          | inl more ↦ inr (record {
            code = too_many;
            least = omega arith;
            most = omega arith;
            refused = ap (λ (b : Bool). if b then Some too_many else None) (lt-ltb most_entries n more);
            why = inl (refl, more);
          })
          | inr most ↦ inl most
        ]
    few_or_barred (Range side lo hi) built narrow = inl tt
    few_or_barred (F2 side) built narrow = inl tt
    few_or_barred Inner built narrow = inl tt
    few_or_barred (Heavy First t) built narrow = elim (strict_or_not (vector depth stream First)) [
      | inl strict ↦ inl (strict, narrow)
      | inr other ↦ inr (record { code = not_strict; least = omega arith; most = omega arith; refused = strict_barred (vector depth stream First) t other.0; why = inr (refl, other.1) })
    ]
    few_or_barred (Heavy Second t) built narrow = elim (strict_or_not (vector depth stream Second)) [
      | inl strict ↦ inl (strict, narrow)
      | inr other ↦ inr (record { code = not_strict; least = omega arith; most = omega arith; refused = strict_barred (vector depth stream Second) t other.0; why = inr (refl, other.1) })
    ]
    few_or_barred (Share First num den) built narrow = elim (strict_or_not (vector depth stream First)) [
      | inl strict ↦ inl (strict, share_narrow First num den narrow)
      | inr other ↦ inr (record {
        code = not_strict;
        least = omega arith;
        most = omega arith;
        refused = strict_barred (vector depth stream First) (share_of num den (int_sum (vector depth stream First))) other.0;
        why = inr (refl, other.1);
      })
    ]
    few_or_barred (Share Second num den) built narrow = elim (strict_or_not (vector depth stream Second)) [
      | inl strict ↦ inl (strict, share_narrow Second num den narrow)
      | inr other ↦ inr (record {
        code = not_strict;
        least = omega arith;
        most = omega arith;
        refused = strict_barred (vector depth stream Second) (share_of num den (int_sum (vector depth stream Second))) other.0;
        why = inr (refl, other.1);
      })
    ]
    few_or_barred (Above side t) built narrow = absurd cc

    -- one that can be answered is refused for want of memory alone
    few_right : (q : Query) → HasFewEntries v depth stream q → (code : ℕ) → IsRight depth stream q (reasons.Refused code) → code ≡ 1
    few_right q few code (inl memory) = memory
    few_right (Sub lo hi) few code (inr (inl long)) = absurd (omega (arith, few, long.1))
    few_right (Range side lo hi) few code (inr (inl long)) = absurd long.1
    few_right (F2 side) few code (inr (inl long)) = absurd long.1
    few_right Inner few code (inr (inl long)) = absurd long.1
    few_right (Heavy side t) few code (inr (inl long)) = absurd long.1
    few_right (Share side num den) few code (inr (inl long)) = absurd long.1
    few_right (Above side t) few code (inr (inl long)) = absurd long.1
    few_right (Sub lo hi) few code (inr (inr other)) = absurd (other.1 tt)
    few_right (Range side lo hi) few code (inr (inr other)) = absurd (other.1 tt)
    few_right (F2 side) few code (inr (inr other)) = absurd (other.1 tt)
    few_right Inner few code (inr (inr other)) = absurd (other.1 tt)
    few_right (Heavy side t) few code (inr (inr other)) = absurd (other.1 few.0)
    few_right (Share side num den) few code (inr (inr other)) = absurd (other.1 few.0)
    few_right (Above side t) few code (inr (inr other)) = absurd (other.1 tt)

    pub few_reason : (q : Query) → HasFewEntries v depth stream q → (reason : Reason) → IsRight depth stream q reason → reason ≡ reasons.Refused want_of_memory
    few_reason q few (reasons.Refused code) right = ap reasons.Refused (few_right q few code right)
    few_reason q few _ right = absurd right

  -- ---- what is asked

  -- a query that is asked: its replies are read in this version, and a refusal as one
  pub record IsAskable {S : Type 0} (P : Protocol S) : Type 0 where
    pub asked : P.unasked ≡ None
    pub version : P.rules.version ≡ v
    pub refuses : (code : ℕ) → P.rules.step P.rules.start (messages.Refuse code) ≡ Err (reasons.Refused code)
    pub place : IsTrue (allows (P.rules.place P.rules.start) kinds.Refuse)

  -- it is asked, or its answer is known without a reply
  abbrev pub AskableOrKnown : List ℕ → Kind → Type 0
  AskableOrKnown block kind = IsAskable (kind.protocol block) ⊎ ((known : Answer) × ((kind.protocol block).unasked ≡ Some known))

  heavy_askable : (side : Side) (t : ℕ) (block : List ℕ) → AskableOrKnown block (heavy_kind v depth stream side t)
  heavy_askable side t block = elim (cases_Bool (nat_le t (count_of (int_sum (vector depth stream side))))) [
    | inl reached ↦ inl (record { asked = ap (λ (b : Bool). if b then None else Some (pairs [])) reached; version = refl; refuses = λ code. refl; place = refl })
    | inr below ↦ inr (pairs [], ap (λ (b : Bool). if b then None else Some (pairs [])) below)
  ]

  -- one with too many entries is asked
  pub long_askable : (q : Query) (block : List ℕ) → IsTooLong depth stream q → Holds (λ kind. IsAskable (kind.protocol block)) (kind_row v depth stream q)
  long_askable (Sub lo hi) block long = record { asked = refl; version = refl; refuses = λ code. refl; place = refl }
  long_askable (Range side lo hi) block long = absurd long
  long_askable (F2 side) block long = absurd long
  long_askable Inner block long = absurd long
  long_askable (Heavy side t) block long = absurd long
  long_askable (Share side num den) block long = absurd long
  long_askable (Above side t) block long = absurd long

  pub askable_or_known : (q : Query) (block : List ℕ) → IsTrue (is_built q) → Holds (AskableOrKnown block) (kind_row v depth stream q)
  askable_or_known (Sub lo hi) block built = inl (record { asked = refl; version = refl; refuses = λ code. refl; place = refl })
  askable_or_known (Range side lo hi) block built = inl (record { asked = refl; version = refl; refuses = λ code. refl; place = refl })
  askable_or_known (F2 side) block built = inl (record { asked = refl; version = refl; refuses = λ code. refl; place = refl })
  askable_or_known Inner block built = inl (record { asked = refl; version = refl; refuses = λ code. refl; place = refl })
  askable_or_known (Heavy side t) block built = heavy_askable side t block
  askable_or_known (Share side num den) block built = heavy_askable side (share_of num den (int_sum (vector depth stream side))) block
  askable_or_known (Above side t) block built = absurd cc

-- ---- how a refusal is read

-- the frame of a refusal
abbrev pub refuse_frame : Version → ℕ → List ℕ
refuse_frame v code = spelling v (messages.Refuse code)

module _ {S : Type 0} (R : Rules S) (s : S) (code : ℕ) (least : 1 ≤ code) (most : code ≤ 4) (step : R.step s (messages.Refuse code) ≡ Err (reasons.Refused code)) (may : IsTrue (allows (R.place s) kinds.Refuse)) where
  has : IsTrue (fits R.version (messages.Refuse code))
  has = refusal_fits R.version code least most

  behind : (b more : List ℕ) → b ≡ refuse_frame R.version code ++ more → read_reply R s b ≡ Err (reasons.Refused code)
  behind b more e = read_refused R s code b more step
      (λ none. absurd (omega (arith, ap (λ (l : List ℕ). length l) (sym e ∙ none), length-append (refuse_frame R.version code) more, length-spelling R.version (messages.Refuse code))))
      (ap (read_frame R.version (R.place s)) e ∙ read_frame-spelling R.version (R.place s) (messages.Refuse code) more has may tt)

  -- bytes that agree with a refusal of any code are read as it, or are a front of it
  pub reads_refuse : (b u w : List ℕ) → b ++ u ≡ refuse_frame R.version code ++ w
      → (read_reply R s b ≡ Err (reasons.Refused code)) ⊎ ((read_reply R s b ≡ Err reasons.Closed) × (b ≢ refuse_frame R.version code))
  reads_refuse b u w agree = elim (fronts b u (refuse_frame R.version code) w agree) [
    | inl m ↦ by_rest m.0 m.1
    | inr m ↦ inl (behind b m.0 m.1)
  ]
    where
      by_rest : (rest : List ℕ) → refuse_frame R.version code ≡ b ++ rest → (read_reply R s b ≡ Err (reasons.Refused code)) ⊎ ((read_reply R s b ≡ Err reasons.Closed) × (b ≢ refuse_frame R.version code))
      by_rest [] e = inl (behind b [] (sym (e ∙ append-nil b) ∙ sym (append-nil (refuse_frame R.version code))))
      by_rest (c ∷ cs) e =
          let size = ap (asked R.version (R.place s)) (sym e ∙ sym (append-nil (refuse_frame R.version code))) ∙ asked-spelling R.version (R.place s) (messages.Refuse code) [] has may in
          inr (
            read_closed R s b (read_frame-short R.version (R.place s) b (c ∷ cs) (λ no_more. cc) (omega (arith, size, ap (λ (l : List ℕ). length l) e))),
            λ same. absurd (omega (arith, ap (λ (l : List ℕ). length l) (same ∙ e), length-append b (c ∷ cs))),
          )
