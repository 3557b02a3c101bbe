-- A question for large entries that heard honest replies: where it was accepted its answer is the stream's own, and it has no fault.
use Rattle.std.proofs.Common.{◌≡◌, ◌≢◌, ℕ, ◌≤◌, Bool, true, false, ℤ, pos, Some, None, List, [], ◌++◌, length, if◌then◌else◌, inl, inr, refl, sym, ap, subst, ◌∙◌, arith}
use Rattle.std.specs.Prelude.{nat_le}
use Rattle.std.proofs.lemmas.Bool.{cases_Bool, leb-true, leb-false}
use Rattle.sip_field.specs.Moduli.{m61_modulus}
use Rattle.sip_vector.specs.declared.update.Entry.{Entry}
use Rattle.sip_vector.specs.declared.update.Update.{Update}
use Rattle.sip_vector.specs.Answers.{pairs}
use Rattle.sip_vector.specs.Splits.{splitroot}
use Rattle.sip_vector.specs.Streams.{IsLegal, int_sum, weight}
use Rattle.sip_vector.proofs.Splits.{weights_sum}
use Rattle.sip_wire.specs.declared.message.Reason.TheVariants as reasons
use Rattle.sip_wire.specs.declared.version.Version.{Version}
use Rattle.sip_wire.specs.declared.version.Version.TheVariants.{One, Two}
use Rattle.sip_wire.specs.Versions.{Speaks, deepest}
use Rattle.sip_replies.specs.Protocols.{Protocol}
use Rattle.sip_replies.specs.Replies as general
use Rattle.sip_replies.specs.Replies.{Fault, IsStated, joined}
use Rattle.sip_heavy.specs.HonestMarks.{above_replies}
use Rattle.sip_heavy.specs.Protocol.{HeavyState, count_of}
use Rattle.sip_heavy.proofs.HonestStreams.{legal_marked, none_weighed}
use Rattle.sip_heavy.proofs.HonestVerdicts.{marks_accepted}
use Rattle.sip_heavy.proofs.LegalMarks.{legal_weighed, same_length}
use Rattle.sip_verifier.specs.runs.Manners.{Question}
use Rattle.sip_verifier.proofs.HonestQuestions.{accepted_asked, accepted_unasked}
use Rattle.sip_verifier.proofs.HonestReplies as honest
use Rattle.sip_above.specs.declared.large.Large.{Large}
use Rattle.sip_above.specs.Manner.{answer, asking, honest_bytes, protocol_of, values_of, weights_of}
use Rattle.sip_above.specs.Questions.{query_of}

-- version 2 alone asks for large entries
pub of_two : (version : Version) (depth : ℕ) (l : Large) → Speaks version depth (query_of l) → version ≡ Two
of_two One depth l speaks = let no = speaks.has_code in absurd cc
of_two Two depth l speaks = refl

-- a list of entries is the pairs of an answer
same_entries : (one other : List Entry) → pairs one ≡ pairs other → one ≡ other
same_entries one other e = cc

module _ (depth : ℕ) (stream : List Update) (some : 1 ≤ depth) (shallow : depth ≤ deepest Two) (legal : IsLegal depth stream) (q : Question Large) (least : 1 ≤ q.query.at_least) (size : length q.block ≡ depth) where
  abbrev values : List ℤ
  values = values_of depth stream q.query

  abbrev heavy : List ℤ
  heavy = weights_of depth stream q.query

  abbrev P : Protocol HeavyState
  P = protocol_of Two depth stream q

  abbrev shown : List (List ℕ)
  shown = above_replies m61_modulus values heavy q.query.at_least q.block

  abbrev own : List Entry
  own = answer depth stream q.query

  -- the sum of the weights
  abbrev n : ℕ
  n = count_of (int_sum heavy)

  same : weight stream q.query.side ≡ n
  same = ap count_of (weights_sum depth stream q.query.side legal.items)

  -- it reaches the threshold: honest replies are accepted, and state the stream's own answer
  module _ (reached : nat_le q.query.at_least n ≡ true) where
    asked : P.unasked ≡ None
    asked = ap (λ (b : Bool). if b then None else Some (pairs [])) reached

    stated : IsStated P q.block shown (pairs own)
    stated =
        accepted_asked P q.block shown (pairs own) asked
        (marks_accepted m61_modulus depth q.query.at_least (weight stream q.query.side) values heavy (legal_marked depth stream q.query.side legal some shallow) least (let reach = leb-true q.query.at_least n reached in omega (arith, reach, same)) q.block size)

    honest_is : honest_bytes Two depth stream (q.query, q.block) ≡ joined shown
    honest_is = ap (λ (b : Bool). if b then joined shown else []) reached

    reached_done : (written : List Entry) (b a : List ℕ) → general.IsAccepted P q.block q.replies (pairs written)
        → honest_bytes Two depth stream (q.query, q.block) ++ b ≡ joined q.replies ++ a → (b ≡ a) × (written ≡ own)
    reached_done written b a accepts agree =
        let both = honest.stated_honest P q.block shown (pairs own) stated q.replies b a (ap (λ (l : List ℕ). l ++ b) (sym honest_is) ∙ agree) (pairs written) (accepted_asked P q.block q.replies (pairs written) asked accepts) in
        (both.0, same_entries written own both.1)

    reached_faulty : (fault : Fault) (b a : List ℕ) → general.IsFaulty P q.block q.replies fault → fault.reason ≢ reasons.Closed
        → honest_bytes Two depth stream (q.query, q.block) ++ b ≡ joined q.replies ++ a → ⊥
    reached_faulty fault b a faulty other agree =
        honest.none_faulty P q.block shown (pairs own) stated q.replies b a (ap (λ (l : List ℕ). l ++ b) (sym honest_is) ∙ agree) fault faulty other

  -- it does not: nothing is asked, and no entry is so large
  module _ (below : nat_le q.query.at_least n ≡ false) where
    unasked : P.unasked ≡ Some (pairs [])
    unasked = ap (λ (b : Bool). if b then None else Some (pairs [])) below

    none_is : pairs own ≡ pairs []
    none_is =
        let total : int_sum heavy ≡ pos n = sym (weights_sum depth stream q.query.side legal.items) ∙ ap pos same in
        let accepts = none_weighed Two m61_modulus (splitroot m61_modulus values heavy q.block) depth q.query.at_least n values heavy q.block (omega arith) (same_length depth stream q.query.side) (legal_weighed depth stream q.query.side legal) total (leb-false q.query.at_least n below) in
        (accepted_unasked P q.block [] (pairs own) (pairs []) unasked accepts).1

    below_done : (written : List Entry) (b a : List ℕ) → general.IsAccepted P q.block q.replies (pairs written)
        → honest_bytes Two depth stream (q.query, q.block) ++ b ≡ joined q.replies ++ a → (b ≡ a) × (written ≡ own)
    below_done written b a accepts agree =
        let known = accepted_unasked P q.block q.replies (pairs written) (pairs []) unasked accepts in
        let nothing : honest_bytes Two depth stream (q.query, q.block) ≡ [] = ap (λ (x : Bool). if x then joined shown else []) below in
        (ap (λ (l : List ℕ). l ++ b) (sym nothing) ∙ agree ∙ ap (λ (l : List (List ℕ)). joined l ++ a) known.0, same_entries written own (known.1 ∙ sym none_is))

    below_faulty : (fault : Fault) → general.IsFaulty P q.block q.replies fault → ⊥
    below_faulty fault faulty = let no = sym unasked ∙ faulty.asked in cc

  by_reach_done : (written : List Entry) (b a : List ℕ) → general.IsAccepted P q.block q.replies (pairs written)
      → honest_bytes Two depth stream (q.query, q.block) ++ b ≡ joined q.replies ++ a → (b ≡ a) × (written ≡ own)
  by_reach_done written b a accepts agree = elim (cases_Bool (nat_le q.query.at_least n)) [
    | inl reached ↦ reached_done reached written b a accepts agree
    | inr below ↦ below_done below written b a accepts agree
  ]

  by_reach_faulty : (fault : Fault) (b a : List ℕ) → general.IsFaulty P q.block q.replies fault → fault.reason ≢ reasons.Closed
      → honest_bytes Two depth stream (q.query, q.block) ++ b ≡ joined q.replies ++ a → ⊥
  by_reach_faulty fault b a faulty other agree = elim (cases_Bool (nat_le q.query.at_least n)) [
    | inl reached ↦ reached_faulty reached fault b a faulty other agree
    | inr below ↦ below_faulty below fault faulty
  ]

-- the same in the version in which it is asked
module _ (version : Version) (depth : ℕ) (stream : List Update) (some : 1 ≤ depth) (legal : IsLegal depth stream) (q : Question Large) (least : 1 ≤ q.query.at_least) (speaks : Speaks version depth (query_of q.query)) (size : length q.block ≡ depth) where
  two : version ≡ Two
  two = of_two version depth q.query speaks

  shallow : depth ≤ deepest Two
  shallow = subst (λ (v : Version). depth ≤ deepest v) two speaks.shallow

  pub large_done : (written : List Entry) (b a : List ℕ) → (asking version depth stream).Accepts q written
      → honest_bytes version depth stream (q.query, q.block) ++ b ≡ joined q.replies ++ a → (b ≡ a) × (written ≡ answer depth stream q.query)
  large_done written b a accepts agree =
      by_reach_done depth stream some shallow legal q least size written b a
      (subst (λ (v : Version). (asking v depth stream).Accepts q written) two accepts) agree

  pub large_faulty : (fault : Fault) (b a : List ℕ) → (asking version depth stream).IsFaulty q fault → fault.reason ≢ reasons.Closed
      → honest_bytes version depth stream (q.query, q.block) ++ b ≡ joined q.replies ++ a → ⊥
  large_faulty fault b a faulty other agree =
      by_reach_faulty depth stream some shallow legal q least size fault b a
      (subst (λ (v : Version). (asking v depth stream).IsFaulty q fault) two faulty) other agree
