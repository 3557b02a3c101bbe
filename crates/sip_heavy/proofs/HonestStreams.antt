-- The heavy entries of a legal stream's vector can be sent, and below the threshold there are none.
use Rattle.std.proofs.Common.{◌≡◌, ℕ, ◌<◌, ◌≤◌, length, Bool, true, false, inl, inr, if◌then◌else◌, Option, Some, None, List, [], map, All, ℤ, pos, nat_abs, refl, sym, ap, subst, ◌∙◌, arith}
use Rattle.std.specs.Prelude.{nat_le, ◌≤ℤ◌}
use Rattle.std.proofs.lemmas.Bool.Decides.{leb_tells}
use Rattle.sip_field.specs.Moduli.{m61_modulus}
use Rattle.sip_vector.specs.declared.update.Side.{Side}
use Rattle.sip_vector.specs.declared.update.Update.{Update}
use Rattle.sip_vector.specs.Answers.{Answer, pairs}
use Rattle.sip_vector.specs.Streams.{int_sum, of_side, total, vector, weight, most_weight, IsLegal, IsStrict}
use Rattle.sip_vector.specs.Splits.{weights}
use Rattle.sip_vector.specs.Trees.{Counted, leaf}
use Rattle.sip_vector.proofs.Sides.{length-vector, total-is}
use Rattle.sip_vector.proofs.Splits.{weights_sum}
use Rattle.sip_wire.specs.declared.version.Version.{Version}
use Rattle.sip_wire.specs.declared.version.Version.TheVariants.{Two}
use Rattle.sip_wire.specs.Versions.{deepest}
use Rattle.sip_replies.specs.Replies.{IsStated, IsAccepted}
use Rattle.sip_heavy.specs.declared.form.LeafForm.{LeafForm}
use Rattle.sip_heavy.specs.declared.form.LeafForm.TheVariants as forms
use Rattle.sip_heavy.specs.Counting.{LeavesStand, AreWeighed}
use Rattle.sip_heavy.specs.Honest.{CanBeSent, heavy_of}
use Rattle.sip_heavy.specs.HonestMarks.{mark_leaves, CanBeMarked}
use Rattle.sip_heavy.specs.Protocol.{HeavyAsked, above_asked, heavy_asked, heavy_protocol}
use Rattle.sip_heavy.proofs.CountLeaves.{counts_stand}
use Rattle.sip_heavy.proofs.HeavyPairs.{counts}
use Rattle.sip_heavy.proofs.HonestLists.{heavy_numbers, none_heavy}
use Rattle.sip_heavy.proofs.LegalMarks.{legal_weighed, long_weights, same_length}
use Rattle.sip_heavy.proofs.LegalSums.{sum_light, side_light}
use Rattle.sip_heavy.proofs.MarkLeaves.{marks_stand, weights_of}
use Rattle.sip_heavy.proofs.Sendable.{are_counts, counts_are, numbers_of}

pub legal_sent : (version : Version) (depth n : ℕ) (stream : List Update) (side : Side) → IsLegal depth stream → IsStrict depth stream side → 1 ≤ depth → depth ≤ deepest version
    → total stream side ≡ pos n → CanBeSent version m61_modulus depth n (vector depth stream side)
legal_sent version depth n stream side legal strict levels shallow is =
    let few : n ≤ most_weight = omega (arith, ap nat_abs is, sum_light (of_side stream side), side_light depth stream side legal) in
    record {
      counted = record {
        modulus = omega arith;
        levels = levels;
        size = length-vector depth stream side;
        strict = strict;
        total = sym (total-is depth stream side legal.items) ∙ is;
        light = omega (arith, few);
      };
      elements = omega arith;
      shallow = shallow;
    }

-- the large entries of every legal stream can be sent
pub legal_marked : (depth : ℕ) (stream : List Update) (side : Side) → IsLegal depth stream → 1 ≤ depth → depth ≤ deepest Two → CanBeMarked m61_modulus depth (weight stream side) (vector depth stream side) (weights depth stream side)
legal_marked depth stream side legal levels shallow =
    let bound : most_weight < m61_modulus = omega arith in
    record {
      weighed = record {
        modulus = omega arith;
        levels = levels;
        long = same_length depth stream side;
        size = long_weights depth stream side;
        weighed = legal_weighed depth stream side legal;
        total = sym (weights_sum depth stream side legal.items);
        light = omega (arith, side_light depth stream side legal, bound);
      };
      elements = omega arith;
      shallow = shallow;
    }

-- ---- below the threshold

no_heavy : (p : ℕ) (form : LeafForm) (t n : ℕ) (leaves : List Counted) (numbers : List ℤ) → LeavesStand p form leaves numbers → counts leaves ≡ n → n < t → heavy_of t numbers ≡ []
no_heavy p form t n leaves numbers stand sum less = sym (heavy_numbers p form t 0 leaves numbers stand) ∙ none_heavy p form t 0 leaves numbers stand (omega (arith, sum, less))

-- nothing is asked of leaves whose sum is below it, and none stands for a heavy number
no_leaves_asked : (asked : HeavyAsked) (leaves : List Counted) (numbers : List ℤ) (challenges : List ℕ) → LeavesStand asked.modulus asked.query.form leaves numbers → counts leaves ≡ asked.query.total
    → asked.query.total < asked.query.at_least → IsAccepted (heavy_protocol asked) challenges [] (pairs (heavy_of asked.query.at_least numbers))
no_leaves_asked asked leaves numbers challenges stand sum less =
    by_reach (nat_le asked.query.at_least asked.query.total) (elim (leb_tells asked.query.at_least asked.query.total) [ inl s ↦ absurd (omega (arith, s.1, less)) | inr s ↦ s.0 ])
  where
    by_reach : (b : Bool) → b ≡ false → elim (if b then None else Some (pairs [])) as (λ (u : Option Answer). Type 0) [
      | None ↦ IsStated (heavy_protocol asked) challenges [] (pairs (heavy_of asked.query.at_least numbers))
      | Some known ↦ (let none : List (List ℕ) = [] in none ≡ []) × (pairs (heavy_of asked.query.at_least numbers) ≡ known)
    ]
    by_reach true e = absurd cc
    by_reach false e = (refl, ap (λ es. pairs es) (no_heavy asked.modulus asked.query.form asked.query.at_least asked.query.total leaves numbers stand sum less))

pub none_asked : (version : Version) (p hash depth t n : ℕ) (numbers : List ℤ) (challenges : List ℕ) → All (λ a. pos 0 ≤ℤ a) numbers → int_sum numbers ≡ pos n → n < t
    → IsAccepted (heavy_protocol (heavy_asked version p hash (int_sum numbers) depth t)) challenges [] (pairs (heavy_of t numbers))
none_asked version p hash depth t n numbers challenges strict sum less =
    let stand = counts_stand p numbers strict in
    subst (λ z. IsAccepted (heavy_protocol (heavy_asked version p hash z depth t)) challenges [] (pairs (heavy_of t numbers))) (sym sum)
    (no_leaves_asked (heavy_asked version p hash (pos n) depth t) (map (leaf p) numbers) numbers challenges stand (counts_are (map (leaf p) numbers) numbers n (are_counts p forms.Count (map (leaf p) numbers) numbers stand) (numbers_of p numbers) sum) less)

pub none_weighed : (version : Version) (p hash depth t n : ℕ) (values weights : List ℤ) (challenges : List ℕ) → 0 < p → length values ≡ length weights → AreWeighed p values weights → int_sum weights ≡ pos n → n < t
    → IsAccepted (heavy_protocol (above_asked version p hash n depth t)) challenges [] (pairs (heavy_of t values))
none_weighed version p hash depth t n values weights challenges some long weighed sum less =
    let leaves = mark_leaves p values weights in
    let stand = marks_stand p some values weights long weighed in
    no_leaves_asked (above_asked version p hash n depth t) leaves values challenges stand (counts_are leaves weights n (are_counts p forms.Mark leaves values stand) (weights_of p values weights long) sum) less
