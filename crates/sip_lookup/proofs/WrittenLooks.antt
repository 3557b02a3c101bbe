-- An answer that accepted replies to a lookup state is counted.
use Rattle.std.proofs.Common.{◌≡◌, ◌≢◌, ℕ, true, ℤ, List, map, Option, Some, Ok, ap, sym, ◌∙◌}
use Rattle.std.proofs.lemmas.Bool.{and_from, false_from_ne_true}
use Rattle.sip_field.specs.Moduli.{m61_modulus}
use Rattle.sip_vector.specs.declared.update.Entry.{Entry}
use Rattle.sip_vector.specs.declared.update.Side.TheVariants.{First}
use Rattle.sip_vector.specs.declared.update.Update.{Update}
use Rattle.sip_vector.specs.Answers.{pairs}
use Rattle.sip_vector.specs.Streams.{IsLegal, vector}
use Rattle.sip_vector.specs.Trees.{root}
use Rattle.sip_vector.proofs.Sides.{length-vector}
use Rattle.sip_counts.specs.Strategies.{Strategy, replies, takes_wrong}
use Rattle.sip_counts.proofs.Talks.{takes_wrong-at}
use Rattle.sip_replies.specs.Replies.{IsAccepted}
use Rattle.sip_subvec.specs.Counting.{accepts_sub, said}
use Rattle.sip_subvec.specs.Protocol.{sub_asked, sub_protocol}
use Rattle.sip_subvec.proofs.WrittenAnswers.{accepted_sub, vector-small, verdict_says}
use Rattle.sip_wire.specs.declared.version.Version.{Version}
use Rattle.sip_lookup.specs.AcceptsLook.{accepts_look, accepts_parts, is_right, of_parts, parts, said_within}
use Rattle.sip_lookup.specs.Lookups.{CanLook, Looked, are_alone, is_possible, is_same_answer, near, range_of, stated_answer}
use Rattle.sip_lookup.specs.Promises.{CountsFor, FewFor}
use Rattle.sip_lookup.specs.Questions.{Accepts, Question}
use Rattle.sip_lookup.specs.declared.lookup.Lookup.{Lookup}
use Rattle.sip_lookup.proofs.FewFooled.{few_fooled_look}
use Rattle.sip_lookup.proofs.NearEntries.{equal_answers}

-- a written answer that is wrong makes its challenges counted
pub written_look : (version : Version) (d : ℕ) (numbers : List ℤ) (l : Lookup) (strategy : Strategy) (block : List ℕ) (taken : List (List ℕ)) (answer : Looked)
    (found : Option ℕ) (inner : List (List ℕ)) (entries : List Entry) → parts version taken ≡ Ok (found, inner) → is_possible d l found ≡ true
    → IsAccepted (sub_protocol (sub_asked version m61_modulus (root m61_modulus numbers block) (range_of d l found).0 (range_of d l found).1 block)) block inner (pairs entries)
    → are_alone l found entries ≡ true → answer ≡ stated_answer l entries → replies strategy block ≡ map Some taken → answer ≢ near numbers l
    → takes_wrong (accepts_look version d numbers l) (is_right version d numbers l) strategy block ≡ true
written_look version d numbers l strategy block taken answer found inner entries split possible accepted alone is talk wrong =
    let lo = (range_of d l found).0 in
    let hi = (range_of d l found).1 in
    let says : said version lo hi inner ≡ entries = verdict_says version m61_modulus (root m61_modulus numbers block) lo hi block inner entries accepted.found in
    let sub : accepts_sub version m61_modulus (root m61_modulus numbers block) lo hi block inner ≡ true = accepted_sub version m61_modulus (root m61_modulus numbers block) lo hi block inner entries accepted in
    let single : are_alone l found (said version lo hi inner) ≡ true = ap (are_alone l found) says ∙ alone in
    let own : accepts_parts version d numbers l block (found, inner) ≡ true = and_from _ _ possible (and_from _ _ sub single) in
    let good : accepts_look version d numbers l block taken ≡ true = ap (of_parts (accepts_parts version d numbers l block)) split ∙ own in
    let right : is_right version d numbers l taken ≡ is_same_answer (stated_answer l (said version lo hi inner)) (near numbers l) =
    ap (of_parts (λ x. is_same_answer (said_within version d l x) (near numbers l))) split in
    takes_wrong-at (accepts_look version d numbers l) (is_right version d numbers l) strategy block taken talk good
    (false_from_ne_true _ (λ same. wrong (is ∙ ap (stated_answer l) (sym says) ∙ equal_answers _ _ (sym right ∙ same))))

module _ (version : Version) (depth : ℕ) (stream : List Update) (legal : IsLegal depth stream) where
  pub few_looks : (l : Lookup) → CanLook depth l → FewFor version depth stream l
  few_looks l can = λ strategy bytes. few_fooled_look version depth (vector depth stream First) l (length-vector depth stream First) can strategy bytes (vector-small depth stream legal)

  pub look_counts : (q : Question) (answer : Looked) → CanLook depth q.query → Accepts version depth stream q answer → CountsFor version depth stream q answer
  look_counts q answer can a = record {
    few = few_looks q.query can;
    counts = λ strategy written talk is wrong.
        let same : answer ≡ written = cc in
        written_look version depth (vector depth stream First) q.query strategy q.block q.replies written a.found a.inner a.holds.0 a.split a.possible a.holds.1 a.holds.2 (sym same ∙ a.holds.3) talk wrong;
  }
