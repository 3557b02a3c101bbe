-- The head of a run's transcript is that of a run that a transcript can tell of, with the run's own
-- queries and challenges.
use Rattle.std.proofs.Common.{◌≡◌, ℕ, zero, suc, ◌+◌, ◌-◌, ◌*◌, ◌/◌, ◌<◌, ◌≤◌, Some, List, [], ◌∷◌, ◌++◌, length, take, drop, refl, sym, ap, ◌∙◌, arith, length-drop}
use Rattle.std.specs.Prelude.{All, IsTrue, map}
use Rattle.std.specs.List.{flat_map, zip}
use Rattle.std.proofs.Math.Nat.{div-eq_of_lt, mul-add-div, mul_comm, suc-mul}
use Rattle.std.proofs.lemmas.Bool.Decides.{nat_tests}
use Rattle.std.proofs.lemmas.List.{length-map, nil_from_length, take-append-drop}
use Rattle.std.proofs.lemmas.List.Concat.{flat_map-cons}
use Rattle.std.proofs.lemmas.List.Elements.{All-cons, All-head, All-nil, All-tail, All-weaker}
use Rattle.std.proofs.lemmas.List.Folds.{flat_map-map}
use Rattle.std.proofs.lemmas.Slice.Zip.{firsts-zip, seconds-zip}
use Rattle.sip_field.specs.Moduli.{m61_modulus}
use Rattle.sip_vector.specs.Limits.{most_depth}
use Rattle.sip_vector.specs.Pieces.{cut, pieces}
use Rattle.sip_vector.specs.declared.query.Query.{Query}
use Rattle.sip_wire.specs.declared.version.Version.{Version}
use Rattle.sip_wire.specs.Table.{is_element, most_queries}
use Rattle.sip_wire.specs.Versions.{Speaks, deepest}
use Rattle.sip_wire.proofs.Asking.{needed-speaks}
use Rattle.sip_verifier.specs.declared.task.Task.{Task}
use Rattle.sip_verifier.specs.Draws.{challenge_count, drawn}
use Rattle.sip_verifier.specs.Tasks.{CanBeAsked, CanBeDone, version_of}
use Rattle.sip_verifier.specs.Transcripts.{asks_of}
use Rattle.sip_verifier.proofs.Blocks.{IsBlock, are_blocks, length-challenges}
use Rattle.sip_transcript.specs.Heads.{Ask, IsAsk, IsRun}

-- ---- pieces

-- pieces of all elements are these, one after another
pieces_join : (k n : ℕ) (xs : List ℕ) → length xs ≤ n * k → flat_map (λ b. b) (pieces k n xs) ≡ xs
pieces_join k zero xs le = let none : zero * k ≡ 0 = grind arith in sym (nil_from_length xs (omega (arith, le, none)))
pieces_join k (suc n) xs le =
    let more = suc-mul n k in
    let less = length-drop k xs in
    flat_map-cons (λ (b : List ℕ). b) (take k xs) (pieces k n (drop k xs)) ∙ ap (λ (l : List ℕ). take k xs ++ l) (pieces_join k n (drop k xs) (omega (arith, more, less, le))) ∙ take-append-drop k xs

pieces_count : (k n : ℕ) (xs : List ℕ) → length (pieces k n xs) ≡ n
pieces_count k zero xs = refl
pieces_count k (suc n) xs = ap suc (pieces_count k n (drop k xs))

-- ---- queries with their blocks

elements_below : (block : List ℕ) → All (λ r. r < m61_modulus) block → All (λ r. IsTrue (is_element r)) block
elements_below block below = All-weaker (λ (r : ℕ). r < m61_modulus) (λ (r : ℕ). IsTrue (is_element r)) (λ r less. grind (arith, nat_tests, less)) block below

asks_each : (version : Version) (depth : ℕ) (queries : List Query) (blocks : List (List ℕ)) → All (CanBeAsked depth) queries → All (Speaks version depth) queries → All (IsBlock depth) blocks
    → All (IsAsk version depth) (zip queries blocks)
asks_each version depth [] blocks fit speak are = All-nil (IsAsk version depth)
asks_each version depth (q ∷ queries) [] fit speak are = All-nil (IsAsk version depth)
asks_each version depth (q ∷ queries) (b ∷ blocks) fit speak are =
    let block = All-head (IsBlock depth) b blocks are in
    All-cons (IsAsk version depth) (q, b) (zip queries blocks) (record {
      fits = All-head (CanBeAsked depth) q queries fit;
      speaks = All-head (Speaks version depth) q queries speak;
      levels = block.size;
      elements = elements_below b block.below;
    }) (asks_each version depth queries blocks (All-tail (CanBeAsked depth) q queries fit) (All-tail (Speaks version depth) q queries speak) (All-tail (IsBlock depth) b blocks are))

first_shallow : (version : Version) (depth : ℕ) (queries : List Query) → 0 < length queries → All (Speaks version depth) queries → depth ≤ deepest version
first_shallow version depth [] some speak = absurd (omega (arith, some))
first_shallow version depth (q ∷ queries) some speak = let one = All-head (Speaks version depth) q queries speak in one.shallow

-- ---- the head

module _ (task : Task) (seed challenges : List ℕ) (deep : 1 ≤ task.depth) (can : CanBeDone task) (is : drawn task seed ≡ Some challenges) where
  abbrev queries : List Query
  queries = task.queries.items

  size : length challenges ≡ task.depth * length queries
  size = length-challenges (challenge_count task) seed challenges is

  count : (length challenges + (task.depth - 1)) / task.depth ≡ length queries
  count =
      let part : (task.depth - 1) / task.depth ≡ 0 = div-eq_of_lt (omega (arith, deep)) in
      ap (λ m. (m + (task.depth - 1)) / task.depth) size ∙ mul-add-div (omega (arith, deep)) (length queries) (task.depth - 1) ∙ (let whole = part in omega arith)

  long : length (cut task.depth challenges) ≡ length queries
  long = ap (λ m. length (pieces task.depth m challenges)) count ∙ pieces_count task.depth (length queries) challenges

  join : flat_map (λ b. b) (cut task.depth challenges) ≡ challenges
  join =
      let turned : task.depth * length queries ≡ length queries * task.depth = mul_comm task.depth (length queries) in
      let all = size in
      ap (λ m. flat_map (λ (b : List ℕ). b) (pieces task.depth m challenges)) count ∙ pieces_join task.depth (length queries) challenges (omega (arith, all, turned))

  pub asks_queries : map (λ (ask : Ask). ask.0) (asks_of task challenges) ≡ queries
  asks_queries = firsts-zip queries (cut task.depth challenges) long

  pub asks_challenges : flat_map (λ (ask : Ask). ask.1) (asks_of task challenges) ≡ challenges
  asks_challenges =
      sym (flat_map-map (λ (b : List ℕ). b) (λ (ask : Ask). ask.1) (asks_of task challenges))
      ∙ ap (flat_map (λ (b : List ℕ). b)) (seconds-zip queries (cut task.depth challenges) long) ∙ join

  pub run_of : task.depth ≤ most_depth → length queries ≤ most_queries → IsRun (version_of task) task.depth (asks_of task challenges)
  run_of shallow most =
      let some = can.some in
      let speak = needed-speaks task.depth queries shallow in
      let asks = sym (length-map (asks_of task challenges) (λ (ask : Ask). ask.0)) ∙ ap length asks_queries in record {
        deep = deep;
        shallow = first_shallow (version_of task) task.depth queries some speak;
        some = omega (arith, asks, some);
        most = omega (arith, asks, most);
        each = asks_each (version_of task) task.depth queries (cut task.depth challenges) can.asked speak (are_blocks task seed challenges deep is);
      }
