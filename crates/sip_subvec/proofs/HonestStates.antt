-- All honest replies: what they state, and that it gives the root.
use Rattle.std.proofs.Common.{◌≡◌, ℕ, suc, ◌/◌, ◌^◌, ◌<◌, ◌≤◌, true, List, [], ◌∷◌, ◌++◌, length, drop, map, fold, zip, ℤ, Ok, All, refl, sym, ap, ◌∙◌, arith}
use Rattle.std.specs.Prelude.{nat_eq}
use Rattle.std.specs.Cmp.Lexicographic.{pointwise}
use Rattle.std.specs.List.{flat_map}
use Rattle.std.proofs.lemmas.List.{length-append, length-map}
use Rattle.std.proofs.lemmas.List.Concat.{flat_map-cons}
use Rattle.std.proofs.lemmas.List.Sums.{fold-append}
use Rattle.sip_field.specs.Moduli.{m61_modulus}
use Rattle.sip_field.specs.Residue.{residue}
use Rattle.sip_vector.specs.Trees.{up, root}
use Rattle.sip_vector.specs.Vectors.{nonzero_within}
use Rattle.sip_vector.specs.Answers.{pairs}
use Rattle.sip_wire.specs.declared.version.Version.{Version}
use Rattle.sip_wire.specs.Spelling.{spelling}
use Rattle.sip_counts.proofs.Walks.{walk, fronts_walk, walk_snoc}
use Rattle.sip_replies.specs.Replies.{read_reply, run, verdict}
use Rattle.sip_subvec.specs.AcceptsSub.{Stated, next_level, folded, gives_root}
use Rattle.sip_subvec.specs.Checking.{nothing}
use Rattle.sip_subvec.specs.Honest.{Proving, begun, learnt, proving, honest_siblings, its_siblings, siblings_message, entry_frames, honest_messages, honest_reply, honest_replies}
use Rattle.sip_subvec.specs.Protocol.{sub_asked, sub_protocol, sub_rules}
use Rattle.sip_subvec.specs.Replies.{most_entries}
use Rattle.sip_subvec.proofs.Halvings.{whole, halved_last}
use Rattle.sip_subvec.proofs.FirstReply.{in_part, as_whole}
use Rattle.sip_subvec.proofs.HonestEntries.{nonzero_pass, stated_window}
use Rattle.sip_subvec.proofs.HonestFrames.{IsRow, lowest_below, above_below}
use Rattle.sip_subvec.proofs.HonestReading.{first_read, replies_above, above_read}
use Rattle.sip_subvec.proofs.Runs.{run_is, run_none}
use Rattle.sip_subvec.proofs.Windows.{siblings_above, windows_fold, top_alone}

-- ---- what a prover knows

same_proving : (a b : List ℕ) (lo low hi high : ℕ) → a ≡ b → lo ≡ low → hi ≡ high
    → ◌≡◌ {A = Proving} (record { level = a; lo = lo; hi = hi }) (record { level = b; lo = low; hi = high })
same_proving a b lo low hi high e f g = rw (e, f, g) refl

-- before any challenge it is what it began with
pub proving-nil : (p : ℕ) (numbers : List ℤ) (lo hi : ℕ) → proving p numbers lo hi [] ≡ begun p numbers lo hi
proving-nil p numbers lo hi = same_proving _ _ _ _ _ _ refl (whole lo) (whole hi)

-- and one more challenge leads to the level above
pub proving-push : (p : ℕ) (numbers : List ℤ) (lo hi : ℕ) (prefix : List ℕ) (r : ℕ) → proving p numbers lo hi (prefix ++ r ∷ []) ≡ learnt p (proving p numbers lo hi prefix) r
proving-push p numbers lo hi prefix r =
    let longer : length (prefix ++ r ∷ []) ≡ suc (length prefix) = omega (arith, length-append prefix (r ∷ [])) in
    let halvings : (n : ℕ) → n / 2 ^ length (prefix ++ r ∷ []) ≡ n / 2 ^ length prefix / 2 = λ n. ap (λ m. n / 2 ^ m) longer ∙ halved_last n (length prefix) in
    same_proving _ _ _ _ _ _ (fold-append (up p) (map (residue p) numbers) prefix (r ∷ [])) (halvings lo) (halvings hi)

-- ---- reply by reply

-- the siblings of a level alone
abbrev pub siblings_reply : Version → Proving → List ℕ
siblings_reply version s = spelling version (siblings_message (its_siblings s)) ++ []

-- the siblings of a prover's level and of those above it, each as one reply
abbrev pub above : Version → ℕ → Proving → List ℕ → List (List ℕ)
above version p s challenges = replies_above version p s.level s.lo s.hi challenges

module _ (version : Version) (p : ℕ) (numbers : List ℤ) (lo hi : ℕ) where
  -- a later reply, and reply 0 with those above it
  later_reply_is : (c : ℕ) (front : List ℕ)
      → honest_reply version p numbers lo hi (c ∷ front)
      ≡ siblings_reply version (proving p numbers lo hi (c ∷ front))
  unfolding honest_messages
  later_reply_is c front = flat_map-cons (spelling version) _ []

  later_walk : (c : ℕ) (front challenges : List ℕ)
      → walk (honest_reply version p numbers lo hi) (c ∷ front) challenges
      ≡ above version p (proving p numbers lo hi (c ∷ front)) challenges
  unfolding walk
  later_walk c front [] = refl
  later_walk c front (r ∷ challenges) =
      ap (λ x. x ∷ walk (honest_reply version p numbers lo hi) (c ∷ (front ++ r ∷ [])) challenges)
      (later_reply_is c front)
      ∙ ap (λ xs. siblings_reply version (proving p numbers lo hi (c ∷ front)) ∷ xs)
      (later_walk c (front ++ r ∷ []) challenges
      ∙ ap (λ s. above version p s challenges) (proving-push p numbers lo hi (c ∷ front) r))

  replies_are : (r : ℕ) (challenges : List ℕ)
      → honest_replies version p numbers lo hi (r ∷ challenges)
      ≡ honest_reply version p numbers lo hi []
      ∷ replies_above version p (up p (map (residue p) numbers) r) (lo / 2) (hi / 2) challenges
  unfolding walk
  replies_are r challenges =
      fronts_walk (honest_reply version p numbers lo hi) [] (r ∷ challenges)
      ∙ ap (λ xs. honest_reply version p numbers lo hi [] ∷ xs) (later_walk r [] challenges
      ∙ ap (λ s. above version p s challenges) (proving-push p numbers lo hi [] r
      ∙ ap (λ s. learnt p s r) (proving-nil p numbers lo hi)))

  -- one challenge more gives one reply more
  pub replies_more : (revealed : List ℕ) (r : ℕ)
      → honest_replies version p numbers lo hi (revealed ++ r ∷ [])
      ≡ honest_replies version p numbers lo hi revealed
      ++ honest_reply version p numbers lo hi revealed ∷ []
  replies_more revealed r =
      let g = honest_reply version p numbers lo hi in
      fronts_walk g [] (revealed ++ r ∷ [])
      ∙ walk_snoc g [] revealed r
      ∙ ap (λ xs. xs ++ g revealed ∷ []) (sym (fronts_walk g [] revealed))

  first_reply_is : honest_reply version p numbers lo hi []
      ≡ flat_map (spelling version) (entry_frames (nonzero_within lo hi numbers)
      ++ siblings_message (honest_siblings (map (residue p) numbers) lo hi) ∷ [])
  unfolding honest_messages
  first_reply_is =
      ap (λ (s : Proving). flat_map (spelling version)
      (entry_frames (nonzero_within lo hi numbers)
      ++ siblings_message (honest_siblings s.level s.lo s.hi) ∷ []))
      (proving-nil p numbers lo hi)

  -- ---- what they state

  pub all_stated : List ℕ → Stated
  all_stated [] = nothing
  all_stated (r ∷ challenges) = record {
    entries = nonzero_within lo hi numbers;
    siblings = siblings_above p (map (residue p) numbers) lo hi (r ∷ challenges);
  }

  module _ (some : 0 < p) (small : p ≤ m61_modulus) (rows : All (IsRow version) (nonzero_within lo hi numbers))
      (few : length (nonzero_within lo hi numbers) ≤ most_entries) where
    reply_0_read : read_reply (sub_rules version lo hi) (in_part [])
        (honest_reply version p numbers lo hi [])
        ≡ Ok (as_whole (nonzero_within lo hi numbers)
        (honest_siblings (map (residue p) numbers) lo hi))
    reply_0_read =
        ap (read_reply (sub_rules version lo hi) (in_part [])) first_reply_is
        ∙ first_read version lo hi p small (map (residue p) numbers) (lowest_below p numbers some)
        (nonzero_within lo hi numbers) rows (nonzero_pass lo hi numbers few)

    pub honest_stated : (rs challenges : List ℕ)
        → run (sub_rules version lo hi) rs (honest_replies version p numbers lo hi challenges)
        ≡ Ok (all_stated challenges)
    unfolding all_stated
    honest_stated rs [] = run_none version lo hi 0 rs nothing
    honest_stated rs (r ∷ challenges) =
        let level = map (residue p) numbers in
        let entries = nonzero_within lo hi numbers in
        let x = honest_siblings level lo hi in
        ap (run (sub_rules version lo hi) rs) (replies_are r challenges)
        ∙ run_is version lo hi 0 rs (in_part []) (honest_reply version p numbers lo hi [])
        (replies_above version p (up p level r) (lo / 2) (hi / 2) challenges) (as_whole entries x)
        reply_0_read
        ∙ above_read version lo hi p some small entries x challenges 1 (drop 1 rs) [] (up p level r)
        (lo / 2) (hi / 2) (above_below p r level some) refl refl

    -- what they state gives the root
    honest_root : (r : ℕ) (challenges : List ℕ)
        → length numbers ≡ 2 ^ length (r ∷ challenges) → lo ≤ hi → hi < length numbers
        → gives_root p (root p numbers (r ∷ challenges)) lo hi (r ∷ challenges)
        (all_stated (r ∷ challenges)) ≡ true
    unfolding all_stated
    honest_root r challenges size order within =
        let cs = r ∷ challenges in
        let level = map (residue p) numbers in
        let long : length level ≡ 2 ^ length cs = length-map numbers (residue p) ∙ size in
        let inside : hi < length level = omega (arith, length-map numbers (residue p)) in
        let folds : folded p lo hi cs (all_stated cs) ≡ fold (up p) level cs =
        ap (λ xs. fold (next_level p) xs (zip (siblings_above p level lo hi cs) cs))
        (stated_window p lo hi numbers order within)
        ∙ windows_fold p cs level lo hi long order inside in
        ap (λ xs. pointwise nat_eq xs (root p numbers cs ∷ [])) folds ∙ top_alone p cs level long

    verdict_by : (top : ℕ) (challenges : List ℕ) (replies : List (List ℕ)) (s : Stated)
        → run (sub_rules version lo hi) challenges replies ≡ Ok s
        → gives_root p top lo hi challenges s ≡ true
        → verdict (sub_protocol (sub_asked version p top lo hi challenges)) challenges replies
        ≡ Ok (pairs s.entries)
    verdict_by top challenges replies s is test = rw (is, test) refl

    -- and they are accepted
    pub honest_verdict : (challenges : List ℕ) → 0 < length challenges
        → length numbers ≡ 2 ^ length challenges → lo ≤ hi → hi < length numbers
        → verdict (sub_protocol (sub_asked version p (root p numbers challenges) lo hi challenges))
        challenges (honest_replies version p numbers lo hi challenges)
        ≡ Ok (pairs (nonzero_within lo hi numbers))
    unfolding all_stated
    honest_verdict [] one size order within = absurd (omega arith)
    honest_verdict (r ∷ challenges) one size order within =
        verdict_by (root p numbers (r ∷ challenges)) (r ∷ challenges)
        (honest_replies version p numbers lo hi (r ∷ challenges)) (all_stated (r ∷ challenges))
        (honest_stated (r ∷ challenges) (r ∷ challenges)) (honest_root r challenges size order within)
