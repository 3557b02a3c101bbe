-- Each talk is some joint strategy's: the one that gives its replies one after another.
use Rattle.std.proofs.Common.{◌≡◌, ℕ, zero, suc, ◌+◌, ◌-◌, ◌<◌, ◌≤◌, Option, Some, None, List, [], ◌∷◌, ◌++◌, length, map, take, get_or, replicate, All, refl, sym, ap, subst, ◌∙◌, arith, append_assoc}
use Rattle.std.proofs.Math.Seq.{take-append_seam}
use Rattle.std.proofs.lemmas.List.{get_or-append-add, length-append, length-map, length-replicate}
use Rattle.std.proofs.lemmas.List.Elements.{All-append, All-head, All-map, All-nil, All-replicate, All-tail, All-weaker}
use Rattle.sip_counts.specs.Joint.{after}
use Rattle.sip_counts.specs.Strategies.{Strategy, IsOfBytes, replies}
use Rattle.sip_counts.proofs.Talks.{replies-more}
use Rattle.sip_verifier.specs.JointClause.{RepliesSo}
use Rattle.sip_verifier.specs.Questions.{Question}
use Rattle.sip_session.specs.JointCounts.{HasRoom}

-- ---- replies, one for each key

-- the replies to a question, and none for each challenge that is left
padded : Question → List (Option (List ℕ))
padded q = map Some q.replies ++ replicate (length q.block - length q.replies) None

-- those to each question in turn
table : List Question → List (Option (List ℕ))
table [] = []
table (q ∷ questions) = padded q ++ table questions

-- a key has so many challenges as replies come before its own
by_table : List (Option (List ℕ)) → Strategy
by_table all v = get_or all (length v) None

padded-length : (q : Question) → length q.replies ≤ length q.block → length (padded q) ≡ length q.block
unfolding padded
padded-length q few =
    length-append (map Some q.replies) (replicate (length q.block - length q.replies) None)
    ∙ ap (λ n. n + length (replicate {A = Option (List ℕ)} (length q.block - length q.replies) None)) (length-map q.replies Some)
    ∙ ap (λ n. length q.replies + n) (length-replicate (length q.block - length q.replies) None) ∙ (omega arith)

-- those that were taken stand in front
taken : (q : Question) → take (length q.replies) (padded q) ≡ map Some q.replies
unfolding padded
taken q =
    ap (λ n. take n (map Some q.replies ++ replicate (length q.block - length q.replies) None)) (sym (length-map q.replies Some))
    ∙ take-append_seam (map Some q.replies) (replicate (length q.block - length q.replies) None)

-- ---- what it replies

-- functions that are the same at each key reply the same
replies-same : {R : Type 0} (f g : List ℕ → R) → ((v : List ℕ) → f v ≡ g v) → (r : List ℕ) → replies f r ≡ replies g r
replies-same f g same [] = refl
replies-same f g same (x ∷ r) =
    replies-more f x r ∙ ap (λ y. y ∷ replies (λ v. f (x ∷ v)) r) (same [])
    ∙ ap (λ ys. g [] ∷ ys) (replies-same (λ v. f (x ∷ v)) (λ v. g (x ∷ v)) (λ v. same (x ∷ v)) r) ∙ sym (replies-more g x r)

-- the elements of a list, one after another, whatever stands behind them
replies-front : {R : Type 0} (front rest : List R) (r : List ℕ) (d : R) → length front ≡ length r → replies (λ v. get_or (front ++ rest) (length v) d) r ≡ front
replies-front [] rest [] d e = refl
replies-front [] rest (x ∷ r) d e = absurd (omega arith)
replies-front (y ∷ front) rest [] d e = absurd (omega arith)
replies-front (y ∷ front) rest (x ∷ r) d e =
    replies-more (λ v. get_or ((y ∷ front) ++ rest) (length v) d) x r ∙ ap (λ ys. y ∷ ys) (replies-front front rest r d (omega arith))

-- a strategy that goes on by the table behind these challenges replies as was taken
says : (questions : List Question) (strategy : Strategy) (earlier : List ℕ) → ((v : List ℕ) → strategy (earlier ++ v) ≡ get_or (table questions) (length v) None)
    → All HasRoom questions → RepliesSo strategy earlier questions
unfolding table
says [] strategy earlier is all = tt
says (q ∷ questions) strategy earlier is all =
    let room = All-head HasRoom q questions all in
    let size : length (padded q) ≡ length q.block = padded-length q room.few in
    let here : replies (after earlier strategy) q.block ≡ padded q =
    replies-same (after earlier strategy) (λ v. get_or (padded q ++ table questions) (length v) None) is q.block
    ∙ replies-front (padded q) (table questions) q.block None size in (
      ap (take (length q.replies)) here ∙ taken q,
      says questions strategy (earlier ++ q.block) (λ v. behind v size) (All-tail HasRoom q questions all),
    )
  where
    behind : (v : List ℕ) → length (padded q) ≡ length q.block → strategy ((earlier ++ q.block) ++ v) ≡ get_or (table questions) (length v) None
    behind v size =
        ap strategy (append_assoc earlier q.block v) ∙ is (q.block ++ v)
        ∙ ap (λ n. get_or (padded q ++ table questions) n None) (length-append q.block v ∙ ap (λ n. n + length v) (sym size))
        ∙ get_or-append-add (padded q) (table questions) (length v) None

-- ---- it replies by bytes

abbrev OfBytes : Option (List ℕ) → Type 0
OfBytes o = (reply : List ℕ) → o ≡ Some reply → All (λ b. b < 256) reply

table_of_bytes : (questions : List Question) → All HasRoom questions → All OfBytes (table questions)
unfolding table padded
table_of_bytes [] all = All-nil OfBytes
table_of_bytes (q ∷ questions) all =
    let room = All-head HasRoom q questions all in
    All-append OfBytes (padded q) (table questions)
    (All-append OfBytes (map Some q.replies) (replicate (length q.block - length q.replies) None)
    (All-map OfBytes Some q.replies (All-weaker (λ (reply : List ℕ). All (λ b. b < 256) reply) (λ (reply : List ℕ). OfBytes (Some reply))
    (λ reply bytes other e. subst (λ (r : List ℕ). All (λ b. b < 256) r) (let same : reply ≡ other = cc in same) bytes) q.replies room.bytes))
    (All-replicate OfBytes (length q.block - length q.replies) None (λ reply e. absurd cc)))
    (table_of_bytes questions (All-tail HasRoom q questions all))

at : (os : List (Option (List ℕ))) → All OfBytes os → (n : ℕ) → OfBytes (get_or os n None)
at [] all n reply e = absurd cc
at (o ∷ os) all zero reply e = All-head OfBytes o os all reply e
at (o ∷ os) all (suc n) reply e = at os (All-tail OfBytes o os all) n reply e

pub joint_talk : (questions : List Question) → All HasRoom questions → (strategy : Strategy) × IsOfBytes strategy × RepliesSo strategy [] questions
unfolding by_table
joint_talk questions all = (
  by_table (table questions),
  λ v reply e. at (table questions) (table_of_bytes questions all) (length v) reply e,
  says questions (by_table (table questions)) [] (λ v. refl) all,
)
