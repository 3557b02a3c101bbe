-- Replies of strategies.
use Rattle.std.proofs.Common.{◌≡◌, ℕ, zero, suc, ◌+◌, ◌<◌, ◌≤◌, All, Bool, true, false, Option, Some, None, not, List, [], ◌∷◌, length, map, take, get_or, eqb, inl, inr, subst, refl, ap, ◌∙◌, arith}
use Rattle.std.specs.List.{range_with_len}
use Rattle.std.specs.Cmp.Lexicographic.{pointwise}
use Rattle.std.proofs.lemmas.List.{length-map}
use Rattle.std.proofs.lemmas.List.Elements.{All-head, All-tail}
use Rattle.std.proofs.lemmas.Bool.{cases_Bool, and_from, not_from_false}
use Rattle.sip_counts.specs.Strategies.{Strategy, IsOfBytes, strategy_of, replies, before, all_there, is_wrong, takes_wrong}

-- a function at numbers that are larger by one
map_range-more : {R : Type 0} (f : ℕ → R) (a n : ℕ) → map f (range_with_len (suc a) n) ≡ map (λ j. f (suc j)) (range_with_len a n)
map_range-more f a zero = refl
map_range-more f a (suc n) = let e : suc a + 1 ≡ suc (a + 1) = omega arith in ap (λ k. f (suc a) ∷ k) (rw e (map_range-more f (a + 1) n))

-- the reply to nothing revealed, and then those of what the strategy does from the first challenge
-- on
pub replies-more : {R : Type 0} (strategy : List ℕ → R) (x : ℕ) (r : List ℕ) → replies strategy (x ∷ r) ≡ strategy [] ∷ replies (λ v. strategy (x ∷ v)) r
replies-more strategy x r = ap (λ k. strategy [] ∷ k) (map_range-more (λ j. strategy (take j (x ∷ r))) 0 (length r))

pub replies-length : {R : Type 0} (strategy : List ℕ → R) (r : List ℕ) → length (replies strategy r) ≡ length r
replies-length strategy [] = refl
replies-length strategy (x ∷ r) = ap length (replies-more strategy x r) ∙ ap suc (replies-length (λ v. strategy (x ∷ v)) r)

-- the strategy that gives these one after another, whatever is revealed
pub replies-one_by_one : {R : Type 0} (all : List R) (r : List ℕ) (d : R) → length all ≡ length r → replies (λ v. get_or all (length v) d) r ≡ all
replies-one_by_one [] [] d e = refl
replies-one_by_one [] (x ∷ r) d e = absurd (omega arith)
replies-one_by_one (b ∷ all) [] d e = absurd (omega arith)
replies-one_by_one (b ∷ all) (x ∷ r) d e =
    replies-more (λ v. get_or (b ∷ all) (length v) d) x r ∙ ap (λ k. b ∷ k) (replies-one_by_one all r d (omega arith))

pub all_there-some : {X : Type 0} (xs : List X) → all_there (map Some xs) ≡ Some xs
all_there-some [] = refl
all_there-some (x ∷ xs) = ap (before x) (all_there-some xs)

pub takes_wrong-at : {R : Type 0} (accepts : List ℕ → List R → Bool) (is_right : List R → Bool) (strategy : List ℕ → Option R) (r : List ℕ) (all : List R) → replies strategy r ≡ map Some all → accepts r all ≡ true → is_right all ≡ false → takes_wrong accepts is_right strategy r ≡ true
unfolding takes_wrong
takes_wrong-at accepts is_right strategy r all e good wrong =
    ap (λ k. is_wrong (accepts r) is_right (all_there k)) e ∙ ap (is_wrong (accepts r) is_right) (all_there-some all)
    ∙ and_from (accepts r all) (not (is_right all)) good (not_from_false (is_right all) wrong)

-- what these have at an index is of bytes where all of them are
of_bytes_at : (taken : List (List ℕ)) → All (λ (reply : List ℕ). All (λ b. b < 256) reply) taken → (i : ℕ) (reply : List ℕ) → get_or (map Some taken) i None ≡ Some reply → All (λ b. b < 256) reply
of_bytes_at [] all i reply e = absurd (cc)
of_bytes_at (b ∷ taken) all zero reply e = let same : reply ≡ b = cc in rw same (All-head (λ (x : List ℕ). All (λ b. b < 256) x) b taken all)
of_bytes_at (b ∷ taken) all (suc i) reply e = of_bytes_at taken (All-tail (λ (x : List ℕ). All (λ b. b < 256) x) b taken all) i reply e

pub talk_strategy : (block : List ℕ) (taken : List (List ℕ)) → length taken ≡ length block → All (λ (reply : List ℕ). All (λ b. b < 256) reply) taken → (strategy : Strategy) × IsOfBytes strategy × (replies strategy block ≡ map Some taken)
talk_strategy block taken len all =
    (λ v. get_or (map Some taken) (length v) None, λ v reply e. of_bytes_at taken all (length v) reply e, replies-one_by_one (map Some taken) block None (length-map taken Some ∙ len))

-- the same of replies that are fewer than the challenges, as far as they go
replies-front : {R : Type 0} (all : List R) (r : List ℕ) (d : R) → length all ≤ length r
    → take (length all) (replies (λ v. get_or all (length v) d) r) ≡ all
replies-front [] r d e = refl
replies-front (b ∷ all) [] d e = absurd (omega arith)
replies-front (b ∷ all) (x ∷ r) d e =
    ap (take (suc (length all))) (replies-more (λ v. get_or (b ∷ all) (length v) d) x r)
    ∙ ap (λ k. b ∷ k) (replies-front all r d (omega arith))

pub front_strategy : (block : List ℕ) (taken : List (List ℕ)) → length taken ≤ length block
    → All (λ (reply : List ℕ). All (λ b. b < 256) reply) taken
    → (strategy : Strategy) × IsOfBytes strategy
    × (take (length taken) (replies strategy block) ≡ map Some taken)
front_strategy block taken few all = (
  λ v. get_or (map Some taken) (length v) None,
  λ v reply e. of_bytes_at taken all (length v) reply e,
  rw (length-map taken Some) at (replies-front (map Some taken) block None
      (omega (arith, length-map taken Some))),
)

-- ---- finite maps

-- what a finite map gives is one of its values
pub map_of_bytes : (entries : List (List ℕ × List ℕ)) → All (λ (e : List ℕ × List ℕ). All (λ b. b < 256) e.1) entries → IsOfBytes (strategy_of entries)
map_of_bytes [] all v reply e = absurd (cc)
map_of_bytes (x ∷ entries) all v reply e = elim (cases_Bool (pointwise eqb v x.0)) [
  | inl t ↦
      let here : Some x.1 ≡ Some reply = rw t at e in
      let same : x.1 ≡ reply = cc in
      subst (λ (r : List ℕ). All (λ b. b < 256) r) same (All-head (λ (y : List ℕ × List ℕ). All (λ b. b < 256) y.1) x entries all)
  | inr t ↦ map_of_bytes entries (All-tail (λ (y : List ℕ × List ℕ). All (λ b. b < 256) y.1) x entries all) v reply (rw t at e)
]

-- ---- replies that are all there

-- the first one, and the others
pub record There {X : Type 0} (o : Option X) (rest : List (Option X)) (all : List X) : Type 0 where
  pub head : X
  pub tail : List X
  pub is_head : o ≡ Some head
  pub is_tail : all_there rest ≡ Some tail
  pub whole : head ∷ tail ≡ all

pub same_some : {X : Type 0} (x y : X) → ◌≡◌ {A = Option X} (Some x) (Some y) → x ≡ y
same_some x y e = cc

-- where all are there, the first one and the others are
pub all_there-cons : {X : Type 0} (o : Option X) (rest : List (Option X)) (all : List X) → all_there (o ∷ rest) ≡ Some all → There o rest all
all_there-cons None rest all e = absurd (cc)
all_there-cons {X} (Some x) rest all e = by_rest (all_there rest) refl e
  where
    by_rest : (r : Option (List X)) → all_there rest ≡ r → before x r ≡ Some all → There (Some x) rest all
    by_rest None is h = absurd (cc)
    by_rest (Some xs) is h = record { head = x; tail = xs; is_head = refl; is_tail = is; whole = same_some (x ∷ xs) all h }

-- of none, none are there
pub all_there-nil : {X : Type 0} (all : List X) → all_there [] ≡ Some all → [] ≡ all
all_there-nil {X} all e = same_some {X = List X} [] all e

-- the bytes of a reply, and none where it is missing
unfoldable pub bytes_in : Option (List ℕ) → List ℕ
bytes_in None = []
bytes_in (Some bytes) = bytes
