-- Nodes that are given to a check one after another.
use Rattle.std.proofs.Common.{◌≡◌, ℕ, Result, Ok, Err, IsErrAnd, List, [], ◌∷◌, ◌++◌, refl, sym, ap, subst, ◌∙◌, arith}
use Rattle.sip_vector.specs.Steps.{◌>>=◌}
use Rattle.sip_wire.specs.declared.message.Node.{Node}
use Rattle.sip_wire.specs.declared.message.Reason.{Reason}
use Rattle.sip_replies.specs.Replies.{Fault}
use Rattle.sip_replies.proofs.Passing.{same_ok}
use Rattle.sip_heavy.specs.AcceptsHeavy.{HeavyQuestion, with_nodes, known_after}
use Rattle.sip_heavy.specs.Checking.{Advances, Kept, GivenNodes, HasTaken, AnswersAs, Takes}
use Rattle.sip_heavy.proofs.Taking.{with_nodes-append}

-- what passed
pub passed : {X : Type 0} (r : Result X Reason) (Has : X → Type 0) → AnswersAs r Has (Ok tt) → (x : X) × ((r ≡ Ok x) × Has x)
passed (Ok x) Has answer = (x, (refl, answer.1))
passed (Err reason) Has answer = absurd cc

-- what did not
pub refused : {X : Type 0} (r : Result X Reason) (Has : X → Type 0) (reason : Reason) → AnswersAs r Has (Err reason) → r ≡ Err reason
refused (Ok x) Has reason answer = let e = answer.0 in absurd cc
refused (Err other) Has reason answer = sym (same_err other reason (sym answer))
  where
    same_err : {X : Type 0} (a b : Reason) → ◌≡◌ {A = Result (Unit {0}) Reason} (Err a) (Err b) → ◌≡◌ {A = Result X Reason} (Err b) (Err a)
    same_err a b e = let f : a ≡ b = cc in ap (λ c. Err c) (sym f)

-- after the same replies the same nodes are known
pub known_same : (p : ℕ) (q : HeavyQuestion) (root : ℕ) (challenges : List ℕ) (g h : GivenNodes) (old new : Kept) → g.ended ≡ h.ended
    → HasTaken p q root challenges g old → HasTaken p q root challenges h new → new.known ≡ old.known
known_same p q root challenges g h old new same before now =
    same_ok {E = Fault} new.known old.known (sym now.ended ∙ ap (known_after p q 0 [] challenges) (sym same) ∙ before.ended)

-- nodes that pass, and those behind them
pub Takes-both : (p : ℕ) (old mid new : Kept) (xs more : List Node) (result : Result (Unit {0}) Reason) → Takes p old xs mid (Ok tt) → mid.level ≡ old.level → Takes p mid more new result
    → Takes p old (xs ++ more) new result
Takes-both p old mid new xs more result before level here q root challenges g taken =
    let first = passed (with_nodes q old.level old.known g.received xs) (λ all. HasTaken p q root challenges (record g { received = all }) mid) (before q root challenges g taken) in
    let all = first.0 in
    let same : mid.known ≡ old.known = known_same p q root challenges g (record g { received = all }) old mid refl taken first.1.1 in
    let says : with_nodes q mid.level mid.known all more ≡ with_nodes q old.level old.known g.received (xs ++ more) =
    ap (λ j. with_nodes q j mid.known all more) level ∙ ap (λ ks. with_nodes q old.level ks all more) same
    ∙ sym (with_nodes-append q old.level old.known g.received xs more ∙ ap (λ (r : Result (List Node) Reason). r >>= λ ys. with_nodes q old.level old.known ys more) first.1.0) in
    subst (λ (r : Result (List Node) Reason). AnswersAs r (λ ys. HasTaken p q root challenges (record g { received = ys }) new) result) says
    (here q root challenges (record g { received = all }) first.1.1)

-- a node that is refused: those behind it make no difference
pub Takes-refused : (p : ℕ) (old new : Kept) (xs more : List Node) (reason : Reason) → Takes p old xs new (Err reason) → Takes p old (xs ++ more) new (Err reason)
Takes-refused p old new xs more reason here q root challenges g taken =
    let first = refused (with_nodes q old.level old.known g.received xs) (λ all. HasTaken p q root challenges (record g { received = all }) new) reason (here q root challenges g taken) in
    let says : with_nodes q old.level old.known g.received (xs ++ more) ≡ Err reason =
    with_nodes-append q old.level old.known g.received xs more ∙ ap (λ (r : Result (List Node) Reason). r >>= λ ys. with_nodes q old.level old.known ys more) first in
    subst (λ (r : Result (List Node) Reason). AnswersAs r (λ ys. HasTaken p q root challenges (record g { received = ys }) new) (Err reason)) (sym says) refl

-- a check that ends no level and reveals nothing, twice
pub Advances-again : (old mid new : Kept) → Advances old mid 0 0 → Advances mid new 0 0 → Advances old new 0 0
Advances-again old mid new before after = record {
  challenges = after.challenges ∙ before.challenges;
  level = omega (arith, after.level, before.level);
  revealed = omega (arith, after.revealed, before.revealed);
  room = after.room ∙ before.room;
}

-- ---- the nodes of a frame, one after another

-- What is made of the rest is made of all, where those before it passed.
abbrev pub IsFront : ℕ → Kept → List Node → Kept → List Node → Type 0
IsFront p old xs mid rest = (new : Kept) (result : Result (Unit {0}) Reason) → Takes p mid rest new result → Takes p old xs new result

pub front_more : (p : ℕ) (old mid next : Kept) (xs rest : List Node) (x : Node) (tail : List Node) (result : Result (Unit {0}) Reason) → rest ≡ x ∷ tail → IsFront p old xs mid rest → Takes p mid (x ∷ []) next result → result ≡ Ok tt → next.level ≡ mid.level
    → IsFront p old xs next tail
front_more p old mid next xs rest x tail result same front here is level new later_result later =
    front new later_result
    (subst (λ ys. Takes p mid ys new later_result) (sym same) (Takes-both p mid next new (x ∷ []) tail later_result (subst (λ r. Takes p mid (x ∷ []) next r) is here) level later))

pub front_refused : (p : ℕ) (old mid next : Kept) (xs rest : List Node) (x : Node) (tail : List Node) (result answer : Result (Unit {0}) Reason) (reason : Reason) → rest ≡ x ∷ tail → IsFront p old xs mid rest → Takes p mid (x ∷ []) next result → result ≡ Err reason
    → IsErrAnd answer (λ other. other ≡ reason) → Takes p old xs next answer
front_refused p old mid next xs rest x tail result (Ok done) reason same front here is at = absurd at
front_refused p old mid next xs rest x tail result (Err other) reason same front here is at =
    rw at (front next (Err reason) (subst (λ ys. Takes p mid ys next (Err reason)) (sym same) (Takes-refused p mid next (x ∷ []) tail reason (subst (λ r. Takes p mid (x ∷ []) next r) is here))))

pub front_all : (p : ℕ) (old mid : Kept) (xs rest : List Node) → rest ≡ [] → IsFront p old xs mid rest → Takes p old xs mid (Ok tt)
front_all p old mid xs rest same front =
    front mid (Ok tt) (subst (λ ys. Takes p mid ys mid (Ok tt)) (sym same) (λ q root challenges g taken. (refl, taken)))
