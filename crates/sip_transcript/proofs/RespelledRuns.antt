-- The replies to one query in two versions, over the same messages: they come to the same.
use Rattle.std.proofs.Common.{◌≡◌, ℕ, ◌+◌, Option, Some, None, Result, Ok, Err, List, [], ◌∷◌, ◌++◌, length, drop, inl, inr, refl, sym, ap, subst, ◌∙◌, arith, append_assoc}
use Rattle.sip_vector.specs.Answers.{Answer}
use Rattle.sip_vector.specs.Steps.{◌>>=◌}
use Rattle.sip_wire.specs.declared.message.Message.{Message}
use Rattle.sip_wire.specs.declared.version.Version.{Version}
use Rattle.sip_replies.specs.Protocols.{Protocol, Rules}
use Rattle.sip_replies.specs.Replies.{Fault, in_round, joined, learnt, read_reply, run, run_from}
use Rattle.sip_transcript.proofs.Respelled.{AreBoth, SameEnd, bytes_end, bytes_in, in_version, one_respelled}
use Rattle.sip_transcript.proofs.SameReplies.{IsCut, fewer_closed, first_cut, none_behind, ok_or_err, rest_cut, run-nil, run_on, run_stops, same_cut}
use Rattle.sip_transcript.proofs.SameVerdicts.{Closes, IsJudged, Outcome, judged_cut, judged_found, judged_known}

-- ---- the replies to one query

-- both are followed by the same messages, each in its version
abbrev pub Followed : Version → Version → List ℕ → List ℕ → Type 0
Followed v w b a = (more : List Message) × AreBoth v w more × (b ≡ bytes_in v more) × (a ≡ bytes_in w more)

learnt-same : {S : Type 0} (R : Rules S) (w : Version) (block : List ℕ) (s : S) → learnt (in_version w R) block s ≡ learnt R block s
learnt-same R w [] s = refl
learnt-same R w (r ∷ rs) s = refl

pub ends_as : (b c a d : List ℕ) → b ≡ c → a ≡ d → SameEnd b a → SameEnd c d
ends_as b c a d e f ends = record { there = λ is. sym f ∙ ends.there (e ∙ is); back = λ is. sym e ∙ ends.back (f ∙ is) }

fault_no_ok : {X : Type 0} (x : X) (fault : Fault) (r : Result X Fault) → r ≡ Err fault → r ≡ Ok x → ⊥
fault_no_ok {X = X} x fault r e f = let both : ◌≡◌ {A = Result X Fault} (Err fault) (Ok x) = sym e ∙ f in cc

-- replies in the one version and those in the other state the same, and have the same fault
pub record IsMatched {S : Type 0} (R : Rules S) (w : Version) (j : ℕ) (block : List ℕ) (s : S) (hs rs : List (List ℕ)) (b a : List ℕ) : Type 0 where
  pub same : run_from (in_version w R) j block s rs ≡ run_from R j block s hs
  pub ends : SameEnd b a
  pub on : (t : S) → run_from R j block s hs ≡ Ok t → Followed R.version w b a

pub all_respelled : {S : Type 0} (R : Rules S) (w : Version) (n j : ℕ) (block : List ℕ) (s : S) (hs rs : List (List ℕ)) (b a : List ℕ) (ms : List Message) → AreBoth R.version w ms
    → IsCut R n j block s hs b → IsCut (in_version w R) n j block s rs a → joined hs ++ b ≡ bytes_in R.version ms → joined rs ++ a ≡ bytes_in w ms → IsMatched R w j block s hs rs b a
all_respelled R w n j block s [] [] b a ms are p q e f = record {
  same = run-nil (in_version w R) j block s ∙ sym (run-nil R j block s);
  ends = ends_as (bytes_in R.version ms) b (bytes_in w ms) a (sym e) (sym f) (bytes_end R.version w ms);
  on = λ t is. (ms, are, e, f);
}
all_respelled R w n j block s [] (r ∷ rs) b a ms are p q e f = absurd (let all = p.all s (run-nil R j block s) in let few = q.few in omega (arith, all, few))
all_respelled R w n j block s (h ∷ hs) [] b a ms are p q e f = absurd (let all = q.all s (run-nil (in_version w R) j block s) in let few = p.few in omega (arith, all, few))
all_respelled R w n j block s (h ∷ hs) (r ∷ rs) b a ms are p q e f =
    let R2 = in_version w R in
    let x = one_respelled R w ms s h (joined hs ++ b) are (first_cut R n j block s h hs b p) (sym (append_assoc h (joined hs) b) ∙ e) in
    let one = same_cut (read_reply R2 s) (fewer_closed R2 s) x.respelled x.left r (joined rs ++ a) x.is_cut (first_cut R2 n j block s r rs a q) (x.all ∙ sym f ∙ append_assoc r (joined rs) a) in
    let reads : read_reply R2 s r ≡ read_reply R s h = ap (read_reply R2 s) (sym one.0) ∙ x.same in
    elim (ok_or_err (read_reply R s h)) [
      | inl m ↦
          let next = x.on m.0 m.1 in
          let cut = subst (λ t. IsCut R2 n (j + 1) (drop 1 block) t rs a) (learnt-same R w block m.0) (rest_cut R2 n j block s r rs a q m.0 (reads ∙ m.1)) in
          let rest = all_respelled R w n (j + 1) (drop 1 block) (learnt R block m.0) hs rs b a next.0 next.1 (rest_cut R n j block s h hs b p m.0 m.1) cut next.2 (sym one.1 ∙ next.3) in record {
            same = run_on R2 n j block s r m.0 rs (reads ∙ m.1) ∙ ap (λ t. run_from R2 (j + 1) (drop 1 block) t rs) (learnt-same R w block m.0) ∙ rest.same ∙ sym (run_on R n j block s h m.0 hs m.1);
            ends = rest.ends;
            on = λ t is. rest.on t (sym (run_on R n j block s h m.0 hs m.1) ∙ is);
          }
      | inr m ↦
          let nil = none_behind R n j block s h hs b p m.0 m.1 in
          let none = none_behind R2 n j block s r rs a q m.0 (reads ∙ m.1) in
          let own = run_stops R n j block s h m.0 hs m.1 in record {
            same = run_stops R2 n j block s r m.0 rs (reads ∙ m.1) ∙ sym own;
            ends = ends_as (joined hs ++ b) b x.left a (ap (λ (l : List (List ℕ)). joined l ++ b) nil) (one.1 ∙ ap (λ (l : List (List ℕ)). joined l ++ a) none) x.ends;
            on = λ t is. absurd (fault_no_ok t (record { round = j; reason = m.0 }) (run_from R j block s (h ∷ hs)) own is);
          }
    ]

-- ---- one question

abbrev pub protocol_in : {S : Type 0} → Version → Protocol S → Protocol S
protocol_in w P = record P { rules = in_version w P.rules }

-- it came to the same, and what follows ends in both versions or in none
pub record IsAlike (v w : Version) (one other : Outcome) (b a : List ℕ) : Type 0 where
  pub same : other ≡ one
  pub ends : SameEnd b a
  pub on : (answer : Answer) → one ≡ Ok answer → Followed v w b a

ran_first : {X Y : Type 0} (r : Result X Fault) (f : X → Result Y Fault) (y : Y) → (r >>= f) ≡ Ok y → (x : X) × (r ≡ Ok x)
ran_first (Ok x) f y e = (x, refl)
ran_first (Err fault) f y e = absurd cc

pub one_alike : {S : Type 0} (P : Protocol S) (w : Version) (block : List ℕ) (ones others : List (List ℕ)) (one other : Outcome) (b a : List ℕ) (ms : List Message) (unasked : Option Answer) → P.unasked ≡ unasked
    → AreBoth P.rules.version w ms → IsJudged P block ones one → IsJudged (protocol_in w P) block others other → Closes one b → Closes other a
    → joined ones ++ b ≡ bytes_in P.rules.version ms → joined others ++ a ≡ bytes_in w ms → IsAlike P.rules.version w one other b a
one_alike P w block ones others one other b a ms None is are p q f g e d =
    let m = all_respelled P.rules w (length block) 0 block P.rules.start ones others b a ms are (judged_cut P block ones b one is p f) (judged_cut (protocol_in w P) block others a other is q g) e d in
    let found = judged_found P block ones b one is p in record {
      same = sym (judged_found (protocol_in w P) block others a other is q) ∙ ap (λ r. r >>= λ s. in_round (length block) (P.finish s)) m.same ∙ found;
      ends = m.ends;
      on = λ answer ok. let t = ran_first (run P.rules block ones) (λ s. in_round (length block) (P.finish s)) answer (found ∙ ok) in m.on t.0 t.1;
    }
one_alike P w block ones others one other b a ms (Some known) is are p q f g e d =
    let x = judged_known P block ones b one known is p in
    let y = judged_known (protocol_in w P) block others a other known is q in
    let first : b ≡ bytes_in P.rules.version ms = ap (λ (l : List (List ℕ)). joined l ++ b) x.0 ∙ e in
    let second : a ≡ bytes_in w ms = ap (λ (l : List (List ℕ)). joined l ++ a) y.0 ∙ d in record {
      same = y.1 ∙ sym x.1;
      ends = ends_as (bytes_in P.rules.version ms) b (bytes_in w ms) a (sym first) (sym second) (bytes_end P.rules.version w ms);
      on = λ answer ok. (ms, are, first, second);
    }
