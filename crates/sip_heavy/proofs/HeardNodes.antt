-- What a strategy of bytes has accepted, the strategy of the nodes that it states has too.
use Rattle.std.proofs.Common.{◌≡◌, ℕ, ◌+◌, Bool, true, false, Option, Some, None, Result, Ok, List, [], ◌∷◌, drop, refl, ap, sym, subst, ◌∙◌, arith}
use Rattle.std.specs.Prelude.{◌==◌, if◌then◌else◌}
use Rattle.std.proofs.lemmas.Bool.{ne_eqb}
use Rattle.sip_counts.specs.Strategies.{Strategy, replies, before, all_there}
use Rattle.sip_counts.proofs.Talks.{replies-more}
use Rattle.sip_vector.specs.Steps.{◌>>=◌}
use Rattle.sip_wire.specs.declared.message.Node.{Node}
use Rattle.sip_wire.specs.declared.message.Reason.{Reason}
use Rattle.sip_wire.specs.declared.version.Version.{Version}
use Rattle.sip_replies.specs.Protocols.{Rules}
use Rattle.sip_replies.specs.Replies.{Fault, in_round, learnt, read_reply, run_from}
use Rattle.sip_replies.proofs.Passing.{step_passed, round_passed}
use Rattle.sip_heavy.specs.declared.form.LeafForm.{LeafForm}
use Rattle.sip_heavy.specs.AcceptsHeavy.{HeavyQuestion, merged, nodes_above, with_nodes, end_test, level_nodes, known_after, leaves_of}
use Rattle.sip_heavy.specs.Protocol.{HeavyState, learns, heavy_rules}
use Rattle.sip_heavy.proofs.ClearedLevels.{taken_same}
use Rattle.sip_heavy.proofs.AcceptedLevels.{first_there}
use Rattle.sip_heavy.proofs.ReadNodes.{nodes_said, reply_read}

-- ---- the nodes of a strategy

abbrev pub nodes_if : ℕ → LeafForm → Version → Bool → Option (List ℕ) → Option (List Node)
nodes_if p form version first None = None
nodes_if p form version first (Some bytes) = Some (nodes_said p form version first bytes)

-- those of the reply for each list of challenges; `first` is whether it is reply 0
pub heard : ℕ → LeafForm → Version → Bool → Strategy → List ℕ → Option (List Node)
heard p form version first strategy [] = nodes_if p form version first (strategy [])
heard p form version first strategy (x ∷ v) = heard p form version false (λ w. strategy (x ∷ w)) v

-- a level before anything of it was received
abbrev pub at_level : ℕ → List Node → List Node → HeavyState
at_level level known leaves = record { level = level; known = known; received = []; leaves = leaves }

-- ---- replies one after another

module _ (version : Version) (p : ℕ) (q : HeavyQuestion) where
  abbrev R : Rules HeavyState
  R = heavy_rules version p q

  -- what a reply states, and where those behind it lead
  pub record RunParts (j : ℕ) (rs : List ℕ) (s : HeavyState) (bytes : List ℕ) (more : List (List ℕ)) (t : HeavyState) : Type 0 where
    pub next : HeavyState
    pub first : read_reply R s bytes ≡ Ok next
    pub rest : run_from R (j + 1) (drop 1 rs) (learnt R rs next) more ≡ Ok t

  pub run_parts : (j : ℕ) (rs : List ℕ) (s : HeavyState) (bytes : List ℕ) (more : List (List ℕ)) (t : HeavyState) → run_from R j rs s (bytes ∷ more) ≡ Ok t → RunParts j rs s bytes more t
  unfolding run_from
  run_parts j rs s bytes more t e =
      let a = step_passed {E = Fault} (in_round j (read_reply R s bytes)) (λ u. run_from R (j + 1) (drop 1 rs) (learnt R rs u) more) t e in
      record { next = a.x; first = round_passed j (read_reply R s bytes) a.x a.first; rest = a.then }

  pub run_none : (j : ℕ) (rs : List ℕ) (s t : HeavyState) → run_from R j rs s [] ≡ Ok t → s ≡ t
  unfolding run_from
  run_none j rs s t e = let same : s ≡ t = cc in same

  -- the nodes that replies state lead to the same known nodes
  pub record Heard (level : ℕ) (known leaves : List Node) (os : List (Option (List Node))) (r : List ℕ) (t : HeavyState) : Type 0 where
    pub lists : List (List Node)
    pub there : all_there os ≡ Some lists
    pub known_is : known_after p q level known r lists ≡ Ok t.known
    pub stays : (level == 0) ≡ false → t.leaves ≡ leaves
    pub first : (level == 0) ≡ true → leaves ≡ [] → t.leaves ≡ leaves_of lists

  -- a reply more in front
  one_more : (level x : ℕ) (known leaves xs all : List Node) (o : Option (List Node)) (os : List (Option (List Node))) (r : List ℕ) (t : HeavyState) → o ≡ Some xs → with_nodes q level known [] xs ≡ Ok all → end_test q level (merged known all) ≡ Ok tt
      → Heard (level + 1) (nodes_above p x (merged known all)) (if level == 0 then all else leaves) os r t → Heard level known leaves (o ∷ os) (x ∷ r) t
  unfolding known_after
  one_more level x known leaves xs all o os r t is taken ends rest =
      let later : (level + 1 == 0) ≡ false = ne_eqb (level + 1) 0 (λ e. absurd (omega (arith, e))) in
      let stayed : t.leaves ≡ (if level == 0 then all else leaves) = rest.stays later in
      let nodes : List Node = merged known all in
      let says : level_nodes q level known xs ≡ Ok nodes =
      ap (λ (w : Result (List Node) Reason). w >>= λ ys. end_test q level (merged known ys) >>= λ _. Ok (merged known ys)) taken
      ∙ ap (λ (w : Result (Unit {0}) Reason). w >>= λ _. Ok nodes) ends in
      record {
        lists = xs ∷ rest.lists;
        there = ap (λ (w : Option (List Node)). all_there (w ∷ os)) is ∙ ap (before xs) rest.there;
        known_is = ap (λ (w : Result (List Node) Reason). in_round level w >>= λ ns. known_after p q (level + 1) (nodes_above p x ns) r rest.lists) says ∙ rest.known_is;
        stays = λ above. stayed ∙ ap (λ b. if b then all else leaves) above;
        first = λ lowest none. stayed ∙ ap (λ b. if b then all else leaves) lowest ∙ sym (taken_same q level known [] xs all taken);
      }

  pub run_heard : (r : List ℕ) (j level : ℕ) (first : Bool) (known leaves : List Node) (strategy : Strategy) (all : List (List ℕ)) (t : HeavyState) → first ≡ (level == 0) → all_there (replies strategy r) ≡ Some all
      → run_from R j r (at_level level known leaves) all ≡ Ok t → Heard level known leaves (replies (heard p q.form version first strategy) r) r t
  unfolding heard known_after
  run_heard [] j level first known leaves strategy all t is there e = by_all all there e
    where
      by_all : (all : List (List ℕ)) → all_there (replies strategy []) ≡ Some all → run_from R j [] (at_level level known leaves) all ≡ Ok t → Heard level known leaves (replies (heard p q.form version first strategy) []) [] t
      by_all [] k e =
          let same = run_none j [] (at_level level known leaves) t e in
          record {
            lists = [];
            there = refl;
            known_is = ap (λ (s : HeavyState). Ok s.known) same;
            stays = λ above. sym (ap (λ (s : HeavyState). s.leaves) same);
            first = λ lowest none. sym (ap (λ (s : HeavyState). s.leaves) same) ∙ none;
          }
      by_all (b ∷ bs) k e = absurd cc
  run_heard (x ∷ r) j level first known leaves strategy all t is there e =
      let f = first_there (strategy []) (replies (λ v. strategy (x ∷ v)) r) all (ap all_there (sym (replies-more strategy x r)) ∙ there) in
      let parts = run_parts j (x ∷ r) (at_level level known leaves) f.received f.more t (ap (run_from R j (x ∷ r) (at_level level known leaves)) (sym f.same) ∙ e) in
      let reads = reply_read version p q first (at_level level known leaves) parts.next f.received is parts.first in
      let later : (level + 1 == 0) ≡ false = ne_eqb (level + 1) 0 (λ k. absurd (omega (arith, k))) in
      let others = run_heard r (j + 1) (level + 1) false (nodes_above p x (merged known reads.all)) (if level == 0 then reads.all else leaves) (λ v. strategy (x ∷ v)) f.more t (sym later) f.others
      (ap (λ (s : HeavyState). run_from R (j + 1) r (learns p s x) f.more) reads.same ∙ parts.rest) in
      subst (λ os. Heard level known leaves os (x ∷ r) t) (sym (replies-more (heard p q.form version first strategy) x r))
      (one_more level x known leaves (nodes_said p q.form version first f.received) reads.all (heard p q.form version first strategy []) (replies (heard p q.form version false (λ v. strategy (x ∷ v))) r) r t (ap (nodes_if p q.form version first) f.there) reads.taken reads.ends others)
