-- The two messages that a talk over a store begins with.
use Rattle.std.proofs.Common.{◌≡◌, ℕ, ◌+◌, Bool, true, false, List, [], ◌++◌, length, Option, Some, sym, ap, subst, ◌∙◌, append-nil, length-append}
use Rattle.std.specs.Prelude.{IsTrue}
use Rattle.sip_ports.specs.declared.port.TalkEvent.{TalkEvent}
use Rattle.sip_ports.specs.Ports.{GoesOn, ins, outs}
use Rattle.sip_ports.proofs.TalkLemmas.{GoesOn-trans, ins-append}
use Rattle.sip_vector.specs.declared.query.Query.{Query}
use Rattle.sip_vector.specs.declared.query.Query.TheVariants as queries
use Rattle.sip_wire.specs.declared.kind.Place.TheVariants as places
use Rattle.sip_wire.specs.declared.message.Message.{Message}
use Rattle.sip_wire.specs.declared.message.Message.TheVariants as messages
use Rattle.sip_wire.specs.declared.version.Version.{Version}
use Rattle.sip_wire.specs.declared.version.Version.TheVariants.{One}
use Rattle.sip_wire.specs.Spelling.{spelling}
use Rattle.sip_helper.specs.declared.status.HelpStatus.{HelpStatus}
use Rattle.sip_helper.specs.OneTurn.{StopsTurn, Taken}
use Rattle.sip_helper.specs.Rules.{EndsAs, IsMessageAt}
use Rattle.sip_helper.specs.Turns.{version_opened}
use Rattle.sip_questions.specs.declared.recalling.Recalling.{Recalling}
use Rattle.sip_questions.specs.declared.store.Asked.{Asked}
use Rattle.sip_questions.specs.Serving.{QuestionHelper, after_answer, fresh_questions, is_allowed, question_rules, step}
use Rattle.sip_questions.specs.StoreFronts.{IsOpening, opening}
use Rattle.sip_questions.specs.Stores.{StopsAtRecall, awaiting, may_recall, recall_rules, recall_step}
use Rattle.sip_questions.specs.inside.StoreTurns.{IsAsked}

-- ---- the opening

-- no query comes before it
query_out : (q : Query) → IsTrue (is_allowed fresh_questions (messages.Query q)) → ⊥
query_out (queries.Sub lo hi) may = let no = may in cc
query_out (queries.Range side lo hi) may = let no = may in cc
query_out (queries.F2 side) may = let no = may in cc
query_out queries.Inner may = let no = may in cc
query_out (queries.Heavy side at_least) may = let no = may in cc
query_out (queries.Share side num den) may = let no = may in cc
query_out (queries.Above side at_least) may = let no = may in cc

-- it is taken whole
pub record Opened (old mid : Option (List TalkEvent)) (next : QuestionHelper) (got : List ℕ) : Type 0 where
  pub number : ℕ
  pub depth : ℕ
  pub refused : Bool
  pub is : IsOpening number depth
  pub state : next ≡ step fresh_questions refused (messages.Open number depth)
  pub talk : GoesOn old mid (ins (opening number depth))
  pub whole : got ≡ opening number depth

module _ (old mid : Option (List TalkEvent)) (next : QuestionHelper) (got : List ℕ) where
  opened_by : (m : Message) (refused : Bool) → IsMessageAt places.AskedQuestion One m → IsTrue (is_allowed fresh_questions m)
      → next ≡ after_answer (step fresh_questions refused m) → next.helper.done ≡ false
      → GoesOn old mid (ins (spelling One m) ++ outs (question_rules.owed (step fresh_questions refused m))) → got ≡ spelling One m → Opened old mid next got
  opened_by (messages.Open number depth) refused is may state going talk whole = record {
    number = number;
    depth = depth;
    refused = refused;
    is = is;
    state = state;
    talk = subst (GoesOn old mid) (append-nil (ins (opening number depth))) talk;
    whole = whole;
  }
  opened_by messages.Bye refused is may state going talk whole = absurd (let no : true ≡ false = sym (ap (λ (s : QuestionHelper). s.helper.done) state) ∙ going in cc)
  opened_by (messages.Updates us) refused is may state going talk whole = absurd (let no = may in cc)
  opened_by messages.EndStream refused is may state going talk whole = absurd (let no = may in cc)
  opened_by (messages.Query q) refused is may state going talk whole = absurd (query_out q may)
  opened_by (messages.Reveal r) refused is may state going talk whole = absurd (let no = may in cc)
  opened_by (messages.Claim a) refused is may state going talk whole = absurd (let no = may in cc)
  opened_by (messages.Poly a b c) refused is may state going talk whole = absurd (let no = may in cc)
  opened_by (messages.Entries a) refused is may state going talk whole = absurd (let no = may in cc)
  opened_by (messages.Siblings a b) refused is may state going talk whole = absurd (let no = may in cc)
  opened_by (messages.Leaves a) refused is may state going talk whole = absurd (let no = may in cc)
  opened_by (messages.Nodes a) refused is may state going talk whole = absurd (let no = may in cc)
  opened_by messages.LevelEnd refused is may state going talk whole = absurd (let no = may in cc)
  opened_by (messages.Refuse a) refused is may state going talk whole = absurd (let no = may in cc)
  opened_by (messages.AskLook a b) refused is may state going talk whole = absurd (let no = may in cc)
  opened_by (messages.Found a b) refused is may state going talk whole = absurd (let no = may in cc)
  opened_by messages.End refused is may state going talk whole = absurd (let no = may in cc)
  opened_by (messages.AskMoment a b) refused is may state going talk whole = absurd (let no = may in cc)
  opened_by (messages.Power a) refused is may state going talk whole = absurd (let no = may in cc)
  opened_by (messages.Held a) refused is may state going talk whole = absurd (let no = may in cc)
  opened_by (messages.Recall a) refused is may state going talk whole = absurd (let no = may in cc)
  opened_by (messages.Marks a) refused is may state going talk whole = absurd (let no = may in cc)

  pub opens : Taken question_rules old mid fresh_questions next got → Opened old mid next got
  opens took = opened_by took.turn.message took.turn.refused took.is.message took.is.allowed took.state took.going took.talk took.whole

-- ---- how many records are to be heard

pub record Recalled (version : Version) (old mid : Option (List TalkEvent)) (next : Recalling) (got : List ℕ) : Type 0 where
  pub count : ℕ
  pub is : IsMessageAt places.AskedQuestion version (messages.Recall count)
  pub state : next.count ≡ Some count
  pub talk : GoesOn old mid (ins (spelling version (messages.Recall count)))
  pub whole : got ≡ spelling version (messages.Recall count)

module _ (version : Version) (old mid : Option (List TalkEvent)) (next : Recalling) (got : List ℕ) where
  recalled_by : (m : Message) → IsMessageAt places.AskedQuestion version m → IsTrue (may_recall (awaiting version) m) → next ≡ recall_step (awaiting version) m → next.done ≡ false
      → GoesOn old mid (ins (spelling version m) ++ []) → got ≡ spelling version m → Recalled version old mid next got
  recalled_by (messages.Recall count) is may state going talk whole = record {
    count = count;
    is = is;
    state = ap (λ (s : Recalling). s.count) state;
    talk = subst (GoesOn old mid) (append-nil (ins (spelling version (messages.Recall count)))) talk;
    whole = whole;
  }
  recalled_by messages.Bye is may state going talk whole = absurd (let no : true ≡ false = sym (ap (λ (s : Recalling). s.done) state) ∙ going in cc)
  recalled_by (messages.Open a b) is may state going talk whole = absurd (let no = may in cc)
  recalled_by (messages.Updates us) is may state going talk whole = absurd (let no = may in cc)
  recalled_by messages.EndStream is may state going talk whole = absurd (let no = may in cc)
  recalled_by (messages.Query q) is may state going talk whole = absurd (let no = may in cc)
  recalled_by (messages.Reveal r) is may state going talk whole = absurd (let no = may in cc)
  recalled_by (messages.Claim a) is may state going talk whole = absurd (let no = may in cc)
  recalled_by (messages.Poly a b c) is may state going talk whole = absurd (let no = may in cc)
  recalled_by (messages.Entries a) is may state going talk whole = absurd (let no = may in cc)
  recalled_by (messages.Siblings a b) is may state going talk whole = absurd (let no = may in cc)
  recalled_by (messages.Leaves a) is may state going talk whole = absurd (let no = may in cc)
  recalled_by (messages.Nodes a) is may state going talk whole = absurd (let no = may in cc)
  recalled_by messages.LevelEnd is may state going talk whole = absurd (let no = may in cc)
  recalled_by (messages.Refuse a) is may state going talk whole = absurd (let no = may in cc)
  recalled_by (messages.AskLook a b) is may state going talk whole = absurd (let no = may in cc)
  recalled_by (messages.Found a b) is may state going talk whole = absurd (let no = may in cc)
  recalled_by messages.End is may state going talk whole = absurd (let no = may in cc)
  recalled_by (messages.AskMoment a b) is may state going talk whole = absurd (let no = may in cc)
  recalled_by (messages.Power a) is may state going talk whole = absurd (let no = may in cc)
  recalled_by (messages.Held a) is may state going talk whole = absurd (let no = may in cc)
  recalled_by (messages.Marks a) is may state going talk whole = absurd (let no = may in cc)

  pub recalls : Taken recall_rules old mid (awaiting version) next got → Recalled version old mid next got
  recalls took = recalled_by took.turn.message took.is.message took.is.allowed took.state took.going took.talk took.whole

-- ---- both

module _ (old mid new : Option (List TalkEvent)) (next : QuestionHelper) (got : List ℕ) (opened : Opened old mid next got) where
  -- the version of what follows
  pub version_then : (version : Version) → version ≡ question_rules.version next → version ≡ version_opened opened.number
  version_then version same = same ∙ ap (λ (s : QuestionHelper). s.helper.version) opened.state

  -- it ends with the second message
  pub stops_at_recall : (version : Version) (at : ℕ) (how : HelpStatus) → version ≡ version_opened opened.number → at ≡ length got → StopsTurn recall_rules mid new (awaiting version) at how → StopsAtRecall old new how
  stops_at_recall version at how same here stops = record {
    number = opened.number;
    depth = opened.depth;
    opened = opened.is;
    rest = stops.rest;
    talk = GoesOn-trans old mid new _ _ opened.talk stops.talk;
    ends = subst (λ n. EndsAs recall_rules (awaiting (version_opened opened.number)) n stops.rest how) (here ∙ ap length opened.whole)
        (subst (λ (v : Version). EndsAs recall_rules (awaiting v) at stops.rest how) same stops.ends);
  }

  -- or it says how many records are to be heard
  pub asks : (version : Version) (other : List ℕ) (said : Recalling) (asked : Asked) → version ≡ version_opened opened.number → (recalled : Recalled version mid new said other) → said.count ≡ Some asked.count
      → asked.received ≡ length got + length other → IsAsked old new next asked
  asks version other said asked same recalled told received =
      record {
        recalls = record {
          number = opened.number;
          depth = opened.depth;
          count = recalled.count;
          opened = opened.is;
          recalled = subst (λ (v : Version). IsMessageAt places.AskedQuestion v (messages.Recall recalled.count)) same recalled.is;
        };
        refused = opened.refused;
        state = opened.state;
        count = some_same (sym told ∙ recalled.state);
        received = received
            ∙ sym (length-append got other)
            ∙ ap length (ap (λ (l : List ℕ). l ++ other) opened.whole ∙ ap (λ (l : List ℕ). opening opened.number opened.depth ++ l) (recalled.whole ∙ ap (λ (v : Version). spelling v (messages.Recall recalled.count)) same));
        talk = subst (GoesOn old new) (joined (opening opened.number opened.depth) _ ∙ ap (λ (v : Version). ins (opening opened.number opened.depth ++ spelling v (messages.Recall recalled.count))) same)
            (GoesOn-trans old mid new _ _ opened.talk recalled.talk);
      }
    where
      some_same : {a b : ℕ} → Some a ≡ Some b → a ≡ b
      some_same e = cc

      joined : (xs ys : List ℕ) → ins xs ++ ins ys ≡ ins (xs ++ ys)
      joined xs ys = sym (ins-append xs ys)
