-- What a helper of lookups says in the turns of a talk is what an honest helper replies.
use Rattle.std.proofs.Common.{◌≡◌, ℕ, suc, ◌+◌, ◌-◌, ◌<◌, ◌≤◌, ◌^◌, Bool, true, false, ℤ, List, [], ◌∷◌, ◌++◌, length, map, take, drop, All, Option, Some, None, refl, sym, ap, subst, ◌∙◌, arith, append_assoc, append-nil, length-append, take_at, length-take-le}
use Rattle.std.specs.Prelude.{flat_map, is_some, nat_le, nat_lt, if◌then◌else◌, IsTrue, ◌||◌}
use Rattle.std.specs.List.{range_with_len}
use Rattle.std.proofs.lemmas.Bool.{and_from, lt-ltb}
use Rattle.std.proofs.lemmas.Bool.Decides.{nat_tests}
use Rattle.std.proofs.Math.Nat.{pow-le-pow_right}
use Rattle.std.proofs.lemmas.List.{take-append-drop}
use Rattle.std.proofs.lemmas.List.Elements.{All-head, All-tail, All-take}
use Rattle.std.proofs.lemmas.List.FromFn.{length-map-range_with_len}
use Rattle.sip_field.specs.Moduli.{m61_modulus}
use Rattle.sip_ports.specs.declared.port.TalkEvent.{TalkEvent}
use Rattle.sip_ports.specs.Ports.{ins, outs, written}
use Rattle.sip_ports.proofs.TalkLemmas.{written-append, written-ins, written-outs}
use Rattle.sip_replies.specs.Replies.{joined}
use Rattle.sip_replies.proofs.Saying.{reveal_fits}
use Rattle.sip_subvec.specs.Honest.{honest_replies, honest_reply}
use Rattle.sip_subvec.specs.Replies.{most_entries}
use Rattle.sip_vector.specs.declared.query.Query.TheVariants.{Sub}
use Rattle.sip_vector.specs.declared.update.Side.TheVariants.{First}
use Rattle.sip_vector.specs.declared.update.Update.{Update}
use Rattle.sip_vector.specs.Streams.{vector}
use Rattle.sip_vector.specs.Vectors.{nonzero_within}
use Rattle.sip_vector.proofs.Sides.{length-vector}
use Rattle.sip_wire.specs.declared.message.Message.TheVariants as messages
use Rattle.sip_wire.specs.declared.version.Version.{Version}
use Rattle.sip_wire.specs.declared.version.Version.TheVariants.{One, Two}
use Rattle.sip_wire.specs.Spelling.{all_hold, fits, has_room, spelling}
use Rattle.sip_wire.specs.Versions.{Speaks, deepest, number_of}
use Rattle.sip_wire.proofs.Asking.{query-fits}
use Rattle.sip_helper.specs.declared.heard.Heard.TheVariants.{Part, Whole}
use Rattle.sip_helper.specs.declared.vectors.Weights.{Weights}
use Rattle.sip_helper.specs.KindRows.{too_many}
use Rattle.sip_helper.specs.Kinds.{help_row}
use Rattle.sip_helper.specs.Rules.{AreTurnsBy, IsTurnBy, Turn, heard_by, state_after_by, turn_talk_by, turns_talk_by}
use Rattle.sip_helper.specs.Streams.{updates_heard, vectors_of}
use Rattle.sip_helper.specs.Turns as turns
use Rattle.sip_helper.specs.Turns.{HelperState, OpenQuery, version_opened, weights_after, with_updates, zero_vectors}
use Rattle.sip_helper.specs.Vectors.{Vectors}
use Rattle.sip_helper.proofs.OwedReplies.{added_again, due, from_zero, left_above, owed_honest}
use Rattle.sip_wire.specs.Table.{most_queries}
use Rattle.sip_lookup.specs.declared.lookup.Lookup.{Lookup}
use Rattle.sip_lookup.specs.declared.lookup.Lookup.TheVariants.{Index, Pred, Succ}
use Rattle.sip_lookup.specs.declared.serving.Stage.{Stage}
use Rattle.sip_lookup.specs.declared.serving.Stage.TheVariants.{Asked, Due, Found}
use Rattle.sip_lookup.specs.Frames.{ask_message, code_of, found_message}
use Rattle.sip_lookup.specs.Honest.{honesty}
use Rattle.sip_lookup.specs.Lookups.{honest_found, item_of, range_of}
use Rattle.sip_lookup.specs.Owing.{CanFollow, all_turns, behind_pieces, plain, turns_for}
use Rattle.sip_lookup.specs.Serving.{LookHelper, after_answer, look_rules, lookup_of, owed, step}
use Rattle.sip_lookup.proofs.HonestLooks.{front_joined}
use Rattle.sip_lookup.proofs.HonestPlaces.{place_proved}
use Rattle.sip_lookup.proofs.NearEntries.{range_fits}

-- ---- one turn

-- in a turn the reply that is owed is said
turn_says : (s : LookHelper) (t : Turn) (rest : List TalkEvent)
    → written (turn_talk_by look_rules s t ++ rest) ≡ owed (heard_by look_rules s t) ++ written rest
turn_says s t rest =
    let bytes : List ℕ = spelling s.helper.version t.message in
    let reply : List ℕ = owed (heard_by look_rules s t) in
    written-append (ins bytes ++ outs reply) rest
    ∙ ap (λ (l : List ℕ). l ++ written rest)
    (written-append (ins bytes) (outs reply)
    ∙ ap (λ (l : List ℕ). l ++ written (outs reply)) (written-ins bytes) ∙ written-outs reply)

-- the code and the item of a lookup name it
asked_stage : (l : Lookup)
    → (elim (lookup_of (code_of l) (item_of l)) as (λ _. Stage) [ Some k ↦ Asked k | None ↦ Due ])
    ≡ Asked l
asked_stage (Index i) = refl
asked_stage (Pred i) = refl
asked_stage (Succ i) = refl

has_code : (l : Lookup) → is_some (lookup_of (code_of l) (item_of l)) ≡ true
has_code (Index i) = refl
has_code (Pred i) = refl
has_code (Succ i) = refl

-- a frame has room for an item
pub ask_fits : (version : Version) (l : Lookup) → item_of l < 2 ^ 64
    → IsTrue (fits version (ask_message l))
unfolding fits has_room all_hold
ask_fits version (Index i) below = grind (arith, nat_tests)
ask_fits version (Pred i) below = grind (arith, nat_tests)
ask_fits version (Succ i) below = grind (arith, nat_tests)

no_deeper : (version : Version) → deepest version ≤ 48
no_deeper One = omega arith
no_deeper Two = omega arith

speaks_sub : (version : Version) (depth lo hi : ℕ) → depth ≤ deepest version
    → Speaks version depth (Sub lo hi)
speaks_sub One depth lo hi shallow = record { shallow = shallow; has_code = refl }
speaks_sub Two depth lo hi shallow = record { shallow = shallow; has_code = refl }

-- ---- the states of a helper behind a stream

module _ (version : Version) (depth : ℕ) (stream : List Update) (w : Weights) where
  abbrev numbers : List ℤ
  numbers = vector depth stream First

  abbrev vectors : Vectors
  vectors = vectors_of depth stream

  -- so many queries were asked, and one may be open
  abbrev knows : ℕ → Option OpenQuery → HelperState
  knows k o = record {
    version = version;
    heard = Whole depth;
    vectors = Some vectors;
    weights = w;
    queries = k;
    open_query = o;
    done = false;
    spent = false;
  }

  -- so many lookups were asked, and one may be under way
  abbrev at : ℕ → Option OpenQuery → ℕ → Stage → LookHelper
  at k o n stage = record { helper = knows k o; asked = n; stage = stage; done = false }

  abbrev reveals : List ℕ → List Turn
  reveals rs = map (λ r. plain (messages.Reveal r)) rs

  -- ---- the query about an interval that is not refused, and its challenges

  module _ (lo hi : ℕ) (few : (help_row (Sub lo hi)).refused_by vectors ≡ None) where
    abbrev reply : List ℕ → List ℕ
    reply before = honest_reply version m61_modulus numbers lo hi before

    -- the replies from some challenges on, one behind each of the others
    abbrev replies_from : List ℕ → List ℕ → List ℕ
    replies_from before [] = reply before
    replies_from before (r ∷ rs) = reply before ++ replies_from (before ++ r ∷ []) rs

    -- they are those that belong to the fronts of a block
    fronts_say : (block rs before more : List ℕ) → block ≡ before ++ (rs ++ more)
        → joined
        (map (λ j. reply (take j block)) (range_with_len (length before) (suc (length rs))))
        ≡ replies_from before rs
    fronts_say block [] before more is =
        append-nil (reply (take (length before) block))
        ∙ ap (λ (l : List ℕ). reply (take (length before) l)) is
        ∙ ap reply (take_at before more (length before) refl)
    fronts_say block (r ∷ rs) before more is =
        let next : length (before ++ r ∷ []) ≡ length before + 1 = length-append before (r ∷ []) in
        let later = fronts_say block rs (before ++ r ∷ []) more
        (is ∙ sym (append_assoc before (r ∷ []) (rs ++ more))) in
        ap (λ (l : List ℕ). l ++ joined
        (map (λ j. reply (take j block)) (range_with_len (length before + 1) (suc (length rs)))))
        (ap (λ (l : List ℕ). reply (take (length before) l)) is
        ∙ ap reply (take_at before (r ∷ rs ++ more) (length before) refl))
        ∙ ap (λ (n : ℕ). reply before ++ joined
        (map (λ j. reply (take j block)) (range_with_len n (suc (length rs))))) (sym next)
        ∙ ap (λ (l : List ℕ). reply before ++ l) later

    -- the query with these challenges, whose reply is owed; and once it was given
    abbrev owing : ℕ → ℕ → List ℕ → LookHelper
    owing k n before = at k (Some (due (Sub lo hi) before)) n Found

    abbrev gave : List ℕ → OpenQuery
    gave before = record { query = Sub lo hi; revealed = before; given = true; refused = false }

    owing_says : (k n : ℕ) (before : List ℕ) → owed (owing k n before) ≡ reply before
    owing_says k n before =
        owed_honest (knows k (Some (due (Sub lo hi) before))) vectors
        (Sub lo hi) before refl refl few

    -- by what is open then
    abbrev with_open : ℕ → ℕ → Option OpenQuery → LookHelper
    with_open k n o = at k o n (if is_some o then Found else Due)

    by_test : (k n : ℕ) (before : List ℕ) (last : Bool) → nat_le depth (length before + 1) ≡ last
        → after_answer (owing k n before)
        ≡ with_open k n (if last then None else Some (gave before))
    by_test k n before last is =
        ap (λ (o : Option ℕ). with_open k n
        (if is_some o || nat_le depth (length before + 1) then None else Some (gave before))) few
        ∙ ap (λ (b : Bool). with_open k n (if b then None else Some (gave before))) is

    goes_on : (k n : ℕ) (before : List ℕ) → length before + 1 < depth
        → after_answer (owing k n before) ≡ at k (Some (gave before)) n Found
    goes_on k n before more = by_test k n before false (left_above (length before + 1) depth more)

    ends : (k n : ℕ) (before : List ℕ) → length before + 1 ≡ depth
        → after_answer (owing k n before) ≡ at k None n Due
    ends k n before last =
        by_test k n before true (let all : nat_le depth (length before + 1) ≡ true =
        grind (arith, nat_tests) in all)

    -- what is said while challenges are revealed
    reveals_say : (rs before : List ℕ) (k n : ℕ) → length before + length rs + 1 ≡ depth
        → reply before
        ++ written (turns_talk_by look_rules (after_answer (owing k n before)) (reveals rs))
        ≡ replies_from before rs
    reveals_say [] before k n size = append-nil (reply before)
    reveals_say (r ∷ rs) before k n size =
        let next = before ++ r ∷ [] in
        let count = length-append before (r ∷ []) in
        let here = goes_on k n before (omega (arith, size)) in
        ap (λ (s : LookHelper). reply before ++ written
        (turns_talk_by look_rules s (reveals (r ∷ rs)))) here
        ∙ ap (λ (l : List ℕ). reply before ++ l)
        (turn_says (at k (Some (gave before)) n Found) (plain (messages.Reveal r))
        (turns_talk_by look_rules (after_answer (owing k n next)) (reveals rs))
        ∙ ap (λ (l : List ℕ). l ++ written
        (turns_talk_by look_rules (after_answer (owing k n next)) (reveals rs)))
        (owing_says k n next)
        ∙ reveals_say rs next k n (omega (arith, size, count)))

    -- and the query is closed behind them
    reveals_close : (rs before : List ℕ) (k n : ℕ) → length before + length rs + 1 ≡ depth
        → state_after_by look_rules (after_answer (owing k n before)) (reveals rs) ≡ at k None n Due
    reveals_close [] before k n size = ends k n before (omega (arith, size))
    reveals_close (r ∷ rs) before k n size =
        ap (λ (s : LookHelper). state_after_by look_rules s (reveals (r ∷ rs)))
        (goes_on k n before (omega (arith, size)))
        ∙ reveals_close rs (before ++ r ∷ []) k n
        (omega (arith, size, length-append before (r ∷ [])))

    -- each may come
    reveals_come : (rs before : List ℕ) (k n : ℕ) → length before + length rs + 1 ≡ depth
        → All (λ r. r < m61_modulus) rs
        → AreTurnsBy look_rules (after_answer (owing k n before)) (reveals rs)
    reveals_come [] before k n size below = tt
    reveals_come (r ∷ rs) before k n size below =
        let turn : IsTurnBy look_rules (at k (Some (gave before)) n Found)
        (plain (messages.Reveal r)) = record {
          message = record {
            has_spelling = reveal_fits version r
                (All-head (λ c. c < m61_modulus) r rs below);
            to_helper = refl;
            in_range = tt;
          };
          allowed = lt-ltb (length before + 1) depth (omega (arith, size));
        } in
        let rest = reveals_come rs (before ++ r ∷ []) k n
        (omega (arith, size, length-append before (r ∷ [])))
        (All-tail (λ c. c < m61_modulus) r rs below) in
        subst (λ (s : LookHelper). AreTurnsBy look_rules s (reveals (r ∷ rs)))
        (sym (goes_on k n before (omega (arith, size)))) (turn, rest)

  -- ---- one lookup

  module _ (some : 1 ≤ depth) (shallow : depth ≤ deepest version) (ask : Lookup × List ℕ)
      (can : CanFollow depth ask) where
    abbrev place : Option ℕ
    place = honest_found numbers ask.0

    abbrev low : ℕ
    low = (range_of depth ask.0 place).0

    abbrev high : ℕ
    high = (range_of depth ask.0 place).1

    abbrev shown : List ℕ
    shown = take (depth - 1) ask.1

    few_shown : (help_row (Sub low high)).refused_by vectors ≡ None
    few_shown =
        let few = (place_proved depth numbers ask.0 (length-vector depth stream First)
        can.item).few in
        let short : nat_lt most_entries (length (nonzero_within low high numbers)) ≡ false =
        grind (arith, nat_tests) in
        ap (λ (b : Bool). if b then Some too_many else None) short

    shown_size : length shown + 1 ≡ depth
    shown_size = omega (arith, length-take-le (depth - 1) ask.1 (omega (arith, can.whole)), some)

    size : length {A = ℕ} [] + length shown + 1 ≡ depth
    size = let none : length {A = ℕ} [] ≡ 0 = refl in omega (arith, none, shown_size)

    -- the honest bytes of the lookup
    bytes_are : honesty.honest_bytes version depth stream ask
        ≡ spelling version (found_message place) ++ replies_from low high few_shown [] shown
    bytes_are =
        let block = ask.1 in
        let count : length block ≡ suc (length shown) = omega (arith, can.whole, shown_size) in
        let all = ap (λ (n : ℕ). joined
        (map (λ j. honest_reply version m61_modulus numbers low high (take j block))
        (range_with_len 0 n))) count
        ∙ fronts_say low high few_shown block shown [] (drop (depth - 1) block)
        (sym (take-append-drop (depth - 1) block)) in
        front_joined version place (honest_replies version m61_modulus numbers low high block)
        (let many = block_count block in omega (arith, many, can.whole, some))
        ∙ ap (λ (l : List ℕ). spelling version (found_message place) ++ l) all
      where
        block_count : (block : List ℕ)
            → length (honest_replies version m61_modulus numbers low high block) ≡ length block
        block_count block =
            length-map-range_with_len
            (λ j. honest_reply version m61_modulus numbers low high (take j block)) 0 (length block)

    module _ (n : ℕ) where
      -- behind the Ask, whose Found is owed; behind the query, whose first reply is
      abbrev asked : LookHelper
      asked = at n None (n + 1) (Asked ask.0)

      abbrev behind_query : LookHelper
      behind_query = owing low high few_shown (n + 1) (n + 1) []

      hears_ask : step (at n None n Due) false (ask_message ask.0) ≡ asked
      hears_ask = ap (λ (stage : Stage). at n None (n + 1) stage) (asked_stage ask.0)

      look_says : (rest : List TalkEvent)
          → written
          (turns_talk_by look_rules (at n None n Due) (turns_for depth numbers ask) ++ rest)
          ≡ honesty.honest_bytes version depth stream ask ++ written rest
      look_says rest =
          let tail = turns_talk_by look_rules (after_answer behind_query) (reveals shown) in
          let query = plain (messages.Query (Sub low high)) in
          let more = turn_talk_by look_rules (at n None (n + 1) Found) query ++ tail in
          let found = spelling version (found_message place) in
          let whole : written (turns_talk_by look_rules (at n None n Due)
          (turns_for depth numbers ask)) ≡ found ++ replies_from low high few_shown [] shown =
          turn_says (at n None n Due) (plain (ask_message ask.0))
          (turns_talk_by look_rules
          (after_answer (step (at n None n Due) false (ask_message ask.0))) (query ∷ reveals shown))
          ∙ ap (λ (s : LookHelper). owed s ++ written
          (turns_talk_by look_rules (after_answer s) (query ∷ reveals shown))) hears_ask
          ∙ ap (λ (l : List ℕ). l ++ written more) (append-nil found)
          ∙ ap (λ (l : List ℕ). found ++ l)
          (turn_says (at n None (n + 1) Found) query tail
          ∙ ap (λ (l : List ℕ). l ++ written tail)
          (owing_says low high few_shown (n + 1) (n + 1) [])
          ∙ reveals_say low high few_shown shown [] (n + 1) (n + 1) size) in
          written-append (turns_talk_by look_rules (at n None n Due) (turns_for depth numbers ask))
          rest
          ∙ ap (λ (l : List ℕ). l ++ written rest) (whole ∙ sym bytes_are)

      look_closes : state_after_by look_rules (at n None n Due)
          (turns_for depth numbers ask) ≡ at (n + 1) None (n + 1) Due
      look_closes =
          ap (λ (s : LookHelper). state_after_by look_rules (after_answer s)
          (plain (messages.Query (Sub low high)) ∷ reveals shown)) hears_ask
          ∙ reveals_close low high few_shown shown [] (n + 1) (n + 1) size

      look_comes : n < most_queries → AreTurnsBy look_rules (at n None n Due)
          (turns_for depth numbers ask)
      look_comes room =
          let proved = place_proved depth numbers ask.0 (length-vector depth stream First)
          can.item in
          let interval = range_fits depth ask.0 place can.item proved.possible in
          let deep = no_deeper version in
          let below : depth ≤ 48 = omega (arith, shallow, deep) in
          let powers : 2 ^ depth ≤ 2 ^ 48 = pow-le-pow_right {n = 2} (omega arith) below in
          let first : IsTurnBy look_rules (at n None n Due) (plain (ask_message ask.0)) = record {
            message = record {
              has_spelling = ask_fits version ask.0
                  (omega (arith, can.item, powers));
              to_helper = refl;
              in_range = tt;
            };
            allowed = and_from _ _ (and_from _ _ (lt-ltb n most_queries room)
                (lt-ltb (item_of ask.0) (2 ^ depth) can.item)) (has_code ask.0);
          } in
          let second : IsTurnBy look_rules (at n None (n + 1) Found)
          (plain (messages.Query (Sub low high))) = record {
            message = record {
              has_spelling = query-fits version depth (Sub low high)
                  (speaks_sub version depth low high shallow) interval;
              to_helper = refl;
              in_range =
                  tt;
            };
            allowed = and_from _ _ (and_from _ _ (and_from _ _ refl (lt-ltb n most_queries room))
                refl) (lt-ltb high (2 ^ depth) interval.1);
          } in
          let rest = reveals_come low high few_shown shown [] (n + 1) (n + 1) size
          (All-take (λ c. c < m61_modulus) (depth - 1) ask.1 can.elements) in (
            first,
            subst (λ (s : LookHelper). AreTurnsBy look_rules (after_answer s)
                (plain (messages.Query (Sub low high)) ∷ reveals shown)) (sym hears_ask)
                (second, rest),
          )

  -- ---- all lookups

  -- turns behind turns
  talk-append : (s : LookHelper) (ts us : List Turn)
      → turns_talk_by look_rules s (ts ++ us) ≡ turns_talk_by look_rules s ts
      ++ turns_talk_by look_rules (state_after_by look_rules s ts) us
  talk-append s [] us = refl
  talk-append s (t ∷ ts) us =
      let next = after_answer (heard_by look_rules s t) in
      ap (λ (l : List TalkEvent). turn_talk_by look_rules s t ++ l) (talk-append next ts us)
      ∙ sym (append_assoc (turn_talk_by look_rules s t) (turns_talk_by look_rules next ts)
      (turns_talk_by look_rules (state_after_by look_rules next ts) us))

  come-append : (s : LookHelper) (ts us : List Turn) → AreTurnsBy look_rules s ts
      → AreTurnsBy look_rules (state_after_by look_rules s ts) us
      → AreTurnsBy look_rules s (ts ++ us)
  come-append s [] us one other = other
  come-append s (t ∷ ts) us one other =
      (one.0, come-append (after_answer (heard_by look_rules s t)) ts us one.1 other)

  module _ (some : 1 ≤ depth) (shallow : depth ≤ deepest version) where
    looks_say : (asks : List (Lookup × List ℕ)) (n : ℕ) → All (CanFollow depth) asks
        → written (turns_talk_by look_rules (at n None n Due) (all_turns depth numbers asks))
        ≡ flat_map (honesty.honest_bytes version depth stream) asks
    looks_say [] n can = refl
    looks_say (ask ∷ asks) n can =
        let own = All-head (CanFollow depth) ask asks can in
        let ts = turns_for depth numbers ask in
        let us = all_turns depth numbers asks in
        ap written (talk-append (at n None n Due) ts us)
        ∙ look_says some shallow ask own n
        (turns_talk_by look_rules (state_after_by look_rules (at n None n Due) ts) us)
        ∙ ap (λ (s : LookHelper). honesty.honest_bytes version depth stream ask ++ written
        (turns_talk_by look_rules s us)) (look_closes some shallow ask own n)
        ∙ ap (λ (l : List ℕ). honesty.honest_bytes version depth stream ask ++ l)
        (looks_say asks (n + 1) (All-tail (CanFollow depth) ask asks can))

    looks_come : (asks : List (Lookup × List ℕ)) (n : ℕ) → n + length asks ≤ most_queries
        → All (CanFollow depth) asks → AreTurnsBy look_rules (at n None n Due)
        (all_turns depth numbers asks)
    looks_come [] n room can = tt
    looks_come (ask ∷ asks) n room can =
        let own = All-head (CanFollow depth) ask asks can in
        come-append (at n None n Due) (turns_for depth numbers ask) (all_turns depth numbers asks)
        (look_comes some shallow ask own n (omega (arith, room)))
        (subst (λ (s : LookHelper). AreTurnsBy look_rules s (all_turns depth numbers asks))
        (sym (look_closes some shallow ask own n))
        (looks_come asks (n + 1) (omega (arith, room)) (All-tail (CanFollow depth) ask asks can)))

-- ---- behind a stream in pieces

-- a helper that hears a stream of this depth in this version
abbrev hearing : Version → ℕ → Weights → Vectors → HelperState
hearing version depth w v = record {
  version = version;
  heard = Part depth;
  vectors = Some v;
  weights = w;
  queries = 0;
  open_query = None;
  done = false;
  spent = false;
}

-- updates change the weights and the vectors alone
heard_more : (version : Version) (depth : ℕ) (w : Weights) (v : Vectors)
    (pieces : List (List Update))
    → (x : Weights)
    × (updates_heard (hearing version depth w v) pieces ≡ hearing version depth x
    (with_updates v (flat_map (λ us. us) pieces)))
heard_more version depth w v [] = (w, refl)
heard_more version depth w v (us ∷ pieces) =
    let more = heard_more version depth (weights_after w us) (with_updates v us) pieces in (
      more.0,
      more.1 ∙ ap (hearing version depth more.0)
          (added_again v us (flat_map (λ x. x) pieces)),
    )

-- the version of an opening
opened_in : (version : Version) → version_opened (number_of version) ≡ version
opened_in One = refl
opened_in Two = refl

behind_is : (version : Version) (depth : ℕ) (pieces : List (List Update))
    → (w : Weights)
    × (behind_pieces (number_of version) depth pieces ≡ at version depth
    (flat_map (λ us. us) pieces) w 0 None 0 Due)
behind_is version depth pieces =
    let stream = flat_map (λ (us : List Update). us) pieces in
    let more = heard_more (version_opened (number_of version)) depth turns.no_weight
    (zero_vectors depth) pieces in
    let over : HelperState → LookHelper = λ h.
    record {
      helper = turns.step h false messages.EndStream;
      asked = 0;
      stage = Due;
      done =
          false;
    } in (
      more.0,
      ap over more.1
          ∙ ap (λ (v : Vectors). over (hearing (version_opened (number_of version)) depth more.0 v))
          (from_zero depth stream)
          ∙ ap (λ (u : Version). over (hearing u depth more.0 (vectors_of depth stream)))
          (opened_in version),
    )

module _ (version : Version) (depth : ℕ) (pieces : List (List Update))
    (asks : List (Lookup × List ℕ)) (some : 1 ≤ depth) (shallow : depth ≤ deepest version)
    (can : All (CanFollow depth) asks) where
  abbrev all : List Update
  all = flat_map (λ us. us) pieces

  pub bytes_owed : written
      (turns_talk_by look_rules (behind_pieces (number_of version) depth pieces)
      (all_turns depth (vector depth all First) asks)) ≡ flat_map
      (honesty.honest_bytes version depth all) asks
  bytes_owed =
      let is = behind_is version depth pieces in
      ap (λ (s : LookHelper). written
      (turns_talk_by look_rules s (all_turns depth (vector depth all First) asks))) is.1
      ∙ looks_say version depth all is.0 some shallow asks 0 can

  pub turns_come : length asks ≤ most_queries
      → AreTurnsBy look_rules (behind_pieces (number_of version) depth pieces)
      (all_turns depth (vector depth all First) asks)
  turns_come room =
      let is = behind_is version depth pieces in
      subst (λ (s : LookHelper). AreTurnsBy look_rules s
      (all_turns depth (vector depth all First) asks)) (sym is.1)
      (looks_come version depth all is.0 some shallow asks 0 (omega (arith, room)) can)
