-- How frames of nodes are read: the nodes that they state are tested, and then what follows is read.
use Rattle.std.proofs.Common.{◌≡◌, ℕ, Bool, true, false, Result, Ok, Err, List, [], ◌∷◌, ◌++◌, All, refl, sym, ap, ◌∙◌, append_assoc, append-nil}
use Rattle.std.specs.Prelude.{◌==◌, if◌then◌else◌}
use Rattle.std.specs.List.{flat_map}
use Rattle.std.proofs.lemmas.List.Concat.{flat_map-cons}
use Rattle.std.proofs.lemmas.List.Elements.{All-head, All-tail}
use Rattle.std.proofs.lemmas.Bool.{not-true}
use Rattle.sip_vector.specs.Steps.{◌>>=◌}
use Rattle.sip_wire.specs.declared.kind.Place.{Place}
use Rattle.sip_wire.specs.declared.kind.Place.TheVariants as places
use Rattle.sip_wire.specs.declared.message.Message.{Message}
use Rattle.sip_wire.specs.declared.message.Message.TheVariants as messages
use Rattle.sip_wire.specs.declared.message.Node.{Node}
use Rattle.sip_wire.specs.declared.message.Reason.{Reason}
use Rattle.sip_wire.specs.declared.version.Version.{Version}
use Rattle.sip_wire.specs.Spelling.{fits, has_room, all_hold, kind_of, spelling}
use Rattle.sip_wire.specs.Table.{allows}
use Rattle.sip_wire.proofs.ReadingLaws.{read_frame-spelling}
use Rattle.sip_replies.specs.declared.check.More.TheVariants as mores
use Rattle.sip_replies.specs.Protocols.{Rules}
use Rattle.sip_replies.specs.Replies.{at_end, read_reply, step_says}
use Rattle.sip_replies.proofs.Reading.{read_reply-step}
use Rattle.sip_heavy.specs.declared.form.LeafForm.{LeafForm}
use Rattle.sip_heavy.specs.declared.form.LeafForm.TheVariants as forms
use Rattle.sip_heavy.specs.AcceptsHeavy.{HeavyQuestion, end_test, merged, with_nodes}
use Rattle.sip_heavy.specs.Protocol.{HeavyState, end_step, ended, heavy_rules, heavy_step, leaf_place, nodes_step}
use Rattle.sip_heavy.specs.Stating.{IsFrame, nodes_of, stands_in, stated_reply}
use Rattle.sip_heavy.proofs.Taking.{with_nodes-append}

abbrev place_in : LeafForm → Bool → Place
place_in form first = if first then leaf_place form else places.Nodes

-- it may stand at its place
frame_allowed : (form : LeafForm) (first : Bool) (m : Message) → stands_in form first m ≡ true → allows (place_in form first) (kind_of m) ≡ true
frame_allowed forms.Count first (messages.Leaves v) stands = rw stands refl
frame_allowed forms.Mark first (messages.Leaves v) stands = absurd cc
frame_allowed forms.Count first (messages.Marks v) stands = absurd cc
frame_allowed forms.Mark first (messages.Marks v) stands = rw stands refl
frame_allowed form first (messages.Nodes v) stands = rw (not-true first stands) refl
frame_allowed form first messages.LevelEnd stands = absurd cc
frame_allowed form first (messages.Refuse code) stands = absurd cc
frame_allowed form first (messages.Open number depth) stands = absurd cc
frame_allowed form first (messages.Updates us) stands = absurd cc
frame_allowed form first messages.EndStream stands = absurd cc
frame_allowed form first (messages.Query asked) stands = absurd cc
frame_allowed form first (messages.Reveal r) stands = absurd cc
frame_allowed form first messages.Bye stands = absurd cc
frame_allowed form first (messages.Claim claim) stands = absurd cc
frame_allowed form first (messages.Poly a b c) stands = absurd cc
frame_allowed form first (messages.Entries v) stands = absurd cc
frame_allowed form first (messages.Siblings left right) stands = absurd cc
frame_allowed form first (messages.AskLook code item) stands = absurd cc
frame_allowed form first (messages.Found flag index) stands = absurd cc
frame_allowed form first messages.End stands = absurd cc
frame_allowed form first (messages.AskMoment side degree) stands = absurd cc
frame_allowed form first (messages.Held held) stands = absurd cc
frame_allowed form first (messages.Recall count) stands = absurd cc
frame_allowed form first (messages.Power v) stands = absurd cc

-- its step is that of its nodes
pub frame_step : (p : ℕ) (q : HeavyQuestion) (s : HeavyState) (m : Message) → stands_in q.form (s.level == 0) m ≡ true → heavy_step p q s m ≡ nodes_step q s (nodes_of p m)
frame_step p q s (messages.Leaves v) stands = rw stands refl
frame_step p q s (messages.Nodes v) stands = rw (not-true (s.level == 0) stands) refl
frame_step p q s messages.LevelEnd stands = absurd cc
frame_step p q s (messages.Refuse code) stands = absurd cc
frame_step p q s (messages.Open number depth) stands = absurd cc
frame_step p q s (messages.Updates us) stands = absurd cc
frame_step p q s messages.EndStream stands = absurd cc
frame_step p q s (messages.Query asked) stands = absurd cc
frame_step p q s (messages.Reveal r) stands = absurd cc
frame_step p q s messages.Bye stands = absurd cc
frame_step p q s (messages.Claim claim) stands = absurd cc
frame_step p q s (messages.Poly a b c) stands = absurd cc
frame_step p q s (messages.Entries v) stands = absurd cc
frame_step p q s (messages.Siblings left right) stands = absurd cc
frame_step p q s (messages.AskLook code item) stands = absurd cc
frame_step p q s (messages.Found flag index) stands = absurd cc
frame_step p q s messages.End stands = absurd cc
frame_step p q s (messages.AskMoment side degree) stands = absurd cc
frame_step p q s (messages.Held held) stands = absurd cc
frame_step p q s (messages.Recall count) stands = absurd cc
frame_step p q s (messages.Marks v) stands = rw stands refl
frame_step p q s (messages.Power v) stands = absurd cc

-- a state with these nodes received
abbrev pub with_received : HeavyState → List Node → HeavyState
with_received s xs = record s { received = xs }

module _ (version : Version) (p : ℕ) (q : HeavyQuestion) where
  abbrev R : Rules HeavyState
  R = heavy_rules version p q

  -- ---- nodes

  -- where nodes were tested, what follows is read
  abbrev then_read : HeavyState → List ℕ → Result (List Node) Reason → Result HeavyState Reason
  then_read s rest r = r >>= λ all. read_reply R (with_received s all) rest

  goes_on_is : (s : HeavyState) (rest : List ℕ) (r : Result (List Node) Reason) → step_says (read_reply R) rest (r >>= λ all. Ok (mores.Due, with_received s all)) ≡ then_read s rest r
  goes_on_is s rest (Ok all) = refl
  goes_on_is s rest (Err reason) = refl

  -- one frame
  frame_read : (s : HeavyState) (m : Message) (rest : List ℕ) → IsFrame version q.form (s.level == 0) m
      → read_reply R s (spelling version m ++ rest) ≡ then_read s rest (with_nodes q s.level s.known s.received (nodes_of p m))
  frame_read s m rest is =
      read_reply-step R s (spelling version m ++ rest) rest m (nodes_step q s (nodes_of p m))
      (read_frame-spelling version (R.place s) m rest is.0 (frame_allowed q.form (s.level == 0) m is.1) is.2) (frame_step p q s m is.1)
      ∙ goes_on_is s rest (with_nodes q s.level s.known s.received (nodes_of p m))

  -- frames one after another are as one
  pub frames_read : (s : HeavyState) (frames : List Message) (rest : List ℕ) → All (IsFrame version q.form (s.level == 0)) frames
      → read_reply R s (flat_map (spelling version) frames ++ rest) ≡ then_read s rest (with_nodes q s.level s.known s.received (flat_map (nodes_of p) frames))
  frames_read s [] rest are = refl
  frames_read s (m ∷ frames) rest are =
      let one = All-head (IsFrame version q.form (s.level == 0)) m frames are in
      let more = All-tail (IsFrame version q.form (s.level == 0)) m frames are in
      let later = flat_map (spelling version) frames ++ rest in
      ap (λ bytes. read_reply R s (bytes ++ rest)) (flat_map-cons (spelling version) m frames)
      ∙ ap (read_reply R s) (append_assoc (spelling version m) (flat_map (spelling version) frames) rest)
      ∙ frame_read s m later one
      ∙ by_first (with_nodes q s.level s.known s.received (nodes_of p m)) (λ all. frames_read (with_received s all) frames rest more)
      ∙ ap (then_read s rest) (sym (with_nodes-append q s.level s.known s.received (nodes_of p m) (flat_map (nodes_of p) frames)) ∙ ap (with_nodes q s.level s.known s.received) (sym (flat_map-cons (nodes_of p) m frames)))
    where
      by_first : (r : Result (List Node) Reason)
          → ((all : List Node) → read_reply R (with_received s all) (flat_map (spelling version) frames ++ rest) ≡ then_read (with_received s all) rest (with_nodes q s.level s.known all (flat_map (nodes_of p) frames)))
          → then_read s (flat_map (spelling version) frames ++ rest) r ≡ then_read s rest (r >>= λ all. with_nodes q s.level s.known all (flat_map (nodes_of p) frames))
      by_first (Ok all) later = later all
      by_first (Err reason) later = refl

  -- ---- the end of a level

  end_fits : fits version messages.LevelEnd ≡ true
  unfolding fits has_room all_hold
  end_fits = refl

  end_allowed : (form : LeafForm) (first : Bool) → allows (place_in form first) (kind_of messages.LevelEnd) ≡ true
  end_allowed forms.Count true = refl
  end_allowed forms.Mark true = refl
  end_allowed form false = refl

  ends_is : (s : HeavyState) (rest : List ℕ) (r : Result (Unit {0}) Reason) → step_says (read_reply R) rest (r >>= λ _. Ok (mores.Complete, ended s)) ≡ (r >>= λ _. at_end (ended s) rest)
  ends_is s rest (Ok u) = refl
  ends_is s rest (Err reason) = refl

  pub end_read : (s : HeavyState) (rest : List ℕ) → read_reply R s (spelling version messages.LevelEnd ++ rest) ≡ (end_test q s.level (merged s.known s.received) >>= λ _. at_end (ended s) rest)
  end_read s rest =
      read_reply-step R s (spelling version messages.LevelEnd ++ rest) rest messages.LevelEnd (end_step q s) (read_frame-spelling version (R.place s) messages.LevelEnd rest end_fits (end_allowed q.form (s.level == 0)) tt) refl
      ∙ ends_is s rest (end_test q s.level (merged s.known s.received))

  -- ---- one reply

  -- the tests of a level, and what it leads to
  abbrev pub level_says : HeavyState → List Node → Result HeavyState Reason
  level_says s xs =
      with_nodes q s.level s.known s.received xs
      >>= λ all. end_test q s.level (merged s.known all) >>= λ _. Ok (ended (with_received s all))

  pub reply_is : (s : HeavyState) (frames : List Message) → All (IsFrame version q.form (s.level == 0)) frames → read_reply R s (stated_reply version frames) ≡ level_says s (flat_map (nodes_of p) frames)
  reply_is s frames are =
      let bytes = spelling version messages.LevelEnd in
      frames_read s frames bytes are ∙ by_nodes (with_nodes q s.level s.known s.received (flat_map (nodes_of p) frames))
    where
      by_nodes : (r : Result (List Node) Reason) → then_read s (spelling version messages.LevelEnd) r ≡ (r >>= λ all. end_test q s.level (merged s.known all) >>= λ _. Ok (ended (with_received s all)))
      by_nodes (Ok all) = ap (read_reply R (with_received s all)) (sym (append-nil (spelling version messages.LevelEnd))) ∙ end_read (with_received s all) []
      by_nodes (Err reason) = refl
