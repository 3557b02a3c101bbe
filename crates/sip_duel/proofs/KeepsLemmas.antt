-- The promise is kept by what is sent.
use Rattle.std.proofs.Common.{◌≡◌, ◌≢◌, ◌⊎◌, ℕ, Bool, true, false, IsTrue, List, [], ◌∷◌, ◌++◌, length, take, drop, Result, Ok, Err, Option, Some, None, inl, inr, refl, sym, ap, ◌∙◌, subst, append_assoc, append-nil, arith, ◌<◌, ◌≤◌, length-take}
use Rattle.std.specs.Prelude.{All, IfOk, MatchResult}
use Rattle.std.proofs.lemmas.Grind.{common_steps}
use Rattle.std.proofs.lemmas.List.Elements.{All-append, All-cons, All-nil}
use Rattle.sip_ports.specs.declared.port.TalkEvent.{TalkEvent}
use Rattle.sip_ports.specs.declared.port.TalkEvent.TheVariants.{Out, In, Ended}
use Rattle.sip_ports.specs.Ports.{heard, written, outs, ins}
use Rattle.sip_ports.specs.Memory.{sink_bytes}
use Rattle.sip_ports.proofs.TalkLemmas.{heard-append, written-append, written-outs, heard-outs, written-ins, heard-ins}
use Rattle.sip_wire.specs.declared.frame.Taken.{Taken}
use Rattle.sip_wire.specs.declared.frame.Taken.TheVariants as taken
use Rattle.sip_wire.specs.declared.message.Message.{Message}
use Rattle.sip_wire.specs.declared.message.Message.TheVariants as messages
use Rattle.sip_wire.specs.declared.version.Version.{Version}
use Rattle.sip_wire.specs.declared.kind.Place.TheVariants.{ToHelper}
use Rattle.sip_wire.specs.Decoding.{Took}
use Rattle.sip_wire.specs.declared.version.Version.TheVariants.{Two}
use Rattle.sip_wire.specs.declared.message.WireFault.{WireFault}
use Rattle.sip_wire.specs.Spelling.{fits, spelling}
use Rattle.sip_wire.specs.Taking.{IsNoFrame}
use Rattle.sip_wire.proofs.Wider.{fits_two}
use Rattle.sip_helper.specs.Serving.{IsMessage}
use Rattle.sip_helper.specs.Turns.{HelperState, fresh, is_allowed, step, owed}
use Rattle.sip_duel.specs.declared.kept.Kept.{Kept}
use Rattle.sip_duel.specs.declared.kept.Mood.{Mood}
use Rattle.sip_duel.specs.declared.kept.Mood.TheVariants as moods
use Rattle.sip_duel.specs.declared.helper.More.{More}
use Rattle.sip_duel.specs.declared.helper.More.TheVariants as mores
use Rattle.sip_duel.specs.Helping.{Hears, HearsBy, IsGoing, IsOwed, Appends}
use Rattle.sip_duel.specs.Story.{Step, Heard, Answered, state_after, said, frames, Follows, left, sent_part, IsLive, IsShort, IsStray, IsOver, WasRight, BeginsWithEnd, Keeps, KeepsEnded, KeepsBy, HasAsked, IsHonestTalk}
use Rattle.sip_duel.specs.Taking.{Takes, version_after}

pub outs_are_no_end : (bytes : List ℕ) → All (λ (e : TalkEvent). e ≢ Ended) (outs bytes)
outs_are_no_end [] = All-nil (λ (e : TalkEvent). e ≢ Ended)
outs_are_no_end (b ∷ bytes) = All-cons (λ (e : TalkEvent). e ≢ Ended) (Out b) (outs bytes) (λ e. cc) (outs_are_no_end bytes)

pub ins_are_no_end : (bytes : List ℕ) → All (λ (e : TalkEvent). e ≢ Ended) (ins bytes)
ins_are_no_end [] = All-nil (λ (e : TalkEvent). e ≢ Ended)
ins_are_no_end (b ∷ bytes) = All-cons (λ (e : TalkEvent). e ≢ Ended) (In b) (ins bytes) (λ e. cc) (ins_are_no_end bytes)

-- bytes were sent
follows_sent : (steps : List Step) (part give bytes : List ℕ) (talk : List TalkEvent) → Follows steps part give talk → Follows steps (part ++ bytes) give (talk ++ outs bytes)
follows_sent steps part give bytes talk f = record {
  are = f.are;
  sent = written-append talk (outs bytes) ∙ ap (λ l. written talk ++ l) (written-outs bytes) ∙ ap (λ l. l ++ bytes) f.sent ∙ append_assoc (frames steps) part bytes;
  came = ap (λ l. l ++ give) (heard-append talk (outs bytes) ∙ ap (λ l. heard talk ++ l) (heard-outs bytes) ∙ append-nil (heard talk)) ∙ f.came;
  lasts = All-append (λ (e : TalkEvent). e ≢ Ended) talk (outs bytes) f.lasts (outs_are_no_end bytes);
}

-- the part was a whole frame, and its message was heard
follows_heard : (steps : List Step) (m : Message) (refused : Bool) (give : List ℕ) (talk : List TalkEvent) → Follows steps (spelling (state_after steps).version m) give talk → IsMessage (state_after steps).version m → IsTrue (is_allowed (state_after steps) m)
    → Follows (Heard m refused ∷ steps) [] give talk
follows_heard steps m refused give talk f is may = record {
  are = (is, may, f.are);
  sent = f.sent ∙ sym (append-nil (frames steps ++ spelling (state_after steps).version m));
  came = f.came;
  lasts = f.lasts;
}

-- the reply that was owed was appended
follows_answered : (steps : List Step) (part : List ℕ) (talk : List TalkEvent) → Follows steps part [] talk → Follows (Answered ∷ steps) part (owed (state_after steps)) talk
follows_answered steps part talk f = record {
  are = f.are;
  sent = f.sent;
  came = ap (λ l. l ++ owed (state_after steps)) (sym (append-nil (heard talk)) ∙ f.came);
  lasts = f.lasts;
}

stray_goes_on : (k l : List TalkEvent) (events : List TalkEvent) → l ≡ k ++ events → IsStray k → IsStray l
stray_goes_on k l events talk p = record {
  steps = p.steps;
  bytes = p.bytes;
  give = p.give;
  now = p.now;
  later = p.later ++ events;
  follows = p.follows;
  why = p.why;
  split = talk ∙ ap (λ t. t ++ events) p.split ∙ append_assoc p.now p.later events;
}

-- bytes were given
follows_given : (steps : List Step) (part bytes give : List ℕ) (talk : List TalkEvent) → Follows steps part (bytes ++ give) talk → Follows steps part give (talk ++ ins bytes)
follows_given steps part bytes give talk f = record {
  are = f.are;
  sent = written-append talk (ins bytes) ∙ ap (λ l. written talk ++ l) (written-ins bytes) ∙ append-nil (written talk) ∙ f.sent;
  came = ap (λ l. l ++ give) (heard-append talk (ins bytes) ∙ ap (λ l. heard talk ++ l) (heard-ins bytes)) ∙ append_assoc (heard talk) bytes give ∙ f.came;
  lasts = All-append (λ (e : TalkEvent). e ≢ Ended) talk (ins bytes) f.lasts (ins_are_no_end bytes);
}

begins_still : (later more : List TalkEvent) → BeginsWithEnd later → BeginsWithEnd (later ++ more)
begins_still later more h = (h.0 ++ more, ap (λ l. l ++ more) h.1)

not_over : (k : Kept) → k.mood ≡ moods.Open → IsOver k → ⊥
not_over k opened p = subst (λ x. WasRight x (state_after p.steps) p.give (left k) p.later) opened p.right

-- ---- the promise

-- a live link, by its parts
live_again : (new : Option HelperState) (l : Kept) (steps : List Step) (part give : List ℕ) (talk : List TalkEvent) → Follows steps part give talk → new ≡ Some (state_after steps)
    → l.talk.items ≡ talk → sent_part l ≡ part → left l ≡ give → l.mood ≡ moods.Open → l.version ≡ (state_after steps).version → Keeps new l
live_again new l steps part give talk f told talk_is part_is give_is opened version = inl (record {
  steps = steps;
  follows = subst (λ t. Follows steps (sent_part l) (left l) t) (sym talk_is) (subst (λ g. Follows steps (sent_part l) g talk) (sym give_is) (subst (λ p. Follows steps p give talk) (sym part_is) f));
  told = told;
  opened = opened;
  version = version;
})

over_sent : (a b : Mood) (s : HelperState) (give rest more : List ℕ) (later : List TalkEvent) (bytes : List ℕ) → a ≡ b → more ≡ rest → WasRight b s give rest later → WasRight a s give more (later ++ outs bytes)
over_sent moods.Open b s give rest more later bytes e same right = absurd (subst (λ x. WasRight x s give rest later) (sym e) right)
over_sent moods.Over b s give rest more later bytes e same right =
    let r : WasRight moods.Over s give rest later = subst (λ x. WasRight x s give rest later) (sym e) right in (r.0, r.1, same ∙ r.2, begins_still later (outs bytes) r.3)
over_sent moods.Failed b s give rest more later bytes e same right =
    All-append (λ (x : TalkEvent). x ≢ Ended) later (outs bytes) (subst (λ x. WasRight x s give rest later) (sym e) right) (outs_are_no_end bytes)

over_goes_on : (k l : Kept) (bytes : List ℕ) → l.talk.items ≡ k.talk.items ++ outs bytes → l.out ≡ k.out → l.at ≡ k.at → l.mood ≡ k.mood → IsOver k → IsOver l
over_goes_on k l bytes talk out at mood p = record {
  steps = p.steps;
  part = p.part;
  give = p.give;
  now = p.now;
  later = p.later ++ outs bytes;
  follows = p.follows;
  short = p.short;
  silent = heard-append p.later (outs bytes) ∙ ap (λ l. heard p.later ++ l) (heard-outs bytes) ∙ append-nil (heard p.later) ∙ p.silent;
  right = over_sent l.mood k.mood (state_after p.steps) p.give (left k) (left l) p.later bytes mood (rw (out, at) refl) p.right;
  split = talk ∙ ap (λ t. t ++ outs bytes) p.split ∙ append_assoc p.now p.later (outs bytes);
}

-- bytes were sent that no one hears
pub keeps_past : (s : Option HelperState) (k l : Kept) (bytes : List ℕ) → k.mood ≢ moods.Open → l.talk.items ≡ k.talk.items ++ outs bytes
    → l.out ≡ k.out → l.at ≡ k.at → l.mood ≡ k.mood → Keeps s k → Keeps s l
keeps_past s k l bytes shut talk out at mood (inl live) = absurd (shut live.opened)
keeps_past s k l bytes shut talk out at mood (inr (inl stray)) = inr (inl (stray_goes_on k.talk.items l.talk.items (outs bytes) talk stray))
keeps_past s k l bytes shut talk out at mood (inr (inr p)) = inr (inr (over_goes_on k l bytes talk out at mood p))

-- a part of a frame was sent
pub keeps_sent : (s : Option HelperState) (k l : Kept) (bytes : List ℕ) → l.talk.items ≡ k.talk.items ++ outs bytes → sent_part l ≡ (sent_part k) ++ bytes
    → l.version ≡ k.version → l.out ≡ k.out → l.at ≡ k.at → l.mood ≡ k.mood → Keeps s k → Keeps s l
keeps_sent s k l bytes talk part version out at mood (inl live) =
    live_again s l live.steps (sent_part k ++ bytes) (left k) (k.talk.items ++ outs bytes) (follows_sent live.steps (sent_part k) (left k) bytes k.talk.items live.follows) live.told talk part (rw (out, at) refl) (mood ∙ live.opened) (version ∙ live.version)
keeps_sent s k l bytes talk part version out at mood (inr (inl stray)) = inr (inl (stray_goes_on k.talk.items l.talk.items (outs bytes) talk stray))
keeps_sent s k l bytes talk part version out at mood (inr (inr p)) = inr (inr (over_goes_on k l bytes talk out at mood p))

-- nothing happened that is seen
pub keeps_same : (s : Option HelperState) (k l : Kept) → l.talk.items ≡ k.talk.items → sent_part l ≡ (sent_part k)
    → l.version ≡ k.version → l.out ≡ k.out → l.at ≡ k.at → l.mood ≡ k.mood → Keeps s k → Keeps s l
keeps_same s k l talk part version out at mood p = keeps_sent s k l [] (talk ∙ sym (append-nil k.talk.items)) (part ∙ sym (append-nil (sent_part k))) version out at mood p

-- the version of the frames behind a message, as the helper has it
stepped_version : (s : HelperState) (refused : Bool) (m : Message) → (step s refused m).version ≡ version_after s.version m
stepped_version s refused (messages.Open number depth) = refl
stepped_version s refused (messages.Updates us) = refl
stepped_version s refused messages.EndStream = refl
stepped_version s refused (messages.Query q) = refl
stepped_version s refused (messages.Reveal r) = refl
stepped_version s refused messages.Bye = refl
stepped_version s refused (messages.Claim v) = refl
stepped_version s refused (messages.Poly a b c) = refl
stepped_version s refused (messages.Entries es) = refl
stepped_version s refused (messages.Siblings a b) = refl
stepped_version s refused (messages.Leaves ls) = refl
stepped_version s refused (messages.Nodes ns) = refl
stepped_version s refused messages.LevelEnd = refl
stepped_version s refused (messages.Refuse code) = refl
stepped_version s refused (messages.AskLook code item) = refl
stepped_version s refused (messages.Found flag index) = refl
stepped_version s refused messages.End = refl
stepped_version s refused (messages.AskMoment side degree) = refl
stepped_version s refused (messages.Held held) = refl
stepped_version s refused (messages.Recall count) = refl
stepped_version s refused (messages.Marks v) = refl
stepped_version s refused (messages.Power v) = refl

-- a spelling that was taken is a message to the helper
took_message : (version : Version) (bytes : List ℕ) (m : Message) → Took version ToHelper bytes m → IsMessage version m
took_message version bytes m took = record { has_spelling = took.has_spelling; to_helper = took.allowed; in_range = took.in_range }

-- the talk of a live link with the rest of a frame
frame_sent : (s : Option HelperState) (k : Kept) (bytes : List ℕ) (live : IsLive s k) → Follows live.steps (sent_part k ++ bytes) (left k) (k.talk.items ++ outs bytes)
frame_sent s k bytes live = follows_sent live.steps (sent_part k) (left k) bytes k.talk.items live.follows

heard_by : (s new : Option HelperState) (k l : Kept) (m : Message) (bytes : List ℕ) (live : IsLive s k) (may : Bool) → is_allowed (state_after live.steps) m ≡ may
    → IsMessage (state_after live.steps).version m → sent_part k ++ bytes ≡ spelling (state_after live.steps).version m → HearsBy may (state_after live.steps) m new
    → l.talk.items ≡ k.talk.items ++ outs bytes → sent_part l ≡ [] → l.version ≡ version_after (state_after live.steps).version m → left l ≡ left k → l.mood ≡ k.mood → Keeps new l
heard_by s new k l m bytes live true may is whole (refused, stepped) talk part version same mood =
    live_again new l (Heard m refused ∷ live.steps) [] (left k) (k.talk.items ++ outs bytes)
    (follows_heard live.steps m refused (left k) (k.talk.items ++ outs bytes) (subst (λ p. Follows live.steps p (left k) (k.talk.items ++ outs bytes)) whole (frame_sent s k bytes live)) is may)
    stepped talk part same (mood ∙ live.opened) (version ∙ sym (stepped_version (state_after live.steps) refused m))
heard_by s new k l m bytes live false may is whole stepped talk part version same mood = inr (inl (record {
  steps = live.steps;
  bytes = sent_part k ++ bytes;
  give = left k;
  now = k.talk.items ++ outs bytes;
  later = [];
  follows = frame_sent s k bytes live;
  why = inl (record { message = m; is = is; out = may; said = whole });
  split = talk ∙ sym (append-nil (k.talk.items ++ outs bytes));
}))

-- a frame was whole, and its message was heard
pub keeps_heard : (s new : Option HelperState) (k l : Kept) (m : Message) (bytes : List ℕ) → k.mood ≡ moods.Open → Hears s m new
    → l.talk.items ≡ k.talk.items ++ outs bytes
    → Takes k.version (sent_part k) bytes m l.version (sent_part l) taken.Whole → l.out ≡ k.out → l.at ≡ k.at → l.mood ≡ k.mood → Keeps s k → Keeps new l
keeps_heard s new k l m bytes opened hears talk takes out at mood (inl live) =
    let took = takes.0 in
    heard_by s new k l m bytes live (is_allowed (state_after live.steps) m) refl
    (subst (λ v. IsMessage v m) live.version (took_message k.version (sent_part k ++ bytes) m took))
    (took.spelled ∙ ap (λ v. spelling v m) live.version) (subst (λ x. Hears x m new) live.told hears) talk takes.2 (takes.1 ∙ ap (λ v. version_after v m) live.version) (rw (out, at) refl) mood
keeps_heard s new k l m bytes opened hears talk takes out at mood (inr (inl stray)) = inr (inl (stray_goes_on k.talk.items l.talk.items (outs bytes) talk stray))
keeps_heard s new k l m bytes opened hears talk takes out at mood (inr (inr p)) = absurd (not_over k opened p)

-- what was taken, by its name
as_taken : (version now : Version) (part bytes : List ℕ) (m : Message) (after : List ℕ) (t u : Taken) → t ≡ u → Takes version part bytes m now after t → Takes version part bytes m now after u
as_taken version now part bytes m after t u e p = subst (Takes version part bytes m now after) e p

-- a message that was taken has a spelling in version 2
pub taken_fits : (version now : Version) (part bytes after : List ℕ) (t : Taken) (m : Message) → t ≡ taken.Whole → Takes version part bytes m now after t → IsTrue (fits Two m)
taken_fits version now part bytes after t m e p = fits_two version m (as_taken version now part bytes m after t taken.Whole e p).0.has_spelling

-- a part of a frame was taken
pub keeps_part : (s : Option HelperState) (k l : Kept) (bytes : List ℕ) (t : Taken) (m : Message) → t ≡ taken.Part → l.talk.items ≡ k.talk.items ++ outs bytes
    → Takes k.version (sent_part k) bytes m l.version (sent_part l) t → l.out ≡ k.out → l.at ≡ k.at → l.mood ≡ k.mood → Keeps s k → Keeps s l
keeps_part s k l bytes t m e talk takes out at mood p =
    let both = as_taken k.version l.version (sent_part k) bytes m (sent_part l) t taken.Part e takes in
    keeps_sent s k l bytes talk both.1 both.0 out at mood p

-- a message was taken, and heard
pub keeps_whole : (s new : Option HelperState) (k l after : Kept) (bytes : List ℕ) (t : Taken) (m : Message) → t ≡ taken.Whole → k.mood ≡ moods.Open → Hears s m new
    → l.talk.items ≡ k.talk.items ++ outs bytes
    → Takes k.version (sent_part k) bytes m l.version (sent_part l) t → l.out ≡ k.out → l.at ≡ k.at → l.mood ≡ k.mood → after ≡ l → Keeps s k → Keeps new after
keeps_whole s new k l after bytes t m e opened hears talk takes out at mood same p =
    subst (Keeps new) (sym same) (keeps_heard s new k l m bytes opened hears talk (as_taken k.version l.version (sent_part k) bytes m (sent_part l) t taken.Whole e takes) out at mood p)

-- bytes were no frame
pub keeps_no_frame : (s any : Option HelperState) (k l : Kept) (bytes : List ℕ) → k.mood ≡ moods.Open → l.talk.items ≡ k.talk.items ++ outs bytes
    → IsNoFrame k.version ToHelper (sent_part k ++ bytes) → Keeps s k → Keeps any l
keeps_no_frame s any k l bytes opened talk none (inl live) = inr (inl (record {
  steps = live.steps;
  bytes = sent_part k ++ bytes;
  give = left k;
  now = k.talk.items ++ outs bytes;
  later = [];
  follows = frame_sent s k bytes live;
  why = inr (subst (λ v. IsNoFrame v ToHelper (sent_part k ++ bytes)) live.version none);
  split = talk ∙ sym (append-nil (k.talk.items ++ outs bytes));
}))
keeps_no_frame s any k l bytes opened talk none (inr (inl stray)) = inr (inl (stray_goes_on k.talk.items l.talk.items (outs bytes) talk stray))
keeps_no_frame s any k l bytes opened talk none (inr (inr p)) = absurd (not_over k opened p)

-- no frame was taken
pub keeps_stopped : (s any : Option HelperState) (k l : Kept) (now : Version) (after bytes : List ℕ) (t : Taken) (m : Message) (fault : WireFault) → t ≡ taken.NoFrame fault → k.mood ≡ moods.Open
    → l.talk.items ≡ k.talk.items ++ outs bytes → Takes k.version (sent_part k) bytes m now after t → Keeps s k → Keeps any l
keeps_stopped s any k l now after bytes t m fault e opened talk takes p =
    keeps_no_frame s any k l bytes opened talk (fault, (as_taken k.version now (sent_part k) bytes m after t (taken.NoFrame fault) e takes).0) p

-- nothing is given where nothing is left, and nothing where memory was refused
not_given : (mood : Mood) (s : HelperState) (give rest bytes more : List ℕ) (later : List TalkEvent) → mood ≢ moods.Failed → bytes ≢ [] → rest ≡ bytes ++ more → WasRight mood s give rest later → ⊥
not_given moods.Open s give rest bytes more later live some less right = right
not_given moods.Over s give rest [] more later live some less right = some refl
not_given moods.Over s give rest (b ∷ bytes) more later live some less right = let e : b ∷ (bytes ++ more) ≡ [] = sym less ∙ right.2 in absurd cc
not_given moods.Failed s give rest bytes more later live some less right = live refl

-- bytes were given
pub keeps_given : (s : Option HelperState) (k l : Kept) (bytes : List ℕ) → k.mood ≢ moods.Failed → bytes ≢ [] → left k ≡ bytes ++ left l → l.mood ≡ k.mood → sent_part l ≡ sent_part k → l.version ≡ k.version
    → l.talk.items ≡ k.talk.items ++ ins bytes → Keeps s k → Keeps s l
keeps_given s k l bytes well some less mood part version talk (inl live) =
    live_again s l live.steps (sent_part k) (left l) (k.talk.items ++ ins bytes) (follows_given live.steps (sent_part k) bytes (left l) k.talk.items (subst (λ g. Follows live.steps (sent_part k) g k.talk.items) less live.follows))
    live.told talk part refl (mood ∙ live.opened) (version ∙ live.version)
keeps_given s k l bytes well some less mood part version talk (inr (inl p)) = inr (inl (stray_goes_on k.talk.items l.talk.items (ins bytes) talk p))
keeps_given s k l bytes well some less mood part version talk (inr (inr p)) = absurd (not_given k.mood (state_after p.steps) p.give (left k) bytes (left l) p.later well some less p.right)

-- the end was told again
pub keeps_ended : (s : Option HelperState) (k l : Kept) → k.mood ≡ moods.Over → l.out ≡ k.out → l.at ≡ k.at → l.mood ≡ k.mood
    → l.talk.items ≡ k.talk.items ++ Ended ∷ [] → Keeps s k → Keeps s l
keeps_ended s k l over out at mood talk (inl live) = absurd (let e : moods.Over ≡ moods.Open = sym over ∙ live.opened in cc)
keeps_ended s k l over out at mood talk (inr (inl p)) = inr (inl (stray_goes_on k.talk.items l.talk.items (Ended ∷ []) talk p))
keeps_ended s k l over out at mood talk (inr (inr p)) =
    let r : WasRight moods.Over (state_after p.steps) p.give (left k) p.later = subst (λ x. WasRight x (state_after p.steps) p.give (left k) p.later) over p.right in
    let same : left l ≡ left k = rw (out, at) refl in
    inr (inr (record {
      steps = p.steps;
      part = p.part;
      give = p.give;
      now = p.now;
      later = p.later ++ Ended ∷ [];
      follows = p.follows;
      short = p.short;
      silent = heard-append p.later (Ended ∷ []) ∙ append-nil (heard p.later) ∙ p.silent;
      right = subst (λ x. WasRight x (state_after p.steps) p.give (left l) (p.later ++ Ended ∷ [])) (sym (mood ∙ over)) (r.0, r.1, same ∙ r.2, begins_still p.later (Ended ∷ []) r.3);
      split = talk ∙ ap (λ t. t ++ Ended ∷ []) p.split ∙ append_assoc p.now p.later (Ended ∷ []);
    }))

-- ---- what the helper answers, where nothing was left

left_none : (at : ℕ) (out : List ℕ) → at ≡ length out → drop at out ≡ []
left_none at out e = grind (arith, common_steps)

left_some : (at : ℕ) (out bytes after : List ℕ) → at ≡ length out → after ≡ out ++ bytes → drop at after ≡ bytes
left_some at out bytes after e longer = grind (arith, common_steps)

short_part : (s : Option HelperState) (k : Kept) (live : IsLive s k) → IsShort (state_after live.steps).version (sent_part k)
short_part s k live = subst (λ v. IsShort v (sent_part k)) live.version k.short

followed_to_end : (s : Option HelperState) (k : Kept) (live : IsLive s k) → left k ≡ [] → Follows live.steps (sent_part k) [] k.talk.items
followed_to_end s k live none = subst (λ g. Follows live.steps (sent_part k) g k.talk.items) none live.follows

answered_goes : (s new : Option HelperState) (k l : Kept) (bytes : List ℕ) → k.mood ≡ moods.Open → left k ≡ [] → left l ≡ bytes → l.mood ≡ k.mood → sent_part l ≡ sent_part k → l.version ≡ k.version
    → IsOwed s new bytes mores.Goes → l.talk.items ≡ k.talk.items → Keeps s k → Keeps new l
answered_goes s new k l bytes opened none some mood part version replied talk (inl live) =
    let told : IsOwed (Some (state_after live.steps)) new bytes mores.Goes = subst (λ x. IsOwed x new bytes mores.Goes) live.told replied in
    live_again new l (Answered ∷ live.steps) (sent_part k) (owed (state_after live.steps)) k.talk.items (follows_answered live.steps (sent_part k) k.talk.items (followed_to_end s k live none))
    told.1 talk part (some ∙ told.0) (mood ∙ live.opened) (version ∙ live.version)
answered_goes s new k l bytes opened none some mood part version replied talk (inr (inl p)) = inr (inl (stray_goes_on k.talk.items l.talk.items [] (talk ∙ sym (append-nil k.talk.items)) p))
answered_goes s new k l bytes opened none some mood part version replied talk (inr (inr p)) = absurd (not_over k opened p)

answered_over : (s new any : Option HelperState) (k l : Kept) → k.mood ≡ moods.Open → left k ≡ [] → left l ≡ [] → l.mood ≡ moods.Over
    → IsOwed s new [] mores.Ended → l.talk.items ≡ k.talk.items ++ Ended ∷ [] → Keeps s k → Keeps any l
answered_over s new any k l opened none still mood replied talk (inl live) =
    let told : IsOwed (Some (state_after live.steps)) new [] mores.Ended = subst (λ x. IsOwed x new [] mores.Ended) live.told replied in
    inr (inr (record {
      steps = live.steps;
      part = sent_part k;
      give = [];
      now = k.talk.items;
      later = Ended ∷ [];
      follows = followed_to_end s k live none;
      short = short_part s k live;
      silent = refl;
      right = subst (λ x. WasRight x (state_after live.steps) [] (left l) (Ended ∷ [])) (sym mood) (refl, sym told, still, ([], refl));
      split = talk;
    }))
answered_over s new any k l opened none still mood replied talk (inr (inl p)) = inr (inl (stray_goes_on k.talk.items l.talk.items (Ended ∷ []) talk p))
answered_over s new any k l opened none still mood replied talk (inr (inr p)) = absurd (not_over k opened p)

pub keeps_failed : (s any : Option HelperState) (k l : Kept) → k.mood ≡ moods.Open → k.at ≡ length (sink_bytes k.out) → l.mood ≡ moods.Failed
    → l.talk.items ≡ k.talk.items → Keeps s k → Keeps any l
keeps_failed s any k l opened none mood talk (inl live) = inr (inr (record {
  steps = live.steps;
  part = sent_part k;
  give = [];
  now = k.talk.items;
  later = [];
  follows = followed_to_end s k live (left_none k.at (sink_bytes k.out) none);
  short = short_part s k live;
  silent = refl;
  right = subst (λ x. WasRight x (state_after live.steps) [] (left l) []) (sym mood) (All-nil (λ (e : TalkEvent). e ≢ Ended));
  split = talk ∙ sym (append-nil k.talk.items);
}))
keeps_failed s any k l opened none mood talk (inr (inl p)) = inr (inl (stray_goes_on k.talk.items l.talk.items [] (talk ∙ sym (append-nil k.talk.items)) p))
keeps_failed s any k l opened none mood talk (inr (inr p)) = absurd (not_over k opened p)

pub asked_keeps : (E : Type 0) (s new : Option HelperState) (k l : Kept) (more : More) → k.mood ≡ moods.Open → k.at ≡ length (sink_bytes k.out)
    → Appends s new (sink_bytes k.out) (sink_bytes l.out) more → l.at ≡ k.at → l.mood ≡ k.mood → sent_part l ≡ sent_part k → l.version ≡ k.version → l.talk.items ≡ k.talk.items → Keeps s k → KeepsBy {E = E} new l (Ok more)
asked_keeps E s new k l mores.Goes opened none r at mood part version talk p =
    answered_goes s new k l r.bytes opened (left_none k.at (sink_bytes k.out) none) (left_some l.at (sink_bytes k.out) r.bytes (sink_bytes l.out) (at ∙ none) r.longer) mood part version r.owed talk p
asked_keeps E s new k l mores.Ended opened none r at mood part version talk p = λ m talk' out' at' mood'.
    let some : left l ≡ [] = left_some l.at (sink_bytes k.out) r.bytes (sink_bytes l.out) (at ∙ none) r.longer ∙ r.going in
    answered_over s new new k m opened (left_none k.at (sink_bytes k.out) none) (rw (out', at') some) mood' (subst (λ b. IsOwed s new b mores.Ended) r.going r.owed) (talk' ∙ ap (λ t. t ++ Ended ∷ []) talk) p

-- a helper that ended appended nothing
pub none_appended : {E : Type 0} (s new : Option HelperState) (before after : List ℕ) (more : More) → ◌≡◌ {A = Result More E} (Ok more) (Ok mores.Ended) → Appends s new before after more → after ≡ before
none_appended s new before after more is r =
    let ended : more ≡ mores.Ended = cc in
    r.longer ∙ ap (λ b. before ++ b) (subst (λ m. IsGoing m r.bytes) ended r.going) ∙ append-nil before

pub asked_some : (E : Type 0) (s new : Option HelperState) (k l : Kept) (more : More) → k.at ≡ length (sink_bytes k.out)
    → Appends s new (sink_bytes k.out) (sink_bytes l.out) more → l.at ≡ k.at → l.mood ≡ k.mood → HasAsked {E = E} k l (Ok more)
asked_some E s new k l mores.Goes none r at mood = (mood, λ e. r.going (sym (left_some l.at (sink_bytes k.out) r.bytes (sink_bytes l.out) (at ∙ none) r.longer) ∙ e))
asked_some E s new k l mores.Ended none r at mood = (mood, left_some l.at (sink_bytes k.out) r.bytes (sink_bytes l.out) (at ∙ none) r.longer ∙ r.going)

-- a link whose helper is gone, where it may be asked
gone_keeps : (k : Kept) → k.mood ≡ moods.Open → Keeps None k → KeepsEnded None k
gone_keeps k opened (inl live) m talk out at mood = absurd (let e : ◌≡◌ {A = Option HelperState} None (Some (state_after live.steps)) = live.told in cc)
gone_keeps k opened (inr (inl p)) m talk out at mood = inr (inl (stray_goes_on k.talk.items m.talk.items (Ended ∷ []) talk p))
gone_keeps k opened (inr (inr p)) m talk out at mood = absurd (not_over k opened p)

pub gone_keeps_as : (s t : Option HelperState) (k : Kept) → s ≡ None → t ≡ None → k.mood ≡ moods.Open → Keeps s k → KeepsEnded t k
gone_keeps_as s t k e f opened p = subst (λ x. KeepsEnded x k) (sym f) (gone_keeps k opened (subst (λ x. Keeps x k) e p))

-- a helper went on
pub goes_keeps : (E : Type 0) (s : Option HelperState) (k : Kept) (m : More) → m ≡ mores.Goes → KeepsBy {E = E} s k (Ok m) → Keeps s k
goes_keeps E s k m e p = subst (λ x. KeepsBy {E = E} s k (Ok x)) e p

-- nothing has happened
pub keeps_fresh : (s : Option HelperState) (k : Kept) → s ≡ Some fresh → k.talk.items ≡ [] → sent_part k ≡ [] → k.version ≡ fresh.version → sink_bytes k.out ≡ [] → k.at ≡ 0 → k.mood ≡ moods.Open → Keeps s k
keeps_fresh s k told talk part version out at opened =
    live_again s k [] [] [] [] (record { are = tt; sent = refl; came = refl; lasts = All-nil (λ (e : TalkEvent). e ≢ Ended) }) told talk part (ap (λ n. drop n (sink_bytes k.out)) at ∙ out) opened version

taken_some : (n : ℕ) (buf : List ℕ) → 0 < n → n ≤ length buf → take n buf ≢ []
taken_some n buf some most e = absurd (omega (arith, some, most, ap (λ l. length l) e, length-take n buf))

-- a whole give
pub gave : {E : Type 0} (s : Option HelperState) (k l : Kept) (buf : List ℕ) (r : Result ℕ E) → k.mood ≢ moods.Failed → l.mood ≡ k.mood → sent_part l ≡ sent_part k → l.version ≡ k.version → l.out ≡ k.out
    → IfOk r (λ n. (0 < n) × (n ≤ length buf))
    → MatchResult r (λ n. l.talk.items ≡ k.talk.items ++ ins (take n buf)) (λ _. l.talk.items ≡ k.talk.items)
    → MatchResult r (λ n. drop k.at (sink_bytes k.out) ≡ take n buf ++ drop l.at (sink_bytes l.out)) (λ _. l.at ≡ k.at) → Keeps s k → Keeps s l
gave s k l buf (Ok n) well mood part version out bound talk less p = keeps_given s k l (take n buf) well (taken_some n buf bound.0 bound.1) less mood part version talk p
gave s k l buf (Err e) well mood part version out bound talk less p = keeps_same s k l talk part version out less mood p

-- ---- what the promise says of the talk

why_over : (mood : Mood) (s : HelperState) (give rest : List ℕ) (later : List TalkEvent) → WasRight mood s give rest later
    → ((give ≡ []) × (owed s ≡ []) × BeginsWithEnd later) ⊎ All (λ (e : TalkEvent). e ≢ Ended) later
why_over moods.Open s give rest later right = absurd right
why_over moods.Over s give rest later right = inl (right.0, right.1, right.3)
why_over moods.Failed s give rest later right = inr right

-- the talk is an honest helper's
pub kept_is_honest : (s : Option HelperState) (k : Kept) → Keeps s k → IsHonestTalk k.talk.items
kept_is_honest s k (inl live) = inl (record { steps = live.steps; part = sent_part k; give = left k; follows = live.follows })
kept_is_honest s k (inr (inl stray)) = inr (inl stray)
kept_is_honest s k (inr (inr p)) = inr (inr (record {
  steps = p.steps;
  part = p.part;
  give = p.give;
  now = p.now;
  later = p.later;
  follows = p.follows;
  short = p.short;
  silent = p.silent;
  why = why_over k.mood (state_after p.steps) p.give (left k) p.later p.right;
  split = p.split;
}))
