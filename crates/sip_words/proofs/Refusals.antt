-- Words are refused at one number at most, and words of a command at none; the words tell the task.
use Rattle.std.proofs.Common.{◌≡◌, ℕ, suc, ◌+◌, ◌<◌, ◌≤◌, List, [], ◌∷◌, ◌++◌, Some, length, take, drop, sym, refl, ap, subst, ◌∙◌, inl, inr, arith}
use Rattle.std.specs.List.{slice_get}
use Rattle.std.proofs.lemmas.Bool.{cases_lt}
use Rattle.std.proofs.lemmas.List.{take-append-drop, take-take, append_assoc}
use Rattle.sip_stream.specs.declared.form.Form.{Form}
use Rattle.sip_vector.specs.declared.query.Query.{Query}
use Rattle.sip_vector.specs.Limits.{most_depth}
use Rattle.sip_verifier.specs.declared.task.Task.{Task}
use Rattle.sip_lookup.specs.declared.lookup.Lookup.{Lookup}
use Rattle.sip_lookup.specs.declared.task.LookTask.{LookTask}
use Rattle.sip_moments.specs.declared.moment.Moment.{Moment}
use Rattle.sip_moments.specs.declared.task.MomentTask.{MomentTask}
use Rattle.sip_words.specs.declared.command.Command.{Command}
use Rattle.sip_words.specs.declared.command.Command.TheVariants as command
use Rattle.sip_words.specs.declared.verb.Verb.{Verb}
use Rattle.sip_words.specs.declared.verb.Verb.TheVariants as verb
use Rattle.sip_words.specs.Shapes.{Asks, AsksLook, AsksMoment, HasForm, IsDepth}
use Rattle.sip_words.specs.Verbs.{depth_at}
use Rattle.sip_words.specs.Words.{word, IsCommandOf, SaysAll, SaysLooks, SaysMoments, SaysTask, Spells, BeginCommand, IsRefusedAt}
use Rattle.sip_words.proofs.QueryWords.{query_once}
use Rattle.sip_words.proofs.LookWords.{lookup_once}
use Rattle.sip_words.proofs.MomentWords.{moment_once}
use Rattle.sip_words.proofs.StreamWords.{form_once, stored_once}
use Rattle.sip_words.proofs.Beginning.{verb_once}
use Rattle.sip_words.proofs.HelperWords.{helper_once, helpers_once}
use Rattle.sip_words.proofs.Stopping.{depth_once}

-- fewer words begin a command too
pub begins_fewer : (words : List (List ℕ)) (m n : ℕ) → m ≤ n → BeginCommand (take n words) → BeginCommand (take m words)
begins_fewer words m n fewer (v, rest, is) =
    let parts = take-append-drop m (take n words) in
    let front = take-take m n words fewer in
    let split : take n words ≡ take m words ++ drop m (take n words) = sym (rw front at parts) in
    let whole : take n words ++ rest ≡ take m words ++ (drop m (take n words) ++ rest) = ap (λ ws. ws ++ rest) split ∙ append_assoc (take m words) (drop m (take n words)) rest in
    (v, drop m (take n words) ++ rest, subst (IsCommandOf v) whole is)

refused_before : (words : List (List ℕ)) (m n : ℕ) → m < n → IsRefusedAt words m → IsRefusedAt words n → ⊥
refused_before words m n less first second =
    elim (cases_lt m (length words)) [
      | inl more ↦ first.here more (begins_fewer words (m + 1) n (omega arith) second.before)
      | inr least ↦ (let one = (first.short least).0 in let other = (second.short (omega arith)).0 in omega arith)
    ]

-- what holds of no number and of a greater one holds of one number at most
pub one_at_most : (P : ℕ → Type 0) → ((m n : ℕ) → m < n → P m → P n → ⊥) → (m n : ℕ) → P m → P n → m ≡ n
one_at_most P never m n first second =
    elim (cases_lt m n) [
      | inl less ↦ absurd (never m n less first second)
      | inr least ↦ elim (cases_lt n m) [
        | inl more ↦ absurd (never n m more second first)
        | inr most ↦ omega arith
      ]
    ]

-- words are refused at one number at most
pub refused_once : (words : List (List ℕ)) (m n : ℕ) → IsRefusedAt words m → IsRefusedAt words n → m ≡ n
refused_once words = one_at_most (IsRefusedAt words) (refused_before words)

-- the verb of a command
abbrev pub verb_of : Command → Verb
verb_of (command.Verify task) = verb.Verify
verb_of command.Help = verb.Help
verb_of (command.Audit form) = verb.Audit
verb_of command.Show = verb.Show
verb_of command.Convert = verb.Convert
verb_of (command.Gen depth) = verb.Gen
verb_of (command.Lines form depth) = verb.Lines
verb_of (command.Widen form depth) = verb.Widen
verb_of (command.Play task name) = verb.Play
verb_of (command.Lookup task) = verb.Lookup
verb_of command.HelpLook = verb.HelpLook
verb_of (command.Moments task) = verb.Moments
verb_of command.HelpMoments = verb.HelpMoments
verb_of (command.Panel task names) = verb.Panel
verb_of (command.Serve form) = verb.Serve

-- the words of a command are whole
pub whole_of : (words : List (List ℕ)) (c : Command) → Spells words c → IsCommandOf (verb_of c) words
whole_of words (command.Verify task) s = s.0
whole_of words command.Help s = s
whole_of words (command.Audit form) s = s.0
whole_of words command.Show s = s
whole_of words command.Convert s = s
whole_of words (command.Gen depth) s = s.0
whole_of words (command.Lines form depth) s = s.0
whole_of words (command.Widen form depth) s = s.0
whole_of words (command.Play task name) s = s.0
whole_of words (command.Lookup task) s = s.0
whole_of words command.HelpLook s = s
whole_of words (command.Moments task) s = s.0
whole_of words command.HelpMoments s = s
whole_of words (command.Panel task names) s = s.0
whole_of words (command.Serve form) s = s.0

-- and are refused at no number
pub spelled_not_refused : (words : List (List ℕ)) (c : Command) (n : ℕ) → Spells words c → IsRefusedAt words n → ⊥
spelled_not_refused words c n s refused =
    let whole = whole_of words c s in
    elim (cases_lt n (length words)) [
      | inl more ↦ refused.here more (verb_of c, drop (n + 1) words, subst (IsCommandOf (verb_of c)) (sym (take-append-drop (n + 1) words)) whole)
      | inr least ↦ (refused.short least).1 (verb_of c) whole
    ]

-- two lists are one where they have the same at each place
lists_once : {X : Type 0} (xs ys : List X) → length xs ≡ length ys → ((i : ℕ) (x y : X) → slice_get xs i ≡ Some x → slice_get ys i ≡ Some y → x ≡ y) → xs ≡ ys
lists_once [] [] long same = refl
lists_once [] (y ∷ ys) long same = absurd (omega (arith, long))
lists_once (x ∷ xs) [] long same = absurd (omega (arith, long))
lists_once (x ∷ xs) (y ∷ ys) long same =
    let first : x ≡ y = same 0 x y refl refl in
    let rest : xs ≡ ys = lists_once xs ys (omega (arith, long)) (λ i. same (suc i)) in
    cc

-- words say one depth, one form and one list, where a word asks one thing
all_once : {Q : Type 0} (IsWord : ℕ → Q → List ℕ → Type 0) → ((d : ℕ) (q r : Q) (w : List ℕ) → d ≤ most_depth → IsWord d q w → IsWord d r w → q ≡ r)
    → (v : Verb) (words : List (List ℕ)) (d e : ℕ) (f g : Form) (asked other : List Q) → SaysAll IsWord v words d f asked → SaysAll IsWord v words e g other → (d ≡ e) × (f ≡ g) × (asked ≡ other)
all_once IsWord once v words d e f g asked other s t =
    let depth : d ≡ e = depth_once (word words (depth_at v)) d e s.depth t.depth in
    let u = subst (λ k. SaysAll IsWord v words k g other) (sym depth) t in
    let count = s.count in
    let count' = u.count in (
      depth,
      form_once d f g (word words 1) s.form u.form,
      lists_once asked other (omega arith) (λ i q r here there. once d q r (word words (1 + depth_at v + i)) s.depth.1 (s.each i q here) (u.each i r there)),
    )

-- what is made of equal parts is equal
alike : {Q T : Type 0} (of : ℕ → Form → List Q → T) (d e : ℕ) (f g : Form) (asked other : List Q) → (d ≡ e) × (f ≡ g) × (asked ≡ other) → of d f asked ≡ of e g other
alike of d e f g asked other (depth, form, same) = rw (depth, form, same) refl

-- words say one task at most
pub task_once : (v : Verb) (words : List (List ℕ)) (task other : Task) → SaysTask v words task → SaysTask v words other → task ≡ other
task_once v words task other s t =
    let of : ℕ → Form → List Query → Task = λ depth form items. record { depth = depth; form = form; queries = record { items = items } } in
    alike of _ _ _ _ _ _ (all_once Asks query_once v words _ _ _ _ _ _ s t)

looks_once : (words : List (List ℕ)) (task other : LookTask) → SaysLooks words task → SaysLooks words other → task ≡ other
looks_once words task other s t =
    let of : ℕ → Form → List Lookup → LookTask = λ depth form items. record { depth = depth; form = form; lookups = record { items = items } } in
    alike of _ _ _ _ _ _ (all_once AsksLook lookup_once verb.Lookup words _ _ _ _ _ _ s t)

moments_once : (words : List (List ℕ)) (task other : MomentTask) → SaysMoments words task → SaysMoments words other → task ≡ other
moments_once words task other s t =
    let of : ℕ → Form → List Moment → MomentTask = λ depth form items. record { depth = depth; form = form; moments = record { items = items } } in
    alike of _ _ _ _ _ _ (all_once AsksMoment moment_once verb.Moments words _ _ _ _ _ _ s t)

-- words have one verb
pub verbs_agree : (words : List (List ℕ)) (c d : Command) → Spells words c → Spells words d → verb_of c ≡ verb_of d
verbs_agree words c d s t =
    let a = whole_of words c s in
    let b = whole_of words d t in
    verb_once (verb_of c) (verb_of d) (sym a.first ∙ b.first)

-- a stream and a depth that words say are their only ones
copy_once : (words : List (List ℕ)) (f g : Form) (d e : ℕ) → HasForm d f (word words 1) → IsDepth d (word words 2) → HasForm e g (word words 1) → IsDepth e (word words 2) → (f ≡ g) × (d ≡ e)
copy_once words f g d e has is has' also =
    let depth = depth_once (word words 2) d e is also in
    (form_once d f g (word words 1) has (subst (λ k. HasForm k g (word words 1)) (sym depth) has'), depth)

-- words spell one command at most
pub command_once : (words : List (List ℕ)) (c d : Command) → Spells words c → Spells words d → c ≡ d
command_once words (command.Verify task) (command.Verify other) s t = ap command.Verify (task_once verb.Verify words task other s.1 t.1)
command_once words command.Help command.Help s t = refl
command_once words (command.Audit f) (command.Audit g) s t = ap command.Audit (stored_once f g (word words 1) s.1 t.1)
command_once words command.Show command.Show s t = refl
command_once words command.Convert command.Convert s t = refl
command_once words (command.Gen d) (command.Gen e) s t = ap command.Gen (depth_once (word words 3) d e s.1 t.1)
command_once words (command.Lines f d) (command.Lines g e) s t =
    let one = copy_once words f g d e s.1 s.2 t.1 t.2 in rw (one.0, one.1) refl
command_once words (command.Widen f d) (command.Widen g e) s t =
    let one = copy_once words f g d e s.1 s.2 t.1 t.2 in rw (one.0, one.1) refl
command_once words (command.Play task name) (command.Play other called) s t =
    let one = task_once verb.Play words task other s.1 t.1 in
    let same = helper_once (word words 3) name called s.2 t.2 in
    rw (one, same) refl
command_once words (command.Lookup task) (command.Lookup other) s t = ap command.Lookup (looks_once words task other s.1 t.1)
command_once words command.HelpLook command.HelpLook s t = refl
command_once words (command.Moments task) (command.Moments other) s t = ap command.Moments (moments_once words task other s.1 t.1)
command_once words command.HelpMoments command.HelpMoments s t = refl
command_once words (command.Panel task names) (command.Panel other called) s t =
    let one = task_once verb.Panel words task other s.1 t.1 in
    let same = helpers_once (word words 3) names.items called.items s.2 t.2 in
    let all : names ≡ called = ap (λ items. record { items = items }) same in
    rw (one, all) refl
command_once words (command.Serve f) (command.Serve g) s t = ap command.Serve (stored_once f g (word words 1) s.1 t.1)
command_once words c d s t = absurd (let same = verbs_agree words c d s t in cc)
