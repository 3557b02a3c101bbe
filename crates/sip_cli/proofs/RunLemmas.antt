-- The tasks that words say can be done; and which words and commands end with Usage.
use Rattle.std.proofs.Common.{◌≡◌, ℕ, ◌+◌, ◌-◌, ◌*◌, ◌<◌, ◌≤◌, List, All, length, get_or, true≢false, refl, sym, ap, subst, arith}
use Rattle.std.proofs.Math.Nat.{mul_comm}
use Rattle.std.proofs.lemmas.Option.{slice_get-get_or}
use Rattle.std.specs.Prelude.{◌↔◌}
use Rattle.arrayvec.specs.ArrayVec.{ArrayVec}
use Rattle.sip_stream.specs.declared.form.Form.{Form}
use Rattle.sip_stream.specs.declared.form.Form.TheVariants.{Binary, Text, Wide}
use Rattle.sip_stream.specs.Layouts.{deepest_in}
use Rattle.sip_vector.specs.Limits.{most_depth, most_narrow_depth}
use Rattle.sip_lookup.specs.declared.task.LookTask.{LookTask}
use Rattle.sip_lookup.specs.Lookups.{CanLook}
use Rattle.sip_lookup.specs.Tasks.{CanLookUp}
use Rattle.sip_moments.specs.declared.task.MomentTask.{MomentTask}
use Rattle.sip_moments.specs.Moments.{IsDegree}
use Rattle.sip_moments.specs.Tasks as moments
use Rattle.sip_verifier.specs.declared.status.Status.{Status}
use Rattle.sip_verifier.specs.declared.status.Status.TheVariants as statuses
use Rattle.sip_verifier.specs.declared.task.Task.{Task}
use Rattle.sip_verifier.specs.Tasks.{CanBeAsked, CanBeDone}
use Rattle.sip_words.specs.declared.command.Command.{Command}
use Rattle.sip_words.specs.declared.command.Command.TheVariants.{Verify, Help, Audit, Show, Convert, Gen, Lines, Widen, Play, Lookup, HelpLook, Moments, HelpMoments, Panel, Serve}
use Rattle.sip_words.specs.declared.helper_name.HelperName.{HelperName}
use Rattle.sip_words.specs.declared.verb.Verb.{Verb}
use Rattle.sip_words.specs.declared.verb.Verb.TheVariants as verbs
use Rattle.sip_cli.specs.Statuses.{Ends}
use Rattle.sip_words.specs.Verbs.{least_asked, shapes}
use Rattle.sip_words.specs.Words.{IsCommandOf, SaysAll, SaysTask, Spells, IsRefusedAt, word}
use Rattle.sip_wire.specs.Table.{most_queries}
use Rattle.sip_words.proofs.HelperWords.{count_named}
use Rattle.sip_words.proofs.Refusals.{refused_once, spelled_not_refused}

-- ---- tasks

module _ {Q : Type 0} {IsWord : ℕ → Q → List ℕ → Type 0} {verb : Verb}
    {words : List (List ℕ)} {depth : ℕ} {form : Form} {asked : List Q}
    (says : SaysAll IsWord verb words depth form asked) where
  -- where a verb asks something, its words do
  some_asked : least_asked verb ≡ 1 → IsCommandOf verb words → 0 < length asked
  some_asked one whole =
      let least = whole.least in
      let count = says.count in
      omega arith

  -- what the word of each says of it holds of all
  all_asked : (P : Q → Type 0) → ((q : Q) (word : List ℕ) → IsWord depth q word → P q)
      → All P asked
  all_asked P told i default less =
      let q = get_or asked i default in
      told q _ (says.each i q (slice_get-get_or asked i default less))

-- a task of queries that words say can be done
served_by : (verb : Verb) (words : List (List ℕ)) (task : Task) → least_asked verb ≡ 1
    → IsCommandOf verb words → SaysTask verb words task → CanBeDone task
served_by verb words task one whole says = record {
  some = some_asked says one whole;
  asked = all_asked says (CanBeAsked task.depth) (λ query word asks. (asks.0, asks.1));
}

-- and so can one that words spell
pub served : (words : List (List ℕ)) (task : Task) → Spells words (Verify task) → CanBeDone task
served words task (whole, says) = served_by verbs.Verify words task refl whole says

pub played : (words : List (List ℕ)) (task : Task) (name : HelperName)
    → Spells words (Play task name) → CanBeDone task
played words task name (whole, says, named) = served_by verbs.Play words task refl whole says

pub seated : (words : List (List ℕ)) (task : Task) (names : ArrayVec HelperName)
    → Spells words (Panel task names) → CanBeDone task
seated words task names (whole, says, named) = served_by verbs.Panel words task refl whole says

looked : (words : List (List ℕ)) (task : LookTask) → Spells words (Lookup task) → CanLookUp task
looked words task (whole, says) = record {
  some = some_asked says refl whole;
  items = all_asked says (CanLook task.depth) (λ lookup word asks. asks.0);
}

summed : (words : List (List ℕ)) (task : MomentTask) → Spells words (Moments task)
    → moments.CanBeDone task
summed words task (whole, says) = record {
  some = some_asked says refl whole;
  degrees = all_asked says (λ m. IsDegree m.degree) (λ moment word asks. asks.0);
}

-- a command that words spell, if it has a task, has one that can be done
pub served_task : (words : List (List ℕ)) (c : Command) → Spells words c
    → (task : Task) → c ≡ Verify task → CanBeDone task
served_task words c s task e = served words task (subst (Spells words) e s)

pub played_task : (words : List (List ℕ)) (c : Command) → Spells words c
    → (task : Task) (name : HelperName) → c ≡ Play task name → CanBeDone task
played_task words c s task name e = played words task name (subst (Spells words) e s)

pub looked_task : (words : List (List ℕ)) (c : Command) → Spells words c
    → (task : LookTask) → c ≡ Lookup task → CanLookUp task
looked_task words c s task e = looked words task (subst (Spells words) e s)

pub summed_task : (words : List (List ℕ)) (c : Command) → Spells words c
    → (task : MomentTask) → c ≡ Moments task → moments.CanBeDone task
summed_task words c s task e = summed words task (subst (Spells words) e s)

pub seated_task : (words : List (List ℕ)) (c : Command) → Spells words c
    → (task : Task) (names : ArrayVec HelperName) → c ≡ Panel task names → CanBeDone task
seated_task words c s task names e = seated words task names (subst (Spells words) e s)

-- ---- panels

-- each helper that words of `panel` name has a seat for each query
pub seats_for_all : (words : List (List ℕ)) (task : Task) (names : ArrayVec HelperName)
    → Spells words (Panel task names)
    → length names.items * length task.queries.items ≤ most_queries
seats_for_all words task names (whole, says, named) =
    let count = count_named (word words 3) names.items named in
    let some = some_asked says refl whole in
    let long = says.count in
    let queries = length task.queries.items in
    let seats = whole.seats (4 + queries) (omega arith) (omega arith) in
    let number : 4 + queries - length (shapes verbs.Panel) ≡ queries = omega arith in
    let all : queries * length names.items ≤ most_queries = rw (number, count) at seats in
    rw (mul_comm (length names.items) queries) all

-- ---- Usage

-- no command ends with it
ends_otherwise : (c : Command) (word : ℕ) → Ends c (statuses.Usage word) → ⊥
ends_otherwise (Verify task) word listed = absurd (true≢false (sym listed))
ends_otherwise Help word listed = listed
ends_otherwise (Audit form) word listed = absurd (true≢false (sym listed))
ends_otherwise Show word listed = absurd (true≢false (sym listed))
ends_otherwise Convert word listed = absurd (true≢false (sym listed))
ends_otherwise (Gen depth) word listed = listed
ends_otherwise (Lines form depth) word listed = listed
ends_otherwise (Widen form depth) word listed = listed
ends_otherwise (Play task name) word listed = absurd (true≢false (sym listed))
ends_otherwise (Lookup task) word listed = absurd (true≢false (sym listed))
ends_otherwise HelpLook word listed = listed
ends_otherwise (Moments task) word listed = absurd (true≢false (sym listed))
ends_otherwise HelpMoments word listed = listed
ends_otherwise (Panel task names) word listed = absurd (true≢false (sym listed))
ends_otherwise (Serve form) word listed = listed

pub never_usage : (c : Command) (status : Status) (word : ℕ)
    → Ends c status → status ≡ statuses.Usage word → ⊥
never_usage c status word listed e = ends_otherwise c word (subst (Ends c) e listed)

-- words that spell a command are refused nowhere, and it does not end with Usage
pub usage_never : (words : List (List ℕ)) (c : Command) (status : Status) (word : ℕ)
    → Spells words c → Ends c status → (status ≡ statuses.Usage word) ↔ IsRefusedAt words word
usage_never words c status word s listed = (
  λ e. absurd (never_usage c status word listed e),
  λ refused. absurd (spelled_not_refused words c word s refused),
)

-- refused words are refused at the number that is answered, and there alone
pub usage_at : (words : List (List ℕ)) (word other : ℕ) → IsRefusedAt words word
    → (statuses.Usage word ≡ statuses.Usage other) ↔ IsRefusedAt words other
usage_at words word other refused = (
  λ e. let same : word ≡ other = cc in subst (IsRefusedAt words) same refused,
  λ also. ap statuses.Usage (refused_once words word other refused also),
)

-- ---- copies

-- only binary records have no room for the items of each depth
pub room_for : (depth : ℕ) (to : Form) → depth ≤ most_depth
    → (to ≡ Binary → depth ≤ most_narrow_depth) → depth ≤ deepest_in to
room_for depth Binary most narrow = narrow refl
room_for depth Text most narrow = most
room_for depth Wide most narrow = most
