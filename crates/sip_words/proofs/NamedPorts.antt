-- Each file that a command opens has its name among the words, and what stands behind a mark can be cut off.
use Rattle.std.proofs.Common.{◌≡◌, ℕ, ◌<◌, ◌≤◌, List, ◌++◌, length, get_or, Option, None, IsSome, sym, subst, refl, ap, inl, inr, arith}
use Rattle.std.specs.Prelude.{codes}
use Rattle.std.specs.Str.{IsUtf8, IsCharBoundary}
use Rattle.std.proofs.lemmas.Bool.{false≢true}
use Rattle.std.proofs.lemmas.Str.{IsCharBoundary-after_ascii}
use Rattle.sip_words.specs.declared.command.Command.{Command}
use Rattle.sip_words.specs.declared.command.Command.TheVariants as command
use Rattle.sip_words.specs.declared.plan.Opening.{Opening}
use Rattle.sip_words.specs.declared.plan.Opening.TheVariants.{Nothing, Standard, Path}
use Rattle.sip_words.specs.declared.plan.PortPlan.{PortPlan}
use Rattle.sip_words.specs.declared.stream.Stream.{Stream}
use Rattle.sip_words.specs.declared.stream.Stream.TheVariants as stream
use Rattle.sip_stream.specs.declared.form.Form.{Form}
use Rattle.sip_stream.specs.declared.form.Form.TheVariants.{Binary, Text, Wide}
use Rattle.sip_words.specs.Plan.{HasName, HaveNames, IsMarked, IsUnlessDash, Opens, OpensUnkept, help_ports, opening_of, source_ports, stored_opening, transcript_ports}
use Rattle.sip_words.specs.Shapes.{IsStoredWord, IsStreamWord}
use Rattle.sip_words.specs.Words.{word, Spells}

-- a word that is there is a name
pub file_named : (words : List (List ℕ)) (n : ℕ) → n < length words → HasName words (Path n 0)
file_named words n more = (more, inl refl)

-- the name of a stream's file stands in word 1
pub stream_named : (words : List (List ℕ)) (s : Stream) (depth : ℕ) → 1 < length words → IsStreamWord s (word words 1) → HasName words (opening_of s depth)
stream_named words (stream.Made number count) depth more names = tt
stream_named words stream.Text depth more (path, some, is) = (more, inr (refl, (path, inl is)))
stream_named words stream.Wide depth more (path, some, is) = (more, inr (refl, (path, inr is)))
stream_named words stream.File depth more names = (more, inl refl)

-- so does that of a stream that a file holds
stored_named : (words : List (List ℕ)) (form : Form) → 1 < length words → IsStoredWord form (word words 1) → HasName words (stored_opening form)
stored_named words Binary more names = (more, inl refl)
stored_named words Text more (path, some, is) = (more, inr (refl, (path, inl is)))
stored_named words Wide more (path, some, is) = (more, inr (refl, (path, inr is)))

-- so does that of a file whose word may be a dash, where nothing is named by that
dashed_named : (words : List (List ℕ)) (dash : Opening) (n : ℕ) (is : Opening) → HasName words dash → n < length words → IsUnlessDash dash (word words n) n is → HasName words is
dashed_named words dash n is has more (inl (none, same)) = subst (HasName words) (sym same) has
dashed_named words dash n is has more (inr (some, same)) = subst (HasName words) (sym same) (file_named words n more)

-- so does that of the source of a copy
source_named : (words : List (List ℕ)) (s : Stream) (depth : ℕ) (plan : PortPlan) → 1 < length words → IsStreamWord s (word words 1) → plan ≡ source_ports (opening_of s depth) → HaveNames words plan
source_named words s depth plan more names is = subst (HaveNames words) (sym is) (record {
  first = stream_named words s depth more names;
  second = tt;
  from = tt;
  to = tt;
  keep = tt;
})

-- so does that of a transcript
transcript_named : (words : List (List ℕ)) (plan : PortPlan) → 1 < length words → plan ≡ transcript_ports → HaveNames words plan
transcript_named words plan more is = subst (HaveNames words) (sym is) (record {
  first = tt;
  second = file_named words 1 more;
  from = tt;
  to = tt;
  keep = tt;
})

-- so do those of a run whose talk is not kept
unkept_named : (words : List (List ℕ)) (depth : ℕ) (plan : PortPlan) → 4 < length words → OpensUnkept words depth plan → HaveNames words plan
unkept_named words depth plan more (s, names, is) = subst (HaveNames words) (sym is) (record {
  first = stream_named words s depth (omega arith) names;
  second = file_named words 2 (omega arith);
  from = file_named words 3 (omega arith);
  to = file_named words 4 (omega arith);
  keep = tt;
})

-- so do the two ends of a helper's link
help_named : (words : List (List ℕ)) (plan : PortPlan) → 2 < length words → plan ≡ help_ports → HaveNames words plan
help_named words plan more is = subst (HaveNames words) (sym is) (record {
  first = tt;
  second = tt;
  from = file_named words 1 (omega arith);
  to = file_named words 2 (omega arith);
  keep = tt;
})

-- all files of a command have their names
pub opens_named : (words : List (List ℕ)) (c : Command) (plan : PortPlan) → Spells words c → Opens words c plan → HaveNames words plan
opens_named words (command.Verify task) plan spells (s, names, keep, record_is, is) =
    let least = spells.0.least in
    subst (HaveNames words) (sym is) (record {
      first = stream_named words s task.depth (omega arith) names;
      second = file_named words 2 (omega arith);
      from = file_named words 3 (omega arith);
      to = file_named words 4 (omega arith);
      keep = dashed_named words Nothing 5 keep tt (omega arith) record_is;
    })
opens_named words command.Help plan spells is =
    let least = spells.least in help_named words plan (omega arith) is
opens_named words (command.Audit form) plan spells is =
    let least = spells.0.least in
    subst (HaveNames words) (sym is) (record {
      first = stored_named words form (omega arith) spells.1;
      second = file_named words 2 (omega arith);
      from = tt;
      to = tt;
      keep = tt;
    })
opens_named words command.Show plan spells is =
    let least = spells.least in transcript_named words plan (omega arith) is
opens_named words command.Convert plan spells is =
    let least = spells.least in transcript_named words plan (omega arith) is
opens_named words (command.Gen depth) plan spells (number, count, low, few, one, two, is) =
    subst (HaveNames words) (sym is) (record { first = tt; second = tt; from = tt; to = tt; keep = tt })
opens_named words (command.Lines form depth) plan spells (s, names, is) =
    let least = spells.0.least in source_named words s depth plan (omega arith) names is
opens_named words (command.Widen form depth) plan spells (s, names, is) =
    let least = spells.0.least in source_named words s depth plan (omega arith) names is
opens_named words (command.Play task name) plan spells (s, names, keep, record_is, is) =
    let least = spells.0.least in
    subst (HaveNames words) (sym is) (record {
      first = stream_named words s task.depth (omega arith) names;
      second = file_named words 2 (omega arith);
      from = tt;
      to = tt;
      keep = dashed_named words Nothing 4 keep tt (omega arith) record_is;
    })
opens_named words (command.Lookup task) plan spells opens =
    let least = spells.0.least in unkept_named words task.depth plan (omega arith) opens
opens_named words command.HelpLook plan spells is =
    let least = spells.least in help_named words plan (omega arith) is
opens_named words (command.Moments task) plan spells opens =
    let least = spells.0.least in unkept_named words task.depth plan (omega arith) opens
opens_named words command.HelpMoments plan spells is =
    let least = spells.least in help_named words plan (omega arith) is
opens_named words (command.Panel task names) plan spells (s, named, is) =
    let least = spells.0.least in
    subst (HaveNames words) (sym is) (record {
      first = stream_named words s task.depth (omega arith) named;
      second = file_named words 2 (omega arith);
      from = tt;
      to = tt;
      keep = tt;
    })
opens_named words (command.Serve form) plan spells (from, from_is, to, to_is, is) =
    let least = spells.0.least in
    subst (HaveNames words) (sym is) (record {
      first = stored_named words form (omega arith) spells.1;
      second = tt;
      from = dashed_named words Standard 2 from tt (omega arith) from_is;
      to = dashed_named words Standard 3 to tt (omega arith) to_is;
      keep = tt;
    })

-- a text with a colon behind four bytes can be cut there
cut_behind_colon : (text : List ℕ) → IsUtf8 text → 5 ≤ length text → get_or text 4 0 ≡ 58 → IsCharBoundary text 5
cut_behind_colon text utf8 long colon = IsCharBoundary-after_ascii text 4 utf8 (omega arith) (omega arith)

-- a text can be cut behind its mark
pub cut_behind_mark : (text : List ℕ) → IsUtf8 text → IsMarked text → IsCharBoundary text 5
cut_behind_mark text utf8 (path, inl is) =
    let long : length text ≡ length (codes "text:" ++ path) = ap length is in
    cut_behind_colon text utf8 (omega arith) (ap (λ t. get_or t 4 0) is)
cut_behind_mark text utf8 (path, inr is) =
    let long : length text ≡ length (codes "wide:" ++ path) = ap length is in
    cut_behind_colon text utf8 (omega arith) (ap (λ t. get_or t 4 0) is)

-- what is there is not missing
pub some_not_none : {T : Type 0} (o : Option T) → o ≡ None → IsSome o → ⊥
some_not_none o none some = false≢true (subst (λ x. IsSome x) none some)
