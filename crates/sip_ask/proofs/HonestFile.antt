-- Where each content of a file is a sketch, that sketch is loaded, and no other one.
use Rattle.std.proofs.Common.{◌≡◌, ℕ, List, take, All, Option, Some, None, Ok, Err, sym, ap, ◌∙◌, arith, take_all}
use Rattle.std.proofs.lemmas.List.Elements.{All-contains}
use Rattle.sip_ports.specs.Desk.{Loads, loaded, may_hold}
use Rattle.sip_ports.specs.declared.desk.TheConstants.{LONGEST_LOAD}
use Rattle.sip_ports.specs.declared.port.TalkEvent.{TalkEvent}
use Rattle.sip_sketch.specs.Fields.{read}
use Rattle.sip_sketch.specs.Loaded.{IsBadFile}
use Rattle.sip_sketch.specs.Sketches.{IsSketch, SketchValues, numbers, sketch_file, spelled_file}
use Rattle.sip_sketch.proofs.Apart.{sketches_same}
use Rattle.sip_sketch.proofs.Exact.{is_read}
use Rattle.sip_ask.proofs.FileSizes.{file-short}

read-file : (s : SketchValues) → IsSketch s → read sketch_file (spelled_file s) ≡ Ok (numbers s)
read-file s is = is_read sketch_file (numbers s) is.values

-- two sketches of one file are one
pub file-once : (s t : SketchValues) → IsSketch s → IsSketch t → spelled_file s ≡ spelled_file t → s ≡ t
file-once s t is it same =
    let both : Ok (numbers s) ≡ Ok (numbers t) = sym (read-file s is) ∙ ap (read sketch_file) same ∙ read-file t it in
    sketches_same s t is it cc

module _ (start : Option (List ℕ)) (talk : List TalkEvent) (s : SketchValues) (is : IsSketch s)
    (all : All (λ (content : Option (List ℕ)). content ≡ Some (spelled_file s)) (may_hold start talk)) where
  -- what is loaded is its file
  pub loads-own : (file : Option (List ℕ)) → Loads start (Some talk) file → file ≡ Some (spelled_file s)
  loads-own file (content, has, same) =
      let own = All-contains (λ (c : Option (List ℕ)). c ≡ Some (spelled_file s)) (may_hold start talk) content all has in
      let whole : take LONGEST_LOAD (spelled_file s) ≡ spelled_file s = take_all LONGEST_LOAD (spelled_file s) (omega (arith, file-short s is)) in
      same ∙ ap loaded own ∙ ap Some whole

  -- so it is loaded, and no file is bad
  pub loaded-own : (t : SketchValues) → IsSketch t → Loads start (Some talk) (Some (spelled_file t)) → t ≡ s
  loaded-own t it loads =
      let both = loads-own (Some (spelled_file t)) loads in
      file-once t s it is cc

  pub never-bad : (file : Option (List ℕ)) (offset : ℕ) → Loads start (Some talk) file → IsBadFile file offset → ⊥
  never-bad None offset loads bad = let own = loads-own None loads in absurd cc
  never-bad (Some bytes) offset loads bad =
      let own = loads-own (Some bytes) loads in
      let same : bytes ≡ spelled_file s = cc in
      let both : Err offset ≡ Ok (numbers s) = sym bad ∙ ap (read sketch_file) same ∙ read-file s is in
      absurd cc
